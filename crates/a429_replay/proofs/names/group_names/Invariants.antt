use Rattle.std.proofs.Common.{◌≡◌, ◌++◌, map, drop, string_bytes}
use Rattle.a429_replay.proofs.names.group_names.Given as goal

abbrev pub invariant-loop-row : goal.invariant-loop-row
invariant-loop-row l = map string_bytes l.names.items ++ map (λ g. g.name) (drop l.row-index l.rows) ≡ map (λ g. g.name) l.rows
