use Rattle.std.proofs.Common.{◌≡◌, ◌++◌, map, drop}
use Rattle.a429_replay.proofs.names.source_names.Given as goal

abbrev pub invariant-loop-row : goal.invariant-loop-row
invariant-loop-row l = l.names.items ++ map (λ s. s.name) (drop l.row-index l.rows) ≡ map (λ s. s.name) l.rows
