use Rattle.std.proofs.Common.{map, string_bytes}
use Rattle.a429_replay.specs.NameLists.{AreFirst}
use Rattle.a429_replay.proofs.names.lists.count_first.Given as goal

abbrev pub invariant-loop-number : goal.invariant-loop-number
invariant-loop-number l = AreFirst (map string_bytes l.names) l.number
