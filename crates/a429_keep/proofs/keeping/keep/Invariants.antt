use Rattle.std.proofs.Common.{map}
use Rattle.a429_keep.specs.Rows.{row_view}
use Rattle.a429_keep.proofs.KeptGroups.{AreKeptTo}
use Rattle.a429_keep.proofs.keeping.keep.Given as goal

abbrev pub invariant-loop-group : goal.invariant-loop-group
invariant-loop-group l = AreKeptTo (map row_view l.rows.items) l.fn.proposal l.proposal l.group
