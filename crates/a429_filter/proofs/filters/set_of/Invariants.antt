use Rattle.std.proofs.Common.{◌≡◌, Some, take}
use Rattle.a429_filter.proofs.filters.set_of.Given as goal

abbrev pub invariant-loop-filter : goal.invariant-loop-filter
invariant-loop-filter l = l.set ≡ Some (take l.filter-index l.filters)
