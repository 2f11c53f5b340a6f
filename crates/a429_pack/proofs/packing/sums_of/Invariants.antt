use Rattle.std.proofs.Common.{◌≡◌, take}
use Rattle.a429_pack.specs.Entries.{demands_of}
use Rattle.a429_pack.proofs.packing.sums_of.Given as goal

abbrev pub invariant-loop-entry : goal.invariant-loop-entry
invariant-loop-entry g l = l.sums ≡ demands_of l.frame (take l.entry-index l.entries)
