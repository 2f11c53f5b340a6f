use Rattle.std.proofs.Common.{◌≡◌, ◌≤◌, ◌*◌, ◌^◌, sum, take}
use Rattle.a429_pack.specs.Entries.{demands_of}
use Rattle.a429_pack.proofs.packing.buses_needed.Given as goal

abbrev pub invariant-loop-entry : goal.invariant-loop-entry
invariant-loop-entry l = record {
  value : l.total ≡ sum (demands_of l.frame (take l.entry-index l.entries));
  few : l.total ≤ 8192 * l.entry-index;
  room : l.total ≤ l.entry-index * 2 ^ l.frame;
}
