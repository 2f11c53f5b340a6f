use Rattle.std.proofs.Common.{◌≡◌, ◌≤◌, ◌*◌, ◌^◌, take}
use Rattle.a429_pack.specs.Windows.{cells_asked}
use Rattle.a429_pack.proofs.bounds.raw_bound.Given as goal

abbrev pub invariant-loop-window : goal.invariant-loop-window
invariant-loop-window l = record {
  value : l.total ≡ cells_asked (2 ^ 32) (take l.window-index l.windows);
  few : l.total ≤ l.window-index * 2 ^ 32;
}
