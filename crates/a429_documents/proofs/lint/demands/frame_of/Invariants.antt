use Rattle.std.proofs.Common.{◌≡◌, ◌≤◌, map, take}
use Rattle.a429_pack.specs.Demands.{exponent_of, greatest}
use Rattle.a429_documents.proofs.lint.demands.frame_of.Given as goal

abbrev pub invariant-loop-demand : goal.invariant-loop-demand
invariant-loop-demand l = record {
  value : l.digits ≡ greatest (map exponent_of (take l.demand-index l.demands));
  few : l.digits ≤ 13;
}
