use Rattle.std.proofs.Common.{◌≡◌, ◌*◌, ◌/◌, ◌^◌, ◌≤◌, map, sum, take}
use Rattle.a429_pack.specs.Demands.{exponents_of}
use Rattle.a429_documents.proofs.lint.demands.cells_of.Given as goal

abbrev pub invariant-loop-demand : goal.invariant-loop-demand
invariant-loop-demand l = record {
  value : l.cells ≡ sum (map (λ k. 2 ^ l.frame / 2 ^ k) (exponents_of (take l.demand-index l.demands)));
  few : l.cells ≤ 8192 * l.demand-index;
}
