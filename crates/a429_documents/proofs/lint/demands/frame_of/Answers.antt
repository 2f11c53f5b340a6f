use Rattle.std.proofs.Common.{ℕ, arith, ap}
use Rattle.a429_pack.specs.declared.demands.Demand.{Demand}
use Rattle.a429_pack.specs.Demands.{exponent_of}
use Rattle.a429_pack.proofs.Entries.{greater_is, greatest_more}
use Rattle.a429_documents.proofs.lint.demands.frame_of.Goals as goal

pub loop-demand-preserved : goal.loop-demand-preserved
loop-demand-preserved c =
    let i : ℕ = c.loop-demand.demand-index in
    let d : Demand = c.demand-item.result in
    let more = greatest_more c.args.demands.now i d c.loop-demand-test.true in
    let greater = greater_is c.loop-demand.digits c.digits.result in
    record {
      value = omega (arith, c.max-digits.ensures, c.digits.ensures.value, c.period_of.ensures, greater, more, c.loop-demand.invariant.value, ap exponent_of c.demand-item.is);
      few = omega (arith, c.max-digits.ensures, greater, c.digits.ensures.few, c.loop-demand.invariant.few);
    }
