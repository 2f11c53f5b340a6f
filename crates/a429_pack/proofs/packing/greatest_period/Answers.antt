use Rattle.std.proofs.Common.{◌≡◌, ℕ, max, arith, ap, ◌∙◌, sym}
use Rattle.std.specs.Prelude.{unwrap_or}
use Rattle.a429_pack.specs.declared.demands.Demand.{Demand}
use Rattle.a429_pack.specs.Demands.{exponent_of}
use Rattle.a429_pack.proofs.Entries.{greater_is, greatest_more}
use Rattle.a429_pack.proofs.packing.greatest_period.Goals.{in-Some, in_default}
use Rattle.a429_pack.proofs.packing.greatest_period.Goals as goal

pub loop-demand-preserved : goal.loop-demand-preserved
loop-demand-preserved c =
    let i : ℕ = c.loop-demand.demand-index in
    let d : Demand = c.demand-item.result in
    let more = greatest_more c.args.demands.now i d c.loop-demand-test.true in
    elim c.match-demand.branch [
      | in-Some w ↦
          let exponent : w.digits.result ≡ exponent_of d = w.digits.ensures.value ∙ sym (ap (λ p. unwrap_or p 0) w.in-Some.is) in
          let greater : w.max-digits.result ≡ max c.loop-demand.digits w.digits.result = w.max-digits.ensures ∙ greater_is c.loop-demand.digits w.digits.result in
          record {
            value = omega (arith, w.digits-is, greater, more, exponent, c.loop-demand.invariant.value, ap exponent_of c.demand-item.is);
            few = omega (arith, w.digits-is, greater, w.digits.ensures.few, c.loop-demand.invariant.few);
          }
      | in_default w ↦
          let none : exponent_of d ≡ 0 = ap (λ p. unwrap_or p 0) w.in_default.is in
          record {
            value = omega (arith, w.digits-is, more, none, c.loop-demand.invariant.value, ap exponent_of c.demand-item.is);
            few = omega (arith, w.digits-is, c.loop-demand.invariant.few);
          }
    ]
