use Rattle.std.proofs.Common.{◌≡◌, max, arith, ◌∙◌}
use Rattle.a429_pack.proofs.Entries.{greater_is}
use Rattle.a429_pack.proofs.Widenings.{greatest-more}
use Rattle.a429_pack.proofs.widening.greatest_of.Goals as goal

pub loop-period-preserved : goal.loop-period-preserved
loop-period-preserved c =
    let greater : c.max-digits.result ≡ max c.loop-period.digits c.digits.result = c.max-digits.ensures ∙ greater_is c.loop-period.digits c.digits.result in
    let more = greatest-more c.args.periods.now c.loop-period.period-index c.period-item.result c.loop-period-test.true in
    record {
      value = omega (arith, greater, more, c.digits.ensures.value, c.period-item.is, c.loop-period.invariant.value);
      few = omega (arith, greater, c.digits.ensures.few, c.loop-period.invariant.few);
    }
