use Rattle.std.proofs.Common.{◌≡◌, ℕ, List, arith, ap, ◌∙◌}
use Rattle.a429_pack.proofs.Widenings.{freeable_by, freeable_more}
use Rattle.a429_pack.proofs.widening.cells_freed_by_all.Goals as goal

pub loop-period-preserved : goal.loop-period-preserved
loop-period-preserved c =
    let ks : List ℕ = c.args.periods.now in
    let i : ℕ = c.loop-period.period-index in
    let k : ℕ = c.period-item.result in
    let h : ℕ = c.args.frame in
    let low : ℕ = c.args.low in
    let one : c.from-cells.result ≡ freeable_by h low h k = c.from-cells.ensures ∙ c.cells_freed.ensures.value in
    record {
      value = omega (arith, one, freeable_more h low h ks i k c.loop-period-test.true, ap (freeable_by h low h) c.period-item.is, c.loop-period.invariant.value);
      few = omega (arith, c.from-cells.ensures, c.cells_freed.ensures.few, c.loop-period.invariant.few);
    }
