use Rattle.std.proofs.Common.{ℕ, ◌/◌, ◌^◌, ◌≤◌, List, arith, ap}
use Rattle.std.proofs.lemmas.List.{get_or_read}
use Rattle.a429_pack.proofs.Entries.{up_to_greatest}
use Rattle.a429_pack.proofs.Packings.{demand_over}
use Rattle.a429_pack.proofs.Widenings.{cells-more}
use Rattle.a429_pack.proofs.widening.cells_of_all.Goals as goal

pub cells_of-requires : goal.cells_of-requires
cells_of-requires c =
    let ks : List ℕ = c.args.periods.now in
    let i : ℕ = c.loop-period.period-index in
    omega (arith, get_or_read ks i c.period-item.result c.loop-period-test.true c.period-item.is 0, up_to_greatest ks i c.loop-period-test.true)

pub loop-period-preserved : goal.loop-period-preserved
loop-period-preserved c =
    let ks : List ℕ = c.args.periods.now in
    let i : ℕ = c.loop-period.period-index in
    let k : ℕ = c.period-item.result in
    let h : ℕ = c.args.frame in
    let most : k ≤ h = omega (arith, get_or_read ks i k c.loop-period-test.true c.period-item.is 0, up_to_greatest ks i c.loop-period-test.true) in
    record {
      value = omega (arith, c.from-cells.ensures, c.cells_of.ensures.value, demand_over h k most, cells-more h ks i k c.loop-period-test.true, ap (λ z. 2 ^ h / 2 ^ z) c.period-item.is, c.loop-period.invariant.value);
      few = omega (arith, c.from-cells.ensures, c.cells_of.ensures.few, c.loop-period.invariant.few);
    }
