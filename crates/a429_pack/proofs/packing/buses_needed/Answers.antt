use Rattle.std.proofs.Common.{◌≡◌, ℕ, get_or, ◌+◌, ◌*◌, ◌^◌, arith, ◌∙◌}
use Rattle.a429_pack.proofs.Entries.{sum_more, demand_few, buses_few, blank}
use Rattle.a429_pack.proofs.packing.buses_needed.Goals as goal

pub loop-entry-preserved : goal.loop-entry-preserved
loop-entry-preserved c =
    let i : ℕ = c.loop-entry.entry-index in
    let h : ℕ = c.args.frame in
    let more : (i + 1) * 2 ^ h ≡ i * 2 ^ h + 2 ^ h = omega arith in
    record {
      value = omega (arith, c.from-total.ensures, c.demand.ensures.value, sum_more h c.args.entries.now i c.loop-entry-test.true, c.loop-entry.invariant.value);
      few = omega (arith, c.from-total.ensures, c.demand.ensures.few, c.loop-entry.invariant.few);
      room = omega (arith, c.from-total.ensures, c.demand.ensures.value, demand_few h (get_or c.args.entries.now i blank).exponent, c.loop-entry.invariant.room);
    }

pub overflow_cast-result : goal.overflow_cast-result
overflow_cast-result c =
    let few = buses_few c.loop-entry.total c.loop-entry.entry-index c.from.result c.args.frame c.div_ceil.result (c.from.ensures ∙ c.slots.ensures.value) c.loop-entry.invariant.room c.div_ceil.ensures in
    omega arith
