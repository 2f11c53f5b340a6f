use Rattle.std.proofs.Common.{◌≡◌, ℕ, ◌+◌, length, sum, arith, rules, ap, ◌∙◌}
use Rattle.a429_pack.proofs.Entries.{length-demands, sum_more, sum_part}
use Rattle.a429_pack.proofs.packing.sums_of.Goals as goal

pub push-requires : goal.push-requires
push-requires g c =
    let i : ℕ = c.loop-entry.entry-index in
    let h : ℕ = c.args.frame in
    let long : length c.loop-entry.sums ≡ i = ap length c.loop-entry.invariant ∙ length-demands h i c.args.entries.now (omega arith) in (
      search rules,
      (
        omega arith,
        (
          c.demand.ensures.some,
          omega (arith, ap sum c.loop-entry.invariant, sum_more h c.args.entries.now i c.loop-entry-test.true, sum_part h c.args.entries.now (i + 1), c.demand.ensures.value, c.requires.fits),
        ),
      ),
    )
