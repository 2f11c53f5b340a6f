use Rattle.std.proofs.Common.{◌≡◌, ℕ, ◌+◌, ◌-◌, ◌/◌, ◌<◌, ◌≤◌, List, Some, length, arith, ap}
use Rattle.a429_pack.specs.Sums.{start_of, Holds}
use Rattle.a429_pack.proofs.Halving.{halved_again, one_probe_more, few_probes, spread_again}
use Rattle.a429_pack.proofs.Tables.{start_more, start_rises, stretches_apart}
use Rattle.a429_pack.proofs.sums.SumTable.find_counted.Goals.{then-start-x, else-start-x}
use Rattle.a429_pack.proofs.sums.SumTable.find_counted.Goals as goal

pub overflow_add-probes : goal.overflow_add-probes
overflow_add-probes g c =
    let few : c.loop-left.probes ≤ 64 = few_probes c.loop-left.probes (length c.args.self.now) 64 c.loop-left.invariant.few (omega (arith, c.len-left.ensures.value, c.len-left.ensures.few, g.N.fits)) in
    omega arith

pub loop-left-preserved : goal.loop-left-preserved
loop-left-preserved g c =
    let ds : List ℕ = c.args.self.now in
    let low : ℕ = c.loop-left.low in
    let left : ℕ = c.loop-left.left in
    let half : ℕ = left / 2 in
    let rest : ℕ = left - half in
    let next : ℕ = c.if-start-x.low in
    let found : (next + rest ≤ length ds) × (start_of ds next ≤ c.args.x) × (c.args.x < start_of ds (next + rest)) =
    elim c.if-start-x.branch [
      | then-start-x w ↦
          let moved : start_of ds next ≡ start_of ds (low + half) = ap (start_of ds) w.low-is in
          let same : start_of ds (next + rest) ≡ start_of ds (low + left) = ap (start_of ds) (omega (arith, w.low-is)) in
          (omega (arith, w.low-is), omega (arith, moved, w.if-start-x, c.start.ensures), omega (arith, same, c.loop-left.invariant.below))
      | else-start-x w ↦
          let moved : start_of ds next ≡ start_of ds low = ap (start_of ds) w.low-is in
          let rises : start_of ds (low + half) ≤ start_of ds (next + rest) = start_rises ds (low + half) (next + rest) (omega (arith, w.low-is)) in
          (omega (arith, w.low-is), omega (arith, moved, c.loop-left.invariant.above), omega (arith, rises, w.if-start-x, c.start.ensures))
    ] in
    record {
      some = omega arith;
      within = found.0;
      above = found.1;
      below = found.2;
      halved = halved_again (rest - 1) (left - 1) c.loop-left.probes (length ds) (omega arith) c.loop-left.invariant.halved;
      few = one_probe_more (left - 1) c.loop-left.probes (length ds) (omega arith) c.loop-left.invariant.halved;
      spread = spread_again left rest c.loop-left.probes (length ds) (omega arith) c.loop-left.invariant.spread;
    }

pub returns-clause-only : goal.returns-clause-only
returns-clause-only g c i holds =
    let low : ℕ = c.loop-left.low in
    let ds : List ℕ = c.args.self.now in
    let next : low + c.loop-left.left ≡ low + 1 = omega arith in
    let there : Holds ds c.args.x low = (omega arith, omega arith, omega (arith, ap (start_of ds) next, start_more ds low (omega arith))) in
    ap Some (stretches_apart ds c.args.x low i there holds)
