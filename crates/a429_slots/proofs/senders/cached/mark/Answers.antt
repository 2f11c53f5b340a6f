use Rattle.std.proofs.Common.{◌∙◌, ◌+◌, ◌*◌, ◌%◌, ◌^◌, ◌<◌, ap, arith, length}
use Rattle.std.proofs.lemmas.List.{length-set}
use Rattle.a429_slots.proofs.MarkedCells.{marked_next, next_on, others_stay}
use Rattle.a429_slots.proofs.senders.cached.mark.Goals as goal

pub loop-slot-preserved : goal.loop-slot-preserved
loop-slot-preserved c =
    let p = c.args.place in
    let slot = c.loop-slot.slot in
    let xs = c.loop-slot.cells.items in
    let kept = c.loop-slot.invariant in
    let there : slot * 16 + p.bus < length xs = omega (arith, kept.many, c.requires.few, c.requires.bus, c.loop-slot-test.true) in
    record {
      many = length-set xs (slot * 16 + p.bus) c.args.byte ∙ kept.many;
      period = kept.period;
      on = ap (λ n. (slot + n) % 2 ^ p.period) kept.period ∙ next_on slot (2 ^ p.period) p.offset kept.on;
      marked = λ i before here.
          marked_next p slot c.args.byte xs kept.on there kept.marked i (omega (arith, before, kept.period)) here;
      others = λ i other. others_stay p slot c.args.byte xs kept.on c.requires.bus i other ∙ kept.others i other;
    }
