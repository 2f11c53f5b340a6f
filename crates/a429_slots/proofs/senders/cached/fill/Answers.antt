use Rattle.std.proofs.Common.{◌^◌, arith, subst}
use Rattle.a429_slots.specs.Kept.{StandsJustAt}
use Rattle.a429_slots.proofs.MarkedCells.{all_cached, empty_cached, more_cached}
use Rattle.a429_slots.proofs.senders.cached.fill.Goals as goal

pub loop-number-init : goal.loop-number-init
loop-number-init c = record {
  many = c.clear.ensures.many (c.if-not-clear.false);
  each = empty_cached c.args.plan.now c.clear.new.cells.items c.clear.ensures.empty;
}

pub loop-number-preserved : goal.loop-number-preserved
loop-number-preserved c = record {
  many = c.mark.ensures.many;
  each =
      more_cached c.args.plan.now c.loop-number.number c.frame-slots.result c.place.result c.loop-number.cells.items c.mark.new.cells.items
      (subst (λ o. StandsJustAt c.args.plan.now o c.place.result.bus c.place.result.offset (2 ^ c.place.result.period)) c.new.ensures c.place.ensures.cells)
      c.loop-number.invariant.many
      c.mark.ensures.many
      c.mark.ensures.marked
      c.mark.ensures.others
      c.loop-number.invariant.each;
}

pub returns : goal.returns
returns c =
    all_cached c.args.plan.now c.loop-number.number c.loop-number.cells.items
    (omega (arith, c.loop-number-test.false, c.loop-number.auto.number-end, c.outputs-number-end.ensures.value))
    c.loop-number.invariant.each
