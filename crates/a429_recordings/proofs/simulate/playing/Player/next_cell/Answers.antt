use Rattle.std.proofs.Common.{◌≡◌, ◌-◌, ◌<◌, [], arith, refl, subst, sym}
use Rattle.std.specs.Prelude.{Option, Some, None, IfSome, MatchOption}
use Rattle.a429_recordings.specs.Simulating.{listed}
use Rattle.a429_recordings.specs.SimulationRuns.{CanBeUnderWay, GoesOn, cells_left}
use Rattle.a429_recordings.specs.declared.simulate.playing.SlotLeft.{SlotLeft}
use Rattle.a429_recordings.proofs.Played.{fewer_by, goes_cell, goes_nowhere, goes_turn, none_sent}
use Rattle.a429_recordings.proofs.simulate.playing.Player.next_cell.Goals as goal

pub loop-left-init : goal.loop-left-init
loop-left-init c = record {
  played = goes_nowhere c.args.proposal.now c.args.self.now.run (Some c.in_ok-left.left);
  slot = subst (λ (s : Option SlotLeft). IfSome s (CanBeUnderWay c.args.proposal.now)) c.in_ok-left.was c.requires.slot;
  few = omega arith;
  timeline = refl;
}

pub loop-left-preserved : goal.loop-left-preserved
loop-left-preserved c =
    let q = c.args.proposal.now in
    let r = c.args.self.now.run in
    let left = c.loop-left.left in
    let next : SlotLeft = record left { cells = left.cells - 1 } in
    record {
      played = subst (GoesOn q r (Some c.in_ok-left.left) c.send-sent.new.self (Some next)) (none_sent c.send-sent.result (sym c.if-is_some.ensures))
          (goes_cell q r c.loop-left.self.run c.send-sent.new.self c.in_ok-left.left left.group left.slot (left.cells - 1) left.cells c.send-sent.result (omega (arith, c.loop-left-test.true))
          c.loop-left.invariant.played (c.send-sent.ensures.step q c.loop-left.invariant.slot.0.0));
      slot = (c.loop-left.invariant.slot.0, omega (arith, c.loop-left.invariant.slot.1));
      few = omega (arith, c.loop-left.invariant.few);
      timeline = c.loop-left.invariant.timeline;
    }

pub returns-then-is_some-clause-cells : goal.returns-then-is_some-clause-cells
returns-then-is_some-clause-cells c =
    let q = c.args.proposal.now in
    let r = c.args.self.now.run in
    let left = c.loop-left.left in
    let next : SlotLeft = record left { cells = left.cells - 1 } in (
      subst (λ (s : Option SlotLeft). GoesOn q r s c.send-sent.new.self (Some next) (listed c.send-sent.result)) (sym c.in_ok-left.was)
          (goes_cell q r c.loop-left.self.run c.send-sent.new.self c.in_ok-left.left left.group left.slot (left.cells - 1) left.cells c.send-sent.result (omega (arith, c.loop-left-test.true))
          c.loop-left.invariant.played (c.send-sent.ensures.step q c.loop-left.invariant.slot.0.0)),
      c.loop-left.invariant.timeline,
    )

pub returns-clause-cells : goal.returns-clause-cells
returns-clause-cells c =
    let q = c.args.proposal.now in
    let r = c.args.self.now.run in
    let left = c.loop-left.left in (
      subst (λ (s : Option SlotLeft). GoesOn q r s c.turn_after.new.self None []) (sym c.in_ok-left.was)
          (goes_turn q r c.loop-left.self.run c.turn_after.new.self c.in_ok-left.left left.group left.slot 0 left.cells (omega (arith, c.loop-left-test.false)) c.loop-left.invariant.played c.turn_after.ensures),
      c.loop-left.invariant.timeline,
    )

pub returns-then-is_some-clause-fewer : goal.returns-then-is_some-clause-fewer
returns-then-is_some-clause-fewer c =
    let left = c.loop-left.left in
    let next : SlotLeft = record left { cells = left.cells - 1 } in
    subst (λ (s : Option SlotLeft). MatchOption c.send-sent.result (Some next ≡ None) (λ _. left.cells - 1 < cells_left s)) (sym c.in_ok-left.was)
    (fewer_by c.send-sent.result (Some next) (left.cells - 1) c.in_ok-left.left.cells (sym c.if-is_some.ensures) (omega (arith, c.loop-left-test.true, c.loop-left.invariant.few)))
