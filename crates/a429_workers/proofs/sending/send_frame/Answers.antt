use Rattle.std.proofs.Common.{◌∙◌, ◌<◌, ap, refl, sym, subst, arith, Err}
use Rattle.std.specs.Prelude.{Result}
use Rattle.a429_workers.specs.declared.sending.SendFault.{SendFault}
use Rattle.std.proofs.lemmas.Result.{err_from_is_err_and}
use Rattle.a429_slots.specs.Tables.{cells_of}
use Rattle.a429_workers.specs.Sends.{IsFrame}
use Rattle.a429_workers.specs.GateOrder.{IsFrameInOrder}
use Rattle.a429_workers.specs.Gates.{points_of}
use Rattle.a429_workers.proofs.AtGate.{frame_order_cut, order_more}
use Rattle.a429_workers.proofs.Stretching.{frame_begins, frame_goes_on, frame_over, frame_stops, same_self, same_trans}
use Rattle.a429_workers.proofs.sending.send_frame.Goals as goal

pub loop-init : goal.loop-init
loop-init g c = record { frame = frame_begins _ _ _ c.requires.begins c.requires.room.0; failed = refl; same = same_self _; order = refl; passed = c.requires.passed }

pub send_cell-requires-clause-due : goal.send_cell-requires-clause-due
send_cell-requires-clause-due g c =
    let F = c.loop.invariant.frame in
    let all = c.cells-end.ensures.value in
    let same = ap (λ t. cells_of t) F.table in
    omega (arith, F.sent, same, all)

pub send_cell-requires-clause-room : goal.send_cell-requires-clause-room
send_cell-requires-clause-room g c =
    let F = c.loop.invariant.frame in
    (F.words, omega (arith, F.cells, c.cells-end.ensures.few))

pub returns-in_err-send_cell-clause-done : goal.returns-in_err-send_cell-clause-done
returns-in_err-send_cell-clause-done g c =
    let p = err_from_is_err_and c.from_residual.result c.from_residual.ensures.1 in
    let fault = c.in_err-send_cell.field-0.0 in
    subst (λ (r : Result (Unit {0}) SendFault). IsFrame c.args.transmit.now c.send_cell.new.transmit (g.B.BusSink.taken c.args.sink.now) (g.B.BusSink.taken c.send_cell.new.sink) c.args.totals.now c.send_cell.new.totals r)
    (sym (p.1 ∙ ap (λ (f : SendFault). Err f) p.2)) (frame_stops _ _ _ _ _ _ _ _ c.send_cell.new.totals _ fault c.loop.invariant.frame c.in_err-send_cell.ensures.done)

pub loop-preserved : goal.loop-preserved
loop-preserved g c =
    let F = c.loop.invariant.frame in
    let left : c.loop.transmit.frame.sent < cells_of c.loop.transmit.frame.table = omega (arith, F.sent, ap (λ t. cells_of t) F.table, c.cells-end.ensures.value) in
    record {
      frame = frame_goes_on _ _ _ _ _ _ _ _ _ _ F left c.in_ok-send_cell.ensures.done c.in_ok-send_cell.ensures.few;
      failed = c.in_ok-send_cell.ensures.failed ∙ c.loop.invariant.failed;
      same = same_trans _ _ _ c.loop.invariant.same c.send_cell.ensures.same;
      order = order_more (points_of g.G.Gate c.args.gate.now) g.B.BusSink c.args.group _ _ _ _ _ _ F.cells c.loop.invariant.order c.in_ok-send_cell.ensures.order.1;
      passed = c.in_ok-send_cell.ensures.gate;
    }

pub returns-clause-done : goal.returns-clause-done
returns-clause-done g c = frame_over _ _ _ _ _ _ c.loop.counter c.loop.invariant.frame (omega (arith, c.cells-end.ensures.value))

pub returns-clause-few : goal.returns-clause-few
returns-clause-few g c =
    let F = c.loop.invariant.frame in
    (F.words, omega (arith, F.cells, c.cells-end.ensures.few))

pub returns-clause-failed : goal.returns-clause-failed
returns-clause-failed g c = c.loop.invariant.failed

pub returns-in_err-send_cell-clause-order : goal.returns-in_err-send_cell-clause-order
returns-in_err-send_cell-clause-order g c =
    let p = err_from_is_err_and c.from_residual.result c.from_residual.ensures.1 in
    let fault = c.in_err-send_cell.field-0.0 in
    subst (λ (r : Result (Unit {0}) SendFault). IsFrameInOrder (points_of g.G.Gate c.args.gate.now) g.B.BusSink c.args.group c.args.totals.now.cells c.send_cell.new.totals.cells c.args.sink.now c.send_cell.new.sink r)
    (sym (p.1 ∙ ap (λ (f : SendFault). Err f) p.2)) (frame_order_cut (points_of g.G.Gate c.args.gate.now) g.B.BusSink c.args.group _ _ _ _ _ _ _ fault c.loop.invariant.frame.cells c.loop.invariant.order c.in_err-send_cell.ensures.order)

pub returns-clause-order : goal.returns-clause-order
returns-clause-order g c = record { many = c.loop.counter; counted = c.loop.invariant.frame.cells; cells = c.loop.invariant.order }
