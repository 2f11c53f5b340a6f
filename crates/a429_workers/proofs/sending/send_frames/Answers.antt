use Rattle.std.proofs.Common.{rules, ◌∙◌, ap, refl, sym, subst, Err}
use Rattle.std.specs.Prelude.{Result}
use Rattle.std.proofs.lemmas.Result.{err_from_is_err_and}
use Rattle.a429_workers.specs.declared.sending.SendFault.{SendFault}
use Rattle.a429_workers.specs.declared.sending.SendTotals.{SendTotals}
use Rattle.a429_workers.specs.Sends.{AreSent, sending}
use Rattle.a429_workers.specs.GateOrder.{IsLoopInOrder}
use Rattle.a429_workers.specs.Gates.{points_of}
use Rattle.a429_workers.proofs.AtGate.{frames_order_cut, frames_order_end, frames_order_on}
use Rattle.std.proofs.lemmas.Bool.Decides.{nat_tests}
use Rattle.a429_workers.proofs.Stretching.{frame_first, frames_end, frames_go_on, frames_stop, none_sent, same_trans}
use Rattle.a429_workers.proofs.sending.send_frames.Goals as goal

pub returns-then-frames-eq0-clause-sent : goal.returns-then-frames-eq0-clause-sent
returns-then-frames-eq0-clause-sent g c = none_sent _ _ _ _ _ _ (search (rules, nat_tests)) (search rules)

pub returns-in_err-send_frame-clause-sent : goal.returns-in_err-send_frame-clause-sent
returns-in_err-send_frame-clause-sent g c =
    let p = err_from_is_err_and c.from_residual.result c.from_residual.ensures.1 in
    let fault = c.in_err-send_frame.field-0.0 in
    subst (λ (r : Result SendTotals SendFault). AreSent (points_of g.G.Gate c.args.gate.now) c.args.group c.args.frames (sending c.args.transmit.now (g.B.BusSink.taken c.args.sink.now)) (sending c.send_frame.new.transmit (g.B.BusSink.taken c.send_frame.new.sink)) r)
    (sym (p.1 ∙ ap (λ (f : SendFault). Err f) p.2))
    (frame_first (points_of g.G.Gate c.args.gate.now) c.args.group _ refl _ _ _ _ c.send_frame.new.totals _ fault (search (rules, nat_tests)) c.in_err-send_frame.ensures.done c.in_err-send_frame.ensures.gate)

pub returns-in_err-next_frame-clause-sent : goal.returns-in_err-next_frame-clause-sent
returns-in_err-next_frame-clause-sent g c =
    let p = err_from_is_err_and c.from_residual-in_err-next_frame.result c.from_residual-in_err-next_frame.ensures.1 in
    let fault = c.in_err-next_frame.field-0.0 in
    subst (λ (r : Result SendTotals SendFault). AreSent (points_of g.G.Gate c.args.gate.now) c.args.group c.args.frames (sending c.args.transmit.now (g.B.BusSink.taken c.args.sink.now)) (sending c.next_frame.new.transmit (g.B.BusSink.taken c.loop.sink)) r)
    (sym (p.1 ∙ ap (λ (f : SendFault). Err f) p.2)) (frames_end (points_of g.G.Gate c.args.gate.now) c.args.group _ refl _ _ _ _ _ _ _ _ fault c.loop.invariant.frames c.loop-test.true c.in_err-next_frame.ensures.turn c.loop.invariant.passed)

pub returns-in_err-send_frame-2-clause-sent : goal.returns-in_err-send_frame-2-clause-sent
returns-in_err-send_frame-2-clause-sent g c =
    let p = err_from_is_err_and c.from_residual-in_err-send_frame-2.result c.from_residual-in_err-send_frame-2.ensures.1 in
    let fault = c.in_err-send_frame-2.field-0.0 in
    subst (λ (r : Result SendTotals SendFault). AreSent (points_of g.G.Gate c.args.gate.now) c.args.group c.args.frames (sending c.args.transmit.now (g.B.BusSink.taken c.args.sink.now)) (sending c.send_frame-in-loop.new.transmit (g.B.BusSink.taken c.send_frame-in-loop.new.sink)) r)
    (sym (p.1 ∙ ap (λ (f : SendFault). Err f) p.2))
    (frames_stop (points_of g.G.Gate c.args.gate.now) c.args.group _ refl _ _ _ _ _ _ _ _ c.send_frame-in-loop.new.totals _ _ fault c.loop.invariant.frames c.loop-test.true c.in_ok-next_frame.ensures.turn c.in_err-send_frame-2.ensures.done c.in_err-send_frame-2.ensures.gate)

pub loop-preserved : goal.loop-preserved
loop-preserved g c = record {
  frames = frames_go_on _ _ c.next_frame.new.transmit _ _ _ _ _ _ _ _ c.loop.invariant.frames c.in_ok-next_frame.ensures.turn c.in_ok-send_frame-2.ensures.done c.in_ok-send_frame-2.ensures.few;
  failed = c.in_ok-send_frame-2.ensures.failed ∙ c.loop.invariant.failed;
  same = same_trans _ _ _ c.loop.invariant.same (same_trans _ _ _ c.next_frame.ensures.same c.send_frame-in-loop.ensures.same);
  order = frames_order_on (points_of g.G.Gate c.args.gate.now) g.B.BusSink c.args.group _ _ _ _ _ c.loop.invariant.order c.in_ok-send_frame-2.ensures.order;
  passed = c.in_ok-send_frame-2.ensures.gate;
}

pub returns-in_err-send_frame-clause-order : goal.returns-in_err-send_frame-clause-order
returns-in_err-send_frame-clause-order g c =
    let p = err_from_is_err_and c.from_residual.result c.from_residual.ensures.1 in
    let fault = c.in_err-send_frame.field-0.0 in
    subst (λ (r : Result SendTotals SendFault). IsLoopInOrder (points_of g.G.Gate c.args.gate.now) g.B.BusSink c.args.group c.args.sink.now c.send_frame.new.sink r)
    (sym (p.1 ∙ ap (λ (f : SendFault). Err f) p.2))
    (frames_order_cut (points_of g.G.Gate c.args.gate.now) g.B.BusSink c.args.group 0 _ _ _ _ fault refl c.in_err-send_frame.ensures.order)

pub returns-in_err-next_frame-clause-order : goal.returns-in_err-next_frame-clause-order
returns-in_err-next_frame-clause-order g c =
    let p = err_from_is_err_and c.from_residual-in_err-next_frame.result c.from_residual-in_err-next_frame.ensures.1 in
    let fault = c.in_err-next_frame.field-0.0 in
    subst (λ (r : Result SendTotals SendFault). IsLoopInOrder (points_of g.G.Gate c.args.gate.now) g.B.BusSink c.args.group c.args.sink.now c.loop.sink r)
    (sym (p.1 ∙ ap (λ (f : SendFault). Err f) p.2))
    (frames_order_end (points_of g.G.Gate c.args.gate.now) g.B.BusSink c.args.group _ _ _ fault c.in_err-next_frame.ensures.change c.loop.invariant.order)

pub returns-in_err-send_frame-2-clause-order : goal.returns-in_err-send_frame-2-clause-order
returns-in_err-send_frame-2-clause-order g c =
    let p = err_from_is_err_and c.from_residual-in_err-send_frame-2.result c.from_residual-in_err-send_frame-2.ensures.1 in
    let fault = c.in_err-send_frame-2.field-0.0 in
    subst (λ (r : Result SendTotals SendFault). IsLoopInOrder (points_of g.G.Gate c.args.gate.now) g.B.BusSink c.args.group c.args.sink.now c.send_frame-in-loop.new.sink r)
    (sym (p.1 ∙ ap (λ (f : SendFault). Err f) p.2))
    (frames_order_cut (points_of g.G.Gate c.args.gate.now) g.B.BusSink c.args.group _ _ _ _ _ fault c.loop.invariant.order c.in_err-send_frame-2.ensures.order)
