use Rattle.std.proofs.Common.{ℕ, ap, subst, sym}
use Rattle.std.specs.Prelude.{OnOk}
use Rattle.std.proofs.lemmas.Result.{on_ok_weaker}
use Rattle.a429_slots.specs.Events.{Arrive, Cell, Frame}
use Rattle.a429_replay.specs.Playing.{IsEventOf, PlaysOne}
use Rattle.a429_replay.specs.declared.script.ScriptEvent.{ScriptEvent}
use Rattle.a429_replay.specs.declared.script.ScriptEvent.TheVariants as script
use Rattle.a429_replay.proofs.PlayedLines.{played_answer}
use Rattle.a429_replay.proofs.playing.play.Goals as goal

pub returns-in-Arrive-clause-played : goal.returns-in-Arrive-clause-played
returns-in-Arrive-clause-played c =
    let law = c.calls_are_answered.ensures in
    let e = Arrive c.from.result c.in-Arrive.raw in
    let event = script.Arrive c.in-Arrive.receiver c.in-Arrive.raw in
    let of : IsEventOf c.args.further.now event e = (ap (λ (receiver : ℕ). Arrive receiver c.in-Arrive.raw) c.from.ensures) in
    subst (λ (ev : ScriptEvent). OnOk c.push_answer.result (PlaysOne c.args.view c.args.names.now c.args.further.now ev c.args.state.now c.arrive-answer.new.self
    c.args.lines.now.text.items c.push_answer.new.self.text.items)) (sym c.in-Arrive.is)
    (on_ok_weaker c.push_answer.result (λ line. played_answer law.answer law.stands c.args.view c.args.names.now c.args.further.now event e
    c.args.state.now c.arrive-answer.new.self c.arrive-answer.result c.args.lines.now.text.items c.push_answer.new.self.text.items tt of
    c.arrive-answer.ensures.answer c.arrive-answer.ensures.after line)
    c.push_answer.ensures.line)

pub returns-in-Cell-clause-played : goal.returns-in-Cell-clause-played
returns-in-Cell-clause-played c =
    let law = c.calls_are_answered.ensures in
    let e = Cell c.from-in-Cell.result in
    let event = script.Cell c.in-Cell.group in
    let of : IsEventOf c.args.further.now event e = (ap Cell c.from-in-Cell.ensures) in
    subst (λ (ev : ScriptEvent). OnOk c.push_answer-in-Cell.result (PlaysOne c.args.view c.args.names.now c.args.further.now ev c.args.state.now c.cell-answer.new.self
    c.args.lines.now.text.items c.push_answer-in-Cell.new.self.text.items)) (sym c.in-Cell.is)
    (on_ok_weaker c.push_answer-in-Cell.result (λ line. played_answer law.answer law.stands c.args.view c.args.names.now c.args.further.now event e
    c.args.state.now c.cell-answer.new.self c.cell-answer.result c.args.lines.now.text.items c.push_answer-in-Cell.new.self.text.items tt of
    c.cell-answer.ensures.answer c.cell-answer.ensures.after line)
    c.push_answer-in-Cell.ensures.line)

pub returns-in-Frame-clause-played : goal.returns-in-Frame-clause-played
returns-in-Frame-clause-played c =
    let law = c.calls_are_answered.ensures in
    let e = Frame c.from-in-Frame.result in
    let event = script.Frame c.in-Frame.group in
    let of : IsEventOf c.args.further.now event e = (ap Frame c.from-in-Frame.ensures) in
    subst (λ (ev : ScriptEvent). OnOk c.push_answer-in-Frame.result (PlaysOne c.args.view c.args.names.now c.args.further.now ev c.args.state.now c.frame-answer.new.self
    c.args.lines.now.text.items c.push_answer-in-Frame.new.self.text.items)) (sym c.in-Frame.is)
    (on_ok_weaker c.push_answer-in-Frame.result (λ line. played_answer law.answer law.stands c.args.view c.args.names.now c.args.further.now event e
    c.args.state.now c.frame-answer.new.self c.frame-answer.result c.args.lines.now.text.items c.push_answer-in-Frame.new.self.text.items tt of
    c.frame-answer.ensures.answer c.frame-answer.ensures.after line)
    c.push_answer-in-Frame.ensures.line)

pub returns-in-Publish-clause-played : goal.returns-in-Publish-clause-played
returns-in-Publish-clause-played c =
    subst (λ (event : ScriptEvent). OnOk c.play_publication.result (PlaysOne c.args.view c.args.names.now c.args.further.now event c.args.state.now c.play_publication.new.state
    c.args.lines.now.text.items c.play_publication.new.lines.text.items)) (sym c.in-Publish.is) c.play_publication.ensures.played
