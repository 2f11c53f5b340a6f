use Rattle.std.proofs.Common.{[], ◌∷◌, refl}
use Rattle.std.proofs.lemmas.Result.{on_ok_weaker}
use Rattle.a429_slots.specs.Events.{Publish}
use Rattle.a429_replay.specs.declared.script.ScriptEvent.TheVariants as script
use Rattle.a429_replay.proofs.PlayedLines.{played_answer}
use Rattle.a429_replay.proofs.further.publish_plan.Goals as goal

pub returns-clause-played : goal.returns-clause-played
returns-clause-played c = λ table is.
    let law = c.calls_are_answered.ensures in
    let q = c.args.proposal.now in
    on_ok_weaker c.push_answer.result
    (λ line. played_answer law.answer law.stands c.args.view c.args.names.now (table ∷ []) (script.Publish 1) (Publish q)
    c.args.state.now c.publish-answer.new.self c.publish-answer.result c.args.lines.now.text.items c.push_answer.new.self.text.items
    c.publish-answer.ensures.whole (table, q, refl, is, refl) c.publish-answer.ensures.answer c.publish-answer.ensures.after line)
    c.push_answer.ensures.line
