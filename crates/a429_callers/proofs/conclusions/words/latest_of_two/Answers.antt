use Rattle.std.proofs.Common.{◌≡◌, ◌∙◌, [], ◌∷◌, sym, ap}
use Rattle.std.specs.Prelude.{Some}
use Rattle.a429_slots.specs.Answers.{answer}
use Rattle.a429_slots.specs.Events.{Event, Arrive, Cell}
use Rattle.a429_slots.specs.History.{Opening}
use Rattle.a429_slots.specs.declared.answers.Answer.TheVariants.{Accepted, Sent}
use Rattle.a429_callers.proofs.Latest.{answered, second_sent}
use Rattle.a429_callers.proofs.conclusions.words.latest_of_two.Goals as goal

pub returns : goal.returns
returns c same =
    let o : Opening = record { proposal = c.args.proposal; first = 0 } in
    let x : Event = Arrive c.args.receiver c.args.first in
    let y : Event = Arrive c.args.receiver c.args.second in
    let s0 = c.in-Ok.ensures.stands in
    let s1 = c.step.ensures.stands o [] s0 in
    let s2 = c.step-2.ensures.stands o (x ∷ []) s1 in
    let i = c.in-Ok-Accepted in
    let j = c.in-Ok-Accepted-step in
    let k = c.in-Ok-Sent-default-default-Some in
    let one : answer 41 o [] x ≡ Accepted i.one = answered (answer 41 o [] x) i.field-0 (i.ensures.answer o [] s0) ∙ i.field-0-is in
    let other : answer 41 o (x ∷ []) y ≡ Accepted j.other = answered (answer 41 o (x ∷ []) y) j.field-0 (j.ensures.answer o (x ∷ []) s1) ∙ j.field-0-is in
    let sent : answer 41 o (x ∷ y ∷ []) (Cell 0) ≡ Sent k.field-0-0 k.field-0-1 (Some k.word) =
    answered (answer 41 o (x ∷ y ∷ []) (Cell 0)) k.field-0 (k.ensures.answer o (x ∷ y ∷ []) s2) ∙ (k.field-0-is ∙ ap (Sent k.field-0-0 k.field-0-1) k.field-0-2-is) in
    c.raw.ensures.raw
    ∙ second_sent 41 o c.args.receiver c.args.first c.args.second i.one k.field-0-0 k.field-0-1 k.word c.word_was_accepted.ensures s0.apart one (other ∙ ap Accepted (sym same)) sent
