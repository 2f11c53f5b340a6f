use Rattle.std.proofs.Common.{◌≡◌, ◌∙◌, List, ap, sym, subst, ℕ}
use Rattle.std.specs.Prelude.{None, Option, Some, option_map}
use Rattle.a429_console.proofs.ReadingParts.{read_weaker}
use Rattle.a429_arguments.specs.Given.{text_given}
use Rattle.a429_arguments.specs.Requests.{asked_of}
use Rattle.a429_arguments.specs.declared.options.OptionName.TheVariants as option
use Rattle.a429_recordings.specs.Comparing.{SurveyedBy, UnsurveyedBy}
use Rattle.a429_console.specs.WholeReplies.{Replies}
use Rattle.a429_recordings.proofs.survey.survey_reply.Goals as goal

pub returns-in-Some-clause-answer : goal.returns-in-Some-clause-answer
returns-in-Some-clause-answer g c =
    let r = asked_of c.args.asked.now in
    let some : text_given r.given option.Table ≡ Some c.in-Some.table.now = sym c.text.ensures ∙ ap (option_map (λ t. t.now)) c.in-Some.is in
    read_weaker c.compared_reply.ensures.answer (λ file is.
    subst (λ (o : Option (List ℕ)). Replies (SurveyedBy o file r) (UnsurveyedBy o file r) c.compared_reply.result) (sym some) is)

pub returns-in-None-clause-answer : goal.returns-in-None-clause-answer
returns-in-None-clause-answer g c =
    let r = asked_of c.args.asked.now in
    let none : text_given r.given option.Table ≡ None = sym c.text.ensures ∙ ap (option_map (λ t. t.now)) c.in-None.is in
    read_weaker c.plain_reply.ensures.answer (λ file is.
    subst (λ (o : Option (List ℕ)). Replies (SurveyedBy o file r) (UnsurveyedBy o file r) c.plain_reply.result) (sym none) is)
