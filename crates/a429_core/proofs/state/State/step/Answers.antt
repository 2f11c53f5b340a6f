use Rattle.std.proofs.Common.{◌∙◌, ap, sym, subst, ◌∷◌, [], ◌++◌, Ok}
use Rattle.a429_core.specs.Happened.{event_of}
use Rattle.a429_core.specs.MachineStates.{StandsForHistory}
use Rattle.a429_core.proofs.Steps.{step_is}
use Rattle.a429_word.proofs.Lists.{same_Ok}
use Rattle.a429_core.proofs.Unmoved.{unmoved, IsRefused}
use Rattle.a429_slots.specs.declared.answers.Answer.TheVariants.{Refused}
use Rattle.a429_core.proofs.state.State.step.Goals as goal

pub returns-clause-answer : goal.returns-clause-answer
returns-clause-answer g c o E S = ap (λ a. Ok a) (c.take.ensures.answer ∙ (step_is (record { none = c.sends_are_recalled.ensures.none; decides = c.sends_are_recalled.ensures.decides; sent = c.sends_are_recalled.ensures.sent; other = c.sends_are_recalled.ensures.other }) g.row.C o E (event_of c.args.event) c.args.self.now c.take.ensures.whole S).answer)

pub returns-clause-stands : goal.returns-clause-stands
returns-clause-stands g c o E S = subst (StandsForHistory g.row.C o (E ++ event_of c.args.event ∷ [])) (sym c.take.ensures.after) (step_is (record { none = c.sends_are_recalled.ensures.none; decides = c.sends_are_recalled.ensures.decides; sent = c.sends_are_recalled.ensures.sent; other = c.sends_are_recalled.ensures.other }) g.row.C o E (event_of c.args.event) c.args.self.now c.take.ensures.whole S).after

pub returns-clause-refused : goal.returns-clause-refused
returns-clause-refused g c why is =
    c.take.ensures.after
    ∙ unmoved g.row.C c.args.self.now (event_of c.args.event) (subst IsRefused (sym (sym c.take.ensures.answer ∙ same_Ok c.take.result (Refused why) is)) (record {}))
