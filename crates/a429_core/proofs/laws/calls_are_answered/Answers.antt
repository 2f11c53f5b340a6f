use Rattle.a429_slots.proofs.Remembering.{AreRecalled}
use Rattle.a429_core.proofs.Steps.{step_is}
use Rattle.a429_core.proofs.laws.calls_are_answered.Goals as goal

pub returns-clause-answer : goal.returns-clause-answer
returns-clause-answer c C o E e v w S =
    let law : AreRecalled = record { none = c.sends_are_recalled.ensures.none; decides = c.sends_are_recalled.ensures.decides; sent = c.sends_are_recalled.ensures.sent; other = c.sends_are_recalled.ensures.other } in
    (step_is law C o E e v w S).answer

pub returns-clause-stands : goal.returns-clause-stands
returns-clause-stands c C e v w o E S =
    let law : AreRecalled = record { none = c.sends_are_recalled.ensures.none; decides = c.sends_are_recalled.ensures.decides; sent = c.sends_are_recalled.ensures.sent; other = c.sends_are_recalled.ensures.other } in
    (step_is law C o E e v w S).after
