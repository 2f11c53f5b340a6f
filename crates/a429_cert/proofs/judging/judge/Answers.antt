use Rattle.std.proofs.Common.{◌∙◌, ap, sym}
use Rattle.a429_cert.specs.Verdicts.{verdict_of}
use Rattle.a429_cert.proofs.judging.judge.Goals as goal

pub returns-in-Ok-None-clause-answer : goal.returns-in-Ok-None-clause-answer
returns-in-Ok-None-clause-answer c =
    let due = c.in-Ok-None.ensures.answer in
    (due.0, due.1, ap verdict_of (sym c.in-Ok-None.field-0-is) ∙ due.2)

pub returns-in-Ok-None-clause-fewest : goal.returns-in-Ok-None-clause-fewest
returns-in-Ok-None-clause-fewest c = λ _. c.in-Ok-None.ensures.fewest c.in-Ok-None.field-0-is

pub returns-in-Ok-Some-clause-answer : goal.returns-in-Ok-Some-clause-answer
returns-in-Ok-Some-clause-answer c =
    let due = c.in-Ok-Some.ensures.answer in
    rw c.no.ensures (due.0, due.1, ap verdict_of (sym c.in-Ok-Some.field-0-is) ∙ due.2)
