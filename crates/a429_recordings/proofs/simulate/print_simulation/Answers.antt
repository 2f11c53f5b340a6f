use Rattle.std.proofs.Common.{sym}
use Rattle.std.proofs.lemmas.Result.{IfOk-weaker}
use Rattle.a429_recordings.specs.SimulationReplies.{IsSummary}
use Rattle.a429_recordings.proofs.SimulationPrinted.{reply_or_memory}
use Rattle.a429_recordings.proofs.simulate.print_simulation.Goals as goal

pub returns-then-form-clause-printed : goal.returns-then-form-clause-printed
returns-then-form-clause-printed g c = λ words last B.
    let s = c.args.simulation.now.writer in
    rw c.if-form.true (IfOk-weaker c.put_reply.result _ _
    (λ status put. (put.0, reply_or_memory (IsSummary s.proposal words last c.args.form.form) c.summary_reply-reply.result status put.0 (c.summary_reply-reply.ensures words last B) put.1, put.2))
    c.put_reply.ensures.put)

pub returns-else-form-clause-printed : goal.returns-else-form-clause-printed
returns-else-form-clause-printed g c = λ words last B.
    rw (c.plain_answer.ensures, c.if-form.false, sym c.requires.style) (c.print_lines.ensures.printed words last B)
