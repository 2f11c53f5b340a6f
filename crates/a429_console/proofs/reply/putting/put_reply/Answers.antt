use Rattle.std.proofs.Common.{◌≤◌, ◌++◌, ◌∷◌, [], arith, refl}
use Rattle.a429_console.specs.RefusalText.{refusal_line}
use Rattle.a429_console.proofs.Refused.{both_ok}
use Rattle.a429_console.proofs.PutReplies.{done_is_few, done_put}
use Rattle.a429_console.proofs.reply.putting.put_reply.Goals as goal

pub returns-in-Ok-clause-put : goal.returns-in-Ok-clause-put
returns-in-Ok-clause-put g c =
    let reply = c.in-Ok.reply in
    rw (c.in-Ok.is, c.answer_with.ensures) (done_put c.put_answer.result _ (g.O.Output.contents c.args.out.now) (g.O.Output.contents c.put_answer.new.out) c.deref.result.now reply.bytes.items reply.status c.deref.ensures.value (refl, refl)
    c.put_answer.ensures.status c.put_answer.ensures.text)

pub returns-in-Ok-clause-status : goal.returns-in-Ok-clause-status
returns-in-Ok-clause-status g c =
    let reply = c.in-Ok.reply in
    let few : reply.status ≤ c.args.trouble = omega (arith, reply.few, c.requires) in
    rw c.answer_with.ensures (done_is_few c.put_answer.result reply.status c.args.trouble few c.put_answer.ensures.status)

pub returns-in-Err-clause-put : goal.returns-in-Err-clause-put
returns-in-Err-clause-put g c =
    rw c.in-Err.is (both_ok c.refuse_as.result _ _ (λ status one line. (refusal_line line.0 ++ 10 ∷ [], (line.0, line.1, one, refl), line.2)) c.refuse_as.ensures.status c.refuse_as.ensures.line)

pub returns-in-Err-clause-status : goal.returns-in-Err-clause-status
returns-in-Err-clause-status g c = done_is_few c.refuse_as.result c.args.trouble c.args.trouble (omega arith) c.refuse_as.ensures.status
