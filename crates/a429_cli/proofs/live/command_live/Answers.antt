use Rattle.std.proofs.Common.{◌≡◌, ◌≤◌, ◌∙◌, [], arith, inr, refl, subst}
use Rattle.std.proofs.lemmas.Result.{IfOk-weaker}
use Rattle.a429_console.specs.Ends.{writing}
use Rattle.a429_arguments.specs.Texts.{texts_of}
use Rattle.a429_console.specs.Readings.{HasRead}
use Rattle.a429_arguments.specs.Requests.{AskedBytes}
use Rattle.a429_arguments.specs.Usage.{live_kinds_of_words}
use Rattle.a429_console.proofs.ReadingParts.{known_read, read_none, read_weaker}
use Rattle.a429_live.specs.LiveReplies.{TakesLive}
use Rattle.a429_cli.specs.Replies.{IsReplyOrMemory}
use Rattle.a429_cli.proofs.AnsweredCalls.{answer_ends, answer_is_few, answer_put}
use Rattle.a429_cli.proofs.LiveAnswers.{live_put, takes_live}
use Rattle.a429_cli.proofs.live.command_live.Goals as goal

pub returns-in-Err-clause-replied : goal.returns-in-Err-clause-replied
returns-in-Err-clause-replied g c = λ r live asks tells none. let put = (c.in-Err.ensures.spent r live asks).1 none in (put.0, inr put.1, put.2)

pub returns-in-Err-clause-read : goal.returns-in-Err-clause-read
returns-in-Err-clause-read g c = λ r live asks none. let put = (c.in-Err.ensures.spent r live asks).1 none in (c.args.files.now, read_none refl (λ file. (put.0, inr put.1, put.2)))

pub returns-in-Err-clause-quiet : goal.returns-in-Err-clause-quiet
returns-in-Err-clause-quiet g c = λ r live asks.
    let one : c.in-Err.status ≡ 1 = (c.in-Err.ensures.spent r live asks).0 in
    (c.args.files.now, read_none refl (λ file takes zero. absurd (omega (arith, one, zero))))

pub returns-in-Err-clause-asked : goal.returns-in-Err-clause-asked
returns-in-Err-clause-asked g c = λ r live asks.
    let one : c.in-Err.status ≡ 1 = (c.in-Err.ensures.spent r live asks).0 in
    omega (arith, one)

pub returns-in-Err-clause-ends : goal.returns-in-Err-clause-ends
returns-in-Err-clause-ends g c = c.in-Err.ensures.ends

pub returns-clause-replied : goal.returns-clause-replied
returns-clause-replied g c = λ r live asks tells none.
    let out = writing g.O.Output.contents g.O.Output.failures g.O.Output.is_flushed c.args.out.now c.put_reply-answered.new.out in
    let put = live_put g.F.FileReader.answers c.args.files.now c.run_station-reply.new.files _ r c.run_station-reply.result c.put_reply-answered.result
    (g.O.Output.contents c.asked_here.new.out) (g.O.Output.contents c.put_reply-answered.new.out) (c.in-Ok.ensures.request r asks) live c.run_station-reply.ensures.report c.put_reply-answered.ensures.put in
    answer_put (IsReplyOrMemory (g.F.FileReader.file c.args.files.now) r) out c.asked_here.new.out c.put_reply-answered.result c.ended-status.result c.in-Ok.ensures.left
    (known_read g.F.FileReader.answers g.F.FileReader.tells g.F.FileReader.file g.met.F.FileReader.known c.args.files.now c.run_station-reply.new.files put tells)
    c.ended-status.ensures.done c.put_reply-answered.ensures.faults none

pub returns-clause-read : goal.returns-clause-read
returns-clause-read g c = λ r live asks none.
    let out = writing g.O.Output.contents g.O.Output.failures g.O.Output.is_flushed c.args.out.now c.put_reply-answered.new.out in
    let put = live_put g.F.FileReader.answers c.args.files.now c.run_station-reply.new.files _ r c.run_station-reply.result c.put_reply-answered.result
    (g.O.Output.contents c.asked_here.new.out) (g.O.Output.contents c.put_reply-answered.new.out) (c.in-Ok.ensures.request r asks) live c.run_station-reply.ensures.report c.put_reply-answered.ensures.put in (
      c.run_station-reply.new.files,
      read_weaker put (λ file is. answer_put (IsReplyOrMemory file r) out c.asked_here.new.out c.put_reply-answered.result c.ended-status.result c.in-Ok.ensures.left is
          c.ended-status.ensures.done c.put_reply-answered.ensures.faults none),
    )

pub returns-clause-quiet : goal.returns-clause-quiet
returns-clause-quiet g c = λ r live asks.
    let taken = subst (λ (a : AskedBytes). HasRead g.F.FileReader.answers (λ file. TakesLive file a → c.run_station-reply.new.warnings.items ≡ c.new-warnings.result.items)
    c.args.files.now c.run_station-reply.new.files) (c.in-Ok.ensures.request r asks) c.run_station-reply.ensures.taken in (
      c.run_station-reply.new.files,
      read_weaker taken (λ file same takes zero.
          let none : c.run_station-reply.new.warnings.items ≡ [] = same (takes_live r.verb file r live takes) ∙ c.new-warnings.ensures.items in
          c.ended-status.ensures.quiet (c.deref.ensures.value ∙ none) zero ∙ c.in-Ok.ensures.left_told),
    )

pub returns-clause-asked : goal.returns-clause-asked
returns-clause-asked g c = λ r live asks.
    answer_is_few c.put_reply-answered.result c.ended-status.result 1 (omega arith) c.put_reply-answered.ensures.status c.ended-status.ensures.done c.ended-status.ensures.failed

pub returns-clause-ends : goal.returns-clause-ends
returns-clause-ends g c =
    let a = c.put_reply-answered.ensures in
    let e = c.ended-status.ensures in
    answer_ends (live_kinds_of_words (texts_of c.args.words.now)) (writing g.O.Output.contents g.O.Output.failures g.O.Output.is_flushed c.args.out.now c.put_reply-answered.new.out)
    (writing g.V.Output.contents g.V.Output.failures g.V.Output.is_flushed c.args.err.now c.ended-status.new.err) c.asked_here.new.out c.asked_here.new.err c.put_reply-answered.result
    c.ended-status.result c.in-Ok.ensures.kinds c.in-Ok.ensures.left c.in-Ok.ensures.left_told (IfOk-weaker c.put_reply-answered.result (λ s. s ≤ 1) (λ s. s ≤ 2) (λ s most. omega (arith, most)) a.status) a.flushed a.faults e.done e.failed e.announced e.hushed e.once
