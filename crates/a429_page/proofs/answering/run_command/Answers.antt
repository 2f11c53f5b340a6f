use Rattle.std.proofs.Common.{rules, ◌≡◌, ◌∙◌, ℕ, List, [], refl, ap}
use Rattle.std.specs.declared.vec.Vec.{Vec}
use Rattle.std.specs.declared.alloc.Global.{Global}
use Rattle.a429_arguments.specs.Texts.{texts_of}
use Rattle.a429_console.specs.Outputs.{NoneFailed, OrNoMemory, calls_of}
use Rattle.a429_console.specs.UsageReplies.{IsHelpReply, IsUsageReply}
use Rattle.a429_arguments.specs.Requests.{AskedBytes}
use Rattle.a429_cli.specs.Replies.{IsReplyOrMemory, IsSilent}
use Rattle.a429_page.specs.Parts.{file_in}
use Rattle.a429_page.proofs.KnownFiles.{known_files}
use Rattle.a429_page.proofs.WrittenAnswers.{all_is_put, mistake_without_failure}
use Rattle.a429_page.proofs.answering.run_command.Goals as goal

pub returns-clause-answered : goal.returns-clause-answered
returns-clause-answered c =
    let file = file_in (texts_of c.args.files.now.names.now) (texts_of c.args.files.now.files.now) in
    let status = c.command-status.result in
    let old_out = calls_of c.new-out.result.failures c.new-out.result.is_closed in
    let old_err = calls_of c.new-err.result.failures c.new-err.result.is_closed in
    let new_out = calls_of c.command-status.new.out.failures c.command-status.new.out.is_closed in
    let new_err = calls_of c.command-status.new.err.failures c.command-status.new.err.is_closed in
    let whole : NoneFailed old_out new_out = search rules in
    let whole_err : NoneFailed old_err new_err = search rules in
    let no_out : c.new-out.result.writer.items ≡ [] = ap (λ (v : Vec ℕ Global). v.items) c.new-out.ensures.writer ∙ c.new.ensures.items in
    let no_err : c.new-err.result.writer.items ≡ [] = ap (λ (v : Vec ℕ Global). v.items) c.new-err.ensures.writer ∙ c.new-2.ensures.items in
    record {
      replied = λ r other asks. all_is_put (IsReplyOrMemory file r) status c.new-out.result.writer.items c.command-status.new.out.writer.items no_out
          (c.command-status.ensures.replied r other asks refl whole);
      asked = λ r other asks. c.command-status.ensures.asked r other asks;
      quiet = λ r other asks silent zero.
          let same : c.command-status.new.err ≡ c.new-err.result =
          known_files (λ p name. file_in (texts_of p.names.now) (texts_of p.files.now) name) (λ of. IsSilent of r → status ≡ 0 → c.command-status.new.err ≡ c.new-err.result)
          c.args.files.now (c.command-status.ensures.quiet r other asks) silent zero in
          rw same no_err;
      few = c.command-status.ensures.ends.few;
      helped = λ help. all_is_put (OrNoMemory IsHelpReply) status c.new-out.result.writer.items c.command-status.new.out.writer.items no_out
          (c.command-status.ensures.ends.helped help whole);
      mistaken = λ mistake. mistake_without_failure old_err new_err whole_err status c.command-status.new.out.writer.items
          (all_is_put (OrNoMemory (IsUsageReply old_err new_err)) status c.new-out.result.writer.items c.command-status.new.out.writer.items no_out
          (c.command-status.ensures.ends.mistaken mistake whole));
    }
