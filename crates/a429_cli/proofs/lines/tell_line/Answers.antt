use Rattle.std.proofs.Common.{◌++◌, ℕ, subst, sym}
use Rattle.a429_line.specs.LineBytes.{symbols_of}
use Rattle.a429_cli.specs.LineReplies.{IsTold}
use Rattle.a429_cli.specs.LineReports.{ending_in, rows_head}
use Rattle.a429_replay.proofs.PutLines.{Appends-ended, Appends-then}
use Rattle.a429_console.proofs.Refused.{both_ok}
use Rattle.a429_cli.proofs.ReportLines.{told_ended}
use Rattle.a429_cli.proofs.lines.tell_line.Goals as goal

pub returns-clause-told : goal.returns-clause-told
returns-clause-told g c =
    both_ok c.finish_in.result _ _ (λ status is put.
    let form = c.args.form in
    let filters = c.args.line.now.filters in
    let line = symbols_of c.args.line.now.bytes.items in
    let all = c.in_ok-sufficed.sufficed in
    let was = c.in_ok-sufficed.ensures.printed in
    let kept = rw c.new-lines.ensures.items at was.2 in
    let sent = rw c.deref.ensures.value at put in
    let told = was.0 ++ ending_in form all in
    let bytes = rows_head form ++ told in (
      bytes,
      subst (λ (n : ℕ). IsTold form filters line n bytes) (sym is) (told_ended form filters line all was.0 was.1),
      Appends-then (g.O.Output.contents c.args.out.now) (g.O.Output.contents c.put_head.new.out) _ (rows_head form) told c.in_ok-put_head.ensures.put
          (Appends-ended (g.O.Output.contents c.put_head.new.out) _ _ c.print_line.new.lines.items was.0 (ending_in form all) kept sent),
    ))
    c.finish_in.ensures.status c.finish_in.ensures.put
