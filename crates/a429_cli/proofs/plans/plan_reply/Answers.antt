use Rattle.std.proofs.Common.{◌∙◌, ap, inl, inr, subst}
use Rattle.std.specs.Prelude.{Err}
use Rattle.std.proofs.lemmas.Result.{err_from_is_err_and}
use Rattle.a429_console.proofs.ReadingParts.{read_weaker}
use Rattle.a429_console.proofs.Refused.{failed, matched_both, or_memory_weaker}
use Rattle.a429_console.specs.RefusalText.{OrMemory}
use Rattle.a429_arguments.specs.Requests.{asked_of}
use Rattle.a429_given.specs.GivenTables.{IsTableRead, IsTableUnread, TableTexts, named_table, table_texts}
use Rattle.a429_cli.specs.Plans.{IsNoPlanReply, IsNoReplyToTable, IsPlanReply, IsReplyToTable}
use Rattle.a429_cli.specs.Stamping.{IsStamped, stamp_line}
use Rattle.a429_cli.proofs.plans.plan_reply.Goals as goal

pub returns-in_err-table : goal.returns-in_err-table
returns-in_err-table g c =
    let v = c.args.asked.now.verb in
    let r = asked_of c.args.asked.now in
    let e = c.in_err-table.field-0.0 in
    let p = err_from_is_err_and c.from_residual.result c.from_residual.ensures.1 in
    read_weaker c.in_err-table.ensures (λ file bad. failed c.from_residual.result _ (OrMemory (IsNoPlanReply v file r)) e (p.1 ∙ ap Err p.2)
    (or_memory_weaker (IsTableUnread file (named_table r)) (IsNoPlanReply v file r) e (λ one. inl one)
    (subst (λ (names : TableTexts). OrMemory (IsTableUnread file names) e) c.of.ensures bad)))

pub returns : goal.returns
returns g c =
    let v = c.args.asked.now.verb in
    let r = asked_of c.args.asked.now in
    let i : TableTexts = table_texts c.in_ok-table.table in
    read_weaker c.in_ok-table.ensures (λ file found.
    let read : IsTableRead file (named_table r) i = subst (λ (names : TableTexts). IsTableRead file names i) c.of.ensures found in
    matched_both c.stamped_reply.result (λ reply. IsStamped r.given (stamp_line r.first i.table) (IsReplyToTable v r.given i) reply.status reply.bytes.items)
    (λ reply. IsPlanReply v file r reply.status reply.bytes.items)
    (OrMemory (IsNoReplyToTable v r.given i)) (OrMemory (IsNoPlanReply v file r))
    (λ reply is. (i, read, is))
    (λ e bad. or_memory_weaker (IsNoReplyToTable v r.given i) (IsNoPlanReply v file r) e (λ one. inr (i, read, one)) bad)
    c.stamped_reply.ensures)
