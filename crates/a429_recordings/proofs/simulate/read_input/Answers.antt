use Rattle.std.proofs.Common.{◌∙◌, ◌∷◌, ap, inl, inr, subst}
use Rattle.std.specs.Prelude.{Err}
use Rattle.std.proofs.lemmas.Result.{err_from_is_err_and}
use Rattle.a429_arguments.specs.Requests.{asked_of}
use Rattle.a429_console.specs.FileReadings.{IsFirstUnreadLog}
use Rattle.a429_console.specs.RefusalText.{OrMemory}
use Rattle.a429_console.proofs.ReadingParts.{read_then, read_weaker}
use Rattle.a429_console.proofs.Refused.{failed, or_memory_weaker}
use Rattle.a429_given.specs.GivenTables.{IsTableRead, IsTableUnread, TableTexts, named_table, table_names, table_texts}
use Rattle.a429_recordings.specs.SimulationReplies.{IsUnreadFile}
use Rattle.a429_recordings.proofs.simulate.read_input.Goals as goal

pub returns-in_err-table : goal.returns-in_err-table
returns-in_err-table g c =
    let r = asked_of c.args.asked.now in
    let e = c.in_err-table.field-0.0 in
    let p = err_from_is_err_and c.from_residual.result c.from_residual.ensures.1 in
    read_weaker c.in_err-table.ensures (λ file bad. failed c.from_residual.result _ (OrMemory (IsUnreadFile file (named_table r) (r.second ∷ r.more))) e (p.1 ∙ ap Err p.2)
    (or_memory_weaker (IsTableUnread file (table_names c.of.result)) (IsUnreadFile file (named_table r) (r.second ∷ r.more)) e
    (λ one. inl (subst (λ (names : TableTexts). IsTableUnread file names e) c.of.ensures one)) bad))

pub returns-in_err-logs : goal.returns-in_err-logs
returns-in_err-logs g c =
    let r = asked_of c.args.asked.now in
    let table = table_texts c.in_ok-table.table in
    let e = c.in_err-logs.field-0.0 in
    let p = err_from_is_err_and c.from_residual-in_err-logs.result c.from_residual-in_err-logs.ensures.1 in
    read_then c.in_ok-table.ensures c.in_err-logs.ensures
    (λ file read bad. failed c.from_residual-in_err-logs.result _ (OrMemory (IsUnreadFile file (named_table r) (r.second ∷ r.more))) e (p.1 ∙ ap Err p.2)
    (or_memory_weaker (IsFirstUnreadLog file (r.second ∷ r.more)) (IsUnreadFile file (named_table r) (r.second ∷ r.more)) e
    (λ one. inr (table, subst (λ (names : TableTexts). IsTableRead file names table) c.of.ensures read, one)) (rw c.deref.ensures.value at bad)))

pub returns : goal.returns
returns g c =
    let table = table_texts c.in_ok-table.table in
    read_then c.in_ok-table.ensures c.in_ok-logs.ensures
    (λ file read logs. (subst (λ (names : TableTexts). IsTableRead file names table) c.of.ensures read, rw c.deref.ensures.value at logs, c.whole.ensures))
