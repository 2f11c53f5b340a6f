use Rattle.a429_console.proofs.ReadingParts.{read_then, read_weaker}
use Rattle.std.proofs.Common.{◌∙◌, ◌++◌, ap, inl, inr, subst}
use Rattle.std.specs.Prelude.{Err}
use Rattle.std.proofs.lemmas.Result.{err_from_is_err_and}
use Rattle.a429_arguments.specs.Given.{form_of, has_given}
use Rattle.a429_arguments.specs.Requests.{asked_of}
use Rattle.a429_arguments.specs.declared.options.OptionName.TheVariants as option
use Rattle.a429_console.specs.RefusalText.{OrMemory}
use Rattle.a429_console.proofs.Refused.{failed, matched_both, or_memory_weaker}
use Rattle.a429_given.specs.GivenTables.{IsTableRead, IsTableUnread, TableTexts, named_table, table_texts}
use Rattle.a429_cli.specs.Findings.{AreTablesRead, IsDiffBetween, IsDiffOf, IsNoDiff, IsNoDiffBetween, other_table}
use Rattle.a429_cli.specs.Stamping.{IsStamped, stamp_line}
use Rattle.a429_cli.proofs.diff.diff_reply.Goals as goal

pub returns-in_err-table : goal.returns-in_err-table
returns-in_err-table g c =
    let r = asked_of c.args.asked.now in
    let e = c.in_err-table.field-0.0 in
    let p = err_from_is_err_and c.from_residual.result c.from_residual.ensures.1 in
    read_weaker c.in_err-table.ensures (λ file bad. failed c.from_residual.result _ (OrMemory (IsNoDiff file r)) e (p.1 ∙ ap Err p.2)
    (or_memory_weaker (IsTableUnread file (named_table r)) (IsNoDiff file r) e (λ one. inl (inl one))
    (subst (λ (names : TableTexts). OrMemory (IsTableUnread file names) e) c.of.ensures bad)))

pub returns-in_err-other : goal.returns-in_err-other
returns-in_err-other g c =
    let r = asked_of c.args.asked.now in
    let a : TableTexts = table_texts c.in_ok-table.table in
    let e = c.in_err-other.field-0.0 in
    let p = err_from_is_err_and c.from_residual-in_err-other.result c.from_residual-in_err-other.ensures.1 in
    read_then c.in_ok-table.ensures c.in_err-other.ensures (λ file read bad.
    failed c.from_residual-in_err-other.result _ (OrMemory (IsNoDiff file r)) e (p.1 ∙ ap Err p.2)
    (or_memory_weaker (IsTableUnread file (other_table r)) (IsNoDiff file r) e
    (λ one. inl (inr (a, subst (λ (names : TableTexts). IsTableRead file names a) c.of.ensures read, one)))
    (subst (λ (names : TableTexts). OrMemory (IsTableUnread file names) e) c.other_names.ensures bad)))

pub returns : goal.returns
returns g c =
    let r = asked_of c.args.asked.now in
    let a : TableTexts = table_texts c.in_ok-table.table in
    let b : TableTexts = table_texts c.in_ok-other.other in
    let Says = IsStamped r.given (stamp_line r.first a.table ++ stamp_line r.second b.table) (IsDiffBetween (has_given r.given option.All) (form_of r.given) a b) in
    read_then c.in_ok-table.ensures c.in_ok-other.ensures (λ file first second.
    let read : AreTablesRead file r a b =
    (subst (λ (names : TableTexts). IsTableRead file names a) c.of.ensures first, subst (λ (names : TableTexts). IsTableRead file names b) c.other_names.ensures second) in
    matched_both c.stamped_diff.result (λ reply. Says reply.status reply.bytes.items) (λ reply. IsDiffOf file r reply.status reply.bytes.items)
    (OrMemory (IsNoDiffBetween a b)) (OrMemory (IsNoDiff file r))
    (λ reply is. (a, b, read, is))
    (λ e bad. or_memory_weaker (IsNoDiffBetween a b) (IsNoDiff file r) e (λ one. inr (a, b, read, one)) bad)
    c.stamped_diff.ensures)
