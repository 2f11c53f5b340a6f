use Rattle.std.proofs.Common.{◌∙◌, ◌∷◌, ℕ, List, ap, inl, inr, refl, subst}
use Rattle.std.specs.Prelude.{Err}
use Rattle.std.proofs.lemmas.Result.{err_from_is_err_and}
use Rattle.a429_arguments.specs.Requests.{asked_of}
use Rattle.a429_arguments.specs.Texts.{texts_of}
use Rattle.a429_console.specs.FileReadings.{AreReadLogs, IsFirstUnreadLog}
use Rattle.a429_console.specs.Files.{logs_of}
use Rattle.a429_console.specs.RefusalText.{OrMemory}
use Rattle.a429_console.proofs.ReadingParts.{read_then, read_weaker}
use Rattle.a429_console.proofs.Refused.{failed, or_memory_weaker}
use Rattle.a429_given.specs.GivenTables.{IsTableRead, IsTableUnread, TableTexts, table_names, table_texts}
use Rattle.a429_recordings.specs.JudgeReplies.{IsUnreadBoxFile}
use Rattle.a429_recordings.proofs.judge.input.read_input.Goals as goal

pub returns-in_err-table : goal.returns-in_err-table
returns-in_err-table g c =
    let r = asked_of c.args.asked.now in
    let e = c.in_err-table.field-0.0 in
    let p = err_from_is_err_and c.from_residual.result c.from_residual.ensures.1 in
    read_weaker c.in_err-table.ensures (λ file bad. failed c.from_residual.result _ (OrMemory (IsUnreadBoxFile file r)) e (p.1 ∙ ap Err p.2)
    (or_memory_weaker (IsTableUnread file (table_names c.of.result)) (IsUnreadBoxFile file r) e (λ one. inl (subst (λ (names : TableTexts). IsTableUnread file names e) c.of.ensures one)) bad))

pub returns-in_err-heard : goal.returns-in_err-heard
returns-in_err-heard g c =
    let r = asked_of c.args.asked.now in
    let table = table_texts c.in_ok-table.table in
    let e = c.in_err-heard.field-0.0 in
    let p = err_from_is_err_and c.from_residual-in_err-heard.result c.from_residual-in_err-heard.ensures.1 in
    read_then c.in_ok-table.ensures c.in_err-heard.ensures
    (λ file read bad. failed c.from_residual-in_err-heard.result _ (OrMemory (IsUnreadBoxFile file r)) e (p.1 ∙ ap Err p.2)
    (or_memory_weaker (IsFirstUnreadLog file (r.second ∷ texts_of c.texts.result.now)) (IsUnreadBoxFile file r) e
    (λ one. inr (inl (
      table,
      subst (λ (names : TableTexts). IsTableRead file names table) c.of.ensures read,
      subst (λ (more : List (List ℕ)). IsFirstUnreadLog file (r.second ∷ more) e) (c.texts.ensures refl) one,
    ))) bad))

pub returns-in_err-sent : goal.returns-in_err-sent
returns-in_err-sent g c =
    let r = asked_of c.args.asked.now in
    let table = table_texts c.in_ok-table.table in
    let heard = logs_of c.in_ok-heard.heard.items in
    let e = c.in_err-sent.field-0.0 in
    let p = err_from_is_err_and c.from_residual-in_err-sent.result c.from_residual-in_err-sent.ensures.1 in
    read_then {Q = λ file. AreReadLogs file (r.second ∷ texts_of c.texts.result.now) heard × OrMemory (IsFirstUnreadLog file r.more) e} c.in_ok-table.ensures
    (read_then c.in_ok-heard.ensures c.in_err-sent.ensures (λ file read bad. (read, rw c.deref.ensures.value at bad)))
    (λ file read rest. failed c.from_residual-in_err-sent.result _ (OrMemory (IsUnreadBoxFile file r)) e (p.1 ∙ ap Err p.2)
    (or_memory_weaker (IsFirstUnreadLog file r.more) (IsUnreadBoxFile file r) e
    (λ one. inr (inr (
      table,
      heard,
      subst (λ (names : TableTexts). IsTableRead file names table) c.of.ensures read,
      subst (λ (more : List (List ℕ)). AreReadLogs file (r.second ∷ more) heard) (c.texts.ensures refl) rest.0,
      one,
    ))) rest.1))

pub returns : goal.returns
returns g c =
    let r = asked_of c.args.asked.now in
    let table = table_texts c.in_ok-table.table in
    let heard = logs_of c.in_ok-heard.heard.items in
    read_then {Q = λ file. AreReadLogs file (r.second ∷ texts_of c.texts.result.now) heard × AreReadLogs file r.more (logs_of c.in_ok-sent.sent.items)} c.in_ok-table.ensures
    (read_then c.in_ok-heard.ensures c.in_ok-sent.ensures (λ file heard sent. (heard, rw c.deref.ensures.value at sent)))
    (λ file read rest. (
      subst (λ (names : TableTexts). IsTableRead file names table) c.of.ensures read,
      subst (λ (more : List (List ℕ)). AreReadLogs file (r.second ∷ more) heard) (c.texts.ensures refl) rest.0,
      rest.1,
      c.of-terms.ensures,
    ))
