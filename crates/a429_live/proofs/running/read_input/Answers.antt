use Rattle.std.proofs.Common.{◌≡◌, ◌∙◌, ◌∷◌, ℕ, List, ap, map, inl, inr, subst}
use Rattle.std.specs.Prelude.{Err, Option, Some}
use Rattle.std.proofs.lemmas.Result.{err_from_is_err_and}
use Rattle.a429_arguments.specs.Requests.{asked_of}
use Rattle.a429_console.specs.FileReadings.{AreRead, IsFileRefusal, IsFirstUnread, readable}
use Rattle.a429_console.specs.Files.{bytes_of}
use Rattle.a429_console.specs.RefusalText.{OrMemory}
use Rattle.a429_console.proofs.ReadingParts.{read_then, read_weaker}
use Rattle.a429_console.proofs.Refused.{failed, or_memory_weaker}
use Rattle.a429_given.specs.GivenTables.{IsTableRead, IsTableUnread, TableTexts, named_table, table_texts}
use Rattle.a429_live.specs.LiveReplies.{IsLiveUnread}
use Rattle.a429_live.proofs.running.read_input.Goals as goal

pub returns-in_err-table : goal.returns-in_err-table
returns-in_err-table g c =
    let r = asked_of c.args.asked.now in
    let e = c.in_err-table.field-0.0 in
    let p = err_from_is_err_and c.from_residual.result c.from_residual.ensures.1 in
    read_weaker c.in_err-table.ensures (λ file bad. failed c.from_residual.result _ (OrMemory (IsLiveUnread file r)) e (p.1 ∙ ap Err p.2)
    (or_memory_weaker (IsTableUnread file (named_table r)) (IsLiveUnread file r) e (λ one. inl one)
    (subst (λ (names : TableTexts). OrMemory (IsTableUnread file names) e) c.of.ensures bad)))

pub returns-in_err-words : goal.returns-in_err-words
returns-in_err-words g c =
    let r = asked_of c.args.asked.now in
    let table : TableTexts = table_texts c.in_ok-table.table in
    let e = c.in_err-words.field-0.0 in
    let p = err_from_is_err_and c.from_residual-in_err-words.result c.from_residual-in_err-words.ensures.1 in
    read_then c.in_ok-table.ensures c.in_err-words.ensures
    (λ file read bad. failed c.from_residual-in_err-words.result _ (OrMemory (IsLiveUnread file r)) e (p.1 ∙ ap Err p.2)
    (or_memory_weaker (IsFileRefusal file r.second) (IsLiveUnread file r) e
    (λ one. inr (table, subst (λ (names : TableTexts). IsTableRead file names table) c.of.ensures read, inl one)) bad))

pub returns-in_err-further : goal.returns-in_err-further
returns-in_err-further g c =
    let r = asked_of c.args.asked.now in
    let table : TableTexts = table_texts c.in_ok-table.table in
    let names = map (λ n. n.now) c.args.asked.now.more.items in
    let e = c.in_err-further.field-0.0 in
    let p = err_from_is_err_and c.from_residual-in_err-further.result c.from_residual-in_err-further.ensures.1 in
    read_then c.in_ok-table.ensures (read_then {R = λ (file : List ℕ → Option (List ℕ)). (readable (file r.second) ≡ Some c.in_ok-words.words.items) × OrMemory (IsFirstUnread file names) e} c.in_ok-words.ensures c.in_err-further.ensures
    (λ file words bad. (words, rw c.deref.ensures.value at bad)))
    (λ file read more. failed c.from_residual-in_err-further.result _ (OrMemory (IsLiveUnread file r)) e (p.1 ∙ ap Err p.2)
    (or_memory_weaker (IsFirstUnread file names) (IsLiveUnread file r) e
    (λ one. inr (table, subst (λ (names : TableTexts). IsTableRead file names table) c.of.ensures read, inr (c.in_ok-words.words.items, more.0, one))) more.1))

pub returns : goal.returns
returns g c =
    let r = asked_of c.args.asked.now in
    let table : TableTexts = table_texts c.in_ok-table.table in
    let names = map (λ n. n.now) c.args.asked.now.more.items in
    read_then c.in_ok-table.ensures
    (read_then {R = λ (file : List ℕ → Option (List ℕ)). (readable (file r.second) ≡ Some c.in_ok-words.words.items) × AreRead file names (bytes_of c.in_ok-further.further.items)} c.in_ok-words.ensures c.in_ok-further.ensures
    (λ file words further. (words, rw c.deref.ensures.value at further)))
    (λ file read more. (subst (λ (names : TableTexts). IsTableRead file names table) c.of.ensures read, (more.0, more.1)))
