use Rattle.a429_console.proofs.ReadingParts.{read_then, read_weaker}
use Rattle.std.proofs.Common.{◌≡◌, ◌∙◌, ◌∷◌, ℕ, List, ap, map, inl, inr}
use Rattle.std.specs.Prelude.{Err, Option, Some}
use Rattle.std.proofs.lemmas.Result.{err_from_is_err_and}
use Rattle.a429_console.specs.FileReadings.{AreRead, IsFileRefusal, IsFirstUnread, readable}
use Rattle.a429_console.specs.RefusalText.{OrMemory}
use Rattle.a429_console.proofs.Refused.{failed, or_memory_weaker}
use Rattle.a429_given.specs.GivenTables.{IsTableUnread, table_names, table_texts}
use Rattle.a429_replay.specs.Replaying.{IsInputUnread}
use Rattle.a429_replay.proofs.replay.read_input.Goals as goal

pub returns-in_err-table : goal.returns-in_err-table
returns-in_err-table g c =
    let names = table_names c.args.table in
    let e = c.in_err-table.field-0.0 in
    let p = err_from_is_err_and c.from_residual.result c.from_residual.ensures.1 in
    read_weaker c.in_err-table.ensures (λ file bad.
    let none = IsInputUnread file names c.args.script.now (map (λ n. n.now) c.args.further.now) in
    failed c.from_residual.result _ (OrMemory none) e (p.1 ∙ ap Err p.2) (or_memory_weaker (IsTableUnread file names) none e (λ one. inl one) bad))

pub returns-in_err-script : goal.returns-in_err-script
returns-in_err-script g c =
    let script = c.args.script.now in
    let e = c.in_err-script.field-0.0 in
    let p = err_from_is_err_and c.from_residual-in_err-script.result c.from_residual-in_err-script.ensures.1 in
    read_then c.in_ok-table.ensures c.in_err-script.ensures (λ file read bad.
    let none = IsInputUnread file (table_names c.args.table) script (map (λ n. n.now) c.args.further.now) in
    failed c.from_residual-in_err-script.result _ (OrMemory none) e (p.1 ∙ ap Err p.2)
    (or_memory_weaker (IsFileRefusal file script) none e (λ one. inr (table_texts c.in_ok-table.table, read, inl one)) bad))

pub returns-in_err-further : goal.returns-in_err-further
returns-in_err-further g c =
    let names = map (λ n. n.now) c.args.further.now in
    let e = c.in_err-further.field-0.0 in
    let p = err_from_is_err_and c.from_residual-in_err-further.result c.from_residual-in_err-further.ensures.1 in
    read_then c.in_ok-table.ensures (read_then {R = λ (file : List ℕ → Option (List ℕ)). (readable (file c.args.script.now) ≡ Some c.in_ok-script.script.items) × OrMemory (IsFirstUnread file names) e} c.in_ok-script.ensures c.in_err-further.ensures
    (λ file script bad. (script, bad)))
    (λ file table more.
    let none = IsInputUnread file (table_names c.args.table) c.args.script.now names in
    failed c.from_residual-in_err-further.result _ (OrMemory none) e (p.1 ∙ ap Err p.2)
    (or_memory_weaker (IsFirstUnread file names) none e (λ one. inr (table_texts c.in_ok-table.table, table, inr (c.in_ok-script.script.items, more.0, one))) more.1))

pub returns : goal.returns
returns g c =
    let names = map (λ n. n.now) c.args.further.now in
    read_then c.in_ok-table.ensures
    (read_then {R = λ (file : List ℕ → Option (List ℕ)). (readable (file c.args.script.now) ≡ Some c.in_ok-script.script.items) × AreRead file names c.in_ok-further.further.items} c.in_ok-script.ensures c.in_ok-further.ensures
    (λ file script further. (script, further)))
    (λ file table more. (table, (more.0, more.1)))
