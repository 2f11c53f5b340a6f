use Rattle.a429_console.proofs.ReadingParts.{read_weaker}
use Rattle.std.proofs.Common.{◌∙◌, List, ap, inl, refl, subst, ℕ}
use Rattle.std.specs.Prelude.{Err, Ok}
use Rattle.std.specs.declared.vec.Vec.{Vec}
use Rattle.std.specs.declared.alloc.Global.{Global}
use Rattle.std.proofs.lemmas.Result.{err_from_is_err_and}
use Rattle.a429_console.specs.FileReadings.{IsFileRefusal}
use Rattle.a429_console.specs.RefusalText.{OrMemory}
use Rattle.a429_console.proofs.Refused.{failed, or_memory_weaker}
use Rattle.a429_import.specs.ImportMaps.{given_texts}
use Rattle.a429_import.specs.Imports.{IsImport}
use Rattle.a429_cli.specs.Importing.{IsImportFault, IsNoImport}
use Rattle.a429_cli.proofs.Imported.{fault_refuses}
use Rattle.a429_cli.proofs.import.import_by.Goals as goal

pub returns-in_err-bytes-clause-replied : goal.returns-in_err-bytes-clause-replied
returns-in_err-bytes-clause-replied g c =
    let name = c.args.name.now in
    let maps : List (List ℕ) = given_texts c.args.maps.now in
    let e = c.in_err-bytes.field-0.0 in
    let p = err_from_is_err_and c.from_residual.result c.from_residual.ensures.1 in
    read_weaker c.in_err-bytes.ensures (λ file bad. failed c.from_residual.result _ (OrMemory (IsNoImport file maps c.args.options name)) e (p.1 ∙ ap Err p.2)
    (or_memory_weaker (IsFileRefusal file name) (IsNoImport file maps c.args.options name) e (λ one. inl one) bad))

pub returns-in-Ok-clause-replied : goal.returns-in-Ok-clause-replied
returns-in-Ok-clause-replied g c =
    let bytes = c.in_ok-bytes.bytes.items in
    let maps : List (List ℕ) = given_texts c.args.maps.now in
    let is : IsImport maps c.args.options bytes (Ok c.in-Ok.imported) = subst (λ (b : List ℕ). IsImport maps c.args.options b (Ok c.in-Ok.imported)) c.deref.ensures.value c.in-Ok.ensures in
    let same = ap (λ (t : Vec ℕ Global). t.items) c.done.ensures.bytes in
    read_weaker c.in_ok-bytes.ensures (λ file read. (bytes, read, (c.in-Ok.imported, is, same), c.done.ensures.status))

pub returns-in-Err-clause-replied : goal.returns-in-Err-clause-replied
returns-in-Err-clause-replied g c =
    let bytes = c.in_ok-bytes.bytes.items in
    let maps : List (List ℕ) = given_texts c.args.maps.now in
    let is : IsImportFault maps c.args.options bytes c.in-Err.fault = subst (λ (b : List ℕ). IsImportFault maps c.args.options b c.in-Err.fault) c.deref.ensures.value c.in-Err.ensures in
    read_weaker c.in_ok-bytes.ensures (λ file read. rw (c.with.ensures, c.import_refusal.ensures) (fault_refuses file maps c.args.options c.args.name.now bytes c.in-Err.fault read is))

pub returns-in_err-bytes-clause-silent : goal.returns-in_err-bytes-clause-silent
returns-in_err-bytes-clause-silent g c = read_weaker c.in_err-bytes.ensures (λ file bad none. refl)

pub returns-in-Ok-clause-silent : goal.returns-in-Ok-clause-silent
returns-in-Ok-clause-silent g c =
    let bytes = c.in_ok-bytes.bytes.items in
    let maps : List (List ℕ) = given_texts c.args.maps.now in
    let is : IsImport maps c.args.options bytes (Ok c.in-Ok.imported) = subst (λ (b : List ℕ). IsImport maps c.args.options b (Ok c.in-Ok.imported)) c.deref.ensures.value c.in-Ok.ensures in
    read_weaker c.in_ok-bytes.ensures (λ file read none.
    let nothing = none bytes c.in-Ok.imported read is in c.note_import.ensures nothing.0 nothing.1 nothing.2)

pub returns-in-Err-clause-silent : goal.returns-in-Err-clause-silent
returns-in-Err-clause-silent g c = read_weaker c.in_ok-bytes.ensures (λ file read none. refl)
