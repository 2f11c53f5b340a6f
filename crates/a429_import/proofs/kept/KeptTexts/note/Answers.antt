use Rattle.std.proofs.Common.{◌≡◌, ◌∙◌, Bool, List, ap, ap₂, length, not, subst₂, sym, true, false, ℕ}
use Rattle.std.specs.Prelude.{◌&&◌, ◌==◌}
use Rattle.std.proofs.lemmas.Result.{on_ok_weaker}
use Rattle.csv.specs.Records.{fields_of}
use Rattle.a429_import.specs.ImportRows.{has_label}
use Rattle.a429_import.specs.ImportTables.{is_word}
use Rattle.a429_import.specs.KeptFields.{TakesText, kept_in}
use Rattle.a429_import.proofs.KeptFields.{row_passed, row_taken}
use Rattle.a429_import.proofs.kept.KeptTexts.note.Goals as goal

pub returns-then-not-has_label : goal.returns-then-not-has_label
returns-then-not-has_label c = λ below known.
    let heading : List (List ℕ) = fields_of c.args.heading.now.line.fields in
    let line = c.args.line.now in
    let said : (has_label heading line && is_word (kept_in heading (fields_of line.fields))) ≡ false = ap (λ (b : Bool). b && is_word (kept_in heading (fields_of line.fields))) (sym c.has_label.ensures ∙ c.if-not-has_label.true) in
    row_passed heading c.args.self.now below line said known

pub returns-then-is_empty : goal.returns-then-is_empty
returns-then-is_empty c = λ below known.
    let heading : List (List ℕ) = fields_of c.args.heading.now.line.fields in
    let line = c.args.line.now in
    let empty : (length c.in_ok-text.text.items == 0) ≡ true = sym (ap (λ (n : ℕ). n == 0) c.in_ok-text.text.ok.0) ∙ sym c.is_empty.ensures ∙ c.if-is_empty.true in
    let nothing : is_word (kept_in heading (fields_of line.fields)) ≡ false = ap not (sym (ap (λ (t : List ℕ). length t == 0) c.in_ok-text.ensures) ∙ empty) in
    let said : (has_label heading line && is_word (kept_in heading (fields_of line.fields))) ≡ false = ap₂ (λ (a b : Bool). a && b) (sym c.has_label.ensures ∙ c.if-not-has_label.false) nothing in
    row_passed heading c.args.self.now below line said known

pub returns : goal.returns
returns c =
    let heading : List (List ℕ) = fields_of c.args.heading.now.line.fields in
    let line = c.args.line.now in
    let some : (length c.in_ok-text.text.items == 0) ≡ false = sym (ap (λ (n : ℕ). n == 0) c.in_ok-text.text.ok.0) ∙ sym c.is_empty.ensures ∙ c.if-is_empty.false in
    let says : is_word (kept_in heading (fields_of line.fields)) ≡ true = ap not (sym (ap (λ (t : List ℕ). length t == 0) c.in_ok-text.ensures) ∙ some) in
    let said : (has_label heading line && is_word (kept_in heading (fields_of line.fields))) ≡ true = ap₂ (λ (a b : Bool). a && b) (sym c.has_label.ensures ∙ c.if-not-has_label.false) says in
    on_ok_weaker c.take.result
    (λ taken below known. row_taken heading c.args.self.now c.take.new.self below line said
    (subst₂ (λ (source t : List ℕ). TakesText c.args.self.now c.take.new.self source t) c.field_of.ensures c.in_ok-text.ensures taken) known)
    c.take.ensures
