-- Columns that go along as comments: their fields, row by row, and the rows of each source.
use Rattle.std.proofs.Common.{◌≡◌, ◌∙◌, ℕ, zero, suc, ◌<◌, ◌&&◌, Bool, true, false, cond, List, [], ◌∷◌, ◌++◌, get_or, length, take, ap, append-nil, append_assoc, arith, refl, sym, inl, inr}
use Rattle.std.specs.Prelude.{Option, Some, None, is_some, option_map}
use Rattle.std.specs.List.{find}
use Rattle.std.specs.Option.{option_or}
use Rattle.std.specs.Str.{bytes_eq}
use Rattle.std.proofs.lemmas.Bool.{cases_Bool}
use Rattle.std.proofs.lemmas.Option.{none-some}
use Rattle.std.proofs.lemmas.List.Folds.{find-append}
use Rattle.std.proofs.lemmas.Slice.Eq.{bytes_eq-Decides}
use Rattle.csv.specs.Records.{fields_of}
use Rattle.a429_import.specs.declared.kept.KeptText.{KeptText}
use Rattle.a429_import.specs.declared.kept.KeptTexts.{KeptTexts}
use Rattle.a429_text.specs.declared.csv_line.CsvLine.{CsvLine}
use Rattle.a429_import.specs.declared.fault.ImportColumn.TheVariants.{Source}
use Rattle.a429_import.specs.ImportRows.{column_field, has_label}
use Rattle.a429_import.specs.ImportTables.{is_word}
use Rattle.a429_import.specs.KeptFields.{KeepsTexts, TakesText, is_kept, kept_at, kept_heading, kept_in, kept_line, or_text}

-- ---- one more field

pub kept_none : (heading : List (List ℕ)) → kept_in heading [] ≡ []
kept_none [] = refl
kept_none (name ∷ names) = refl

pub kept_more : (heading fields : List (List ℕ)) (i : ℕ) → i < length fields
    → kept_in heading (take (suc i) fields) ≡ kept_in heading (take i fields) ++ kept_line (kept_heading (get_or heading i [])) (get_or fields i [])
kept_more [] fields i below = refl
kept_more (name ∷ names) [] i below = absurd (omega (arith, below))
kept_more (name ∷ names) (field ∷ fields) zero below =
    ap (λ (xs : List ℕ). kept_line (kept_heading name) field ++ xs) (kept_none names) ∙ append-nil (kept_line (kept_heading name) field)
kept_more (name ∷ names) (field ∷ fields) (suc i) below =
    ap (λ (xs : List ℕ). kept_line (kept_heading name) field ++ xs) (kept_more names fields i (omega (arith, below)))
    ∙ sym (append_assoc (kept_line (kept_heading name) field) (kept_in names (take i fields)) (kept_line (kept_heading (get_or names i [])) (get_or fields i [])))

-- ---- the text of a source

is_there : (o : Option (List ℕ)) → is_some o ≡ true → (text : List ℕ) × (o ≡ Some text)
is_there None some = cc some
is_there (Some text) some = (text, refl)

-- a source that has a text keeps it
or_none : (source text other : List ℕ) (o : Option (List ℕ)) → (bytes_eq other source ≡ true → (t : List ℕ) × (o ≡ Some t)) → o ≡ or_text source text o other
or_none source text other (Some t) has = refl
or_none source text other None has = elim (cases_Bool (bytes_eq other source)) [
  | inl is ↦ let (t, some) = has is in absurd (none-some t some)
  | inr apart ↦ sym (ap (λ (b : Bool). cond b (Some text) None) apart)
]

pub text_stays : (kept : KeptTexts) (source text : List ℕ) → is_some (kept_at kept source) ≡ true → TakesText kept kept source text
text_stays kept source text some = λ other. or_none source text other (kept_at kept other) (λ is. is_there (kept_at kept other) (ap (λ (s : List ℕ). is_some (kept_at kept s)) ((bytes_eq-Decides other source).0 is) ∙ some))

-- one more source with its text
abbrev lines_in : Option KeptText → Option (List ℕ)
lines_in o = option_map (λ (text : KeptText). text.lines.items) o

one_found : (o : Option KeptText) (text : KeptText) (other : List ℕ)
    → lines_in (option_or o (cond (bytes_eq other text.source.items) (Some text) None)) ≡ or_text text.source.items text.lines.items (lines_in o) other
one_found (Some found) text other = refl
one_found None text other = elim (cases_Bool (bytes_eq other text.source.items)) [
  | inl is ↦ rw is refl
  | inr apart ↦ rw apart refl
]

pub text_taken : (old new : KeptTexts) (text : KeptText) → new.texts.items ≡ old.texts.items ++ text ∷ [] → TakesText old new text.source.items text.lines.items
text_taken old new text more = λ other.
    ap (λ (ts : List KeptText). lines_in (find (λ t. bytes_eq other t.source.items) ts)) more
    ∙ ap lines_in (find-append (λ (t : KeptText). bytes_eq other t.source.items) old.texts.items (text ∷ []))
    ∙ one_found (find (λ t. bytes_eq other t.source.items) old.texts.items) text other

-- ---- one more row

abbrev said : List (List ℕ) → CsvLine → List ℕ
said heading line = kept_in heading (fields_of line.fields)

abbrev source_in : List (List ℕ) → CsvLine → List ℕ
source_in heading line = column_field heading (fields_of line.fields) Source

row_said : (heading : List (List ℕ)) (o : Option CsvLine) (line : CsvLine) (other : List ℕ) (flag : Bool) → flag ≡ true
    → option_map (said heading) (option_or o (cond (bytes_eq other (source_in heading line) && flag) (Some line) None)) ≡ or_text (source_in heading line) (said heading line) (option_map (said heading) o) other
row_said heading (Some first) line other flag is = refl
row_said heading None line other flag is = elim (cases_Bool (bytes_eq other (source_in heading line))) [
  | inl same ↦ rw (is, same) refl
  | inr apart ↦ rw apart refl
]

row_unsaid : (heading : List (List ℕ)) (o : Option CsvLine) (line : CsvLine) (same flag : Bool) → flag ≡ false
    → option_map (said heading) (option_or o (cond (same && flag) (Some line) None)) ≡ option_map (said heading) o
row_unsaid heading (Some first) line same flag is = refl
row_unsaid heading None line true flag is = rw is refl
row_unsaid heading None line false flag is = refl

abbrev is_said : List (List ℕ) → CsvLine → Bool
is_said heading line = has_label heading line && is_word (said heading line)

pub row_taken : (heading : List (List ℕ)) (old new : KeptTexts) (below : List CsvLine) (line : CsvLine) → is_said heading line ≡ true → TakesText old new (source_in heading line) (said heading line)
    → KeepsTexts old heading below → KeepsTexts new heading (below ++ line ∷ [])
row_taken heading old new below line is taken known = λ other.
    taken other ∙ ap (λ o. or_text (source_in heading line) (said heading line) o other) (known other)
    ∙ sym (ap (option_map (said heading)) (find-append (is_kept heading other) below (line ∷ [])) ∙ row_said heading (find (is_kept heading other) below) line other (is_said heading line) is)

pub row_passed : (heading : List (List ℕ)) (kept : KeptTexts) (below : List CsvLine) (line : CsvLine) → is_said heading line ≡ false → KeepsTexts kept heading below → KeepsTexts kept heading (below ++ line ∷ [])
row_passed heading kept below line is known = λ other.
    known other
    ∙ sym (ap (option_map (said heading)) (find-append (is_kept heading other) below (line ∷ [])) ∙ row_unsaid heading (find (is_kept heading other) below) line (bytes_eq other (source_in heading line)) (is_said heading line) is)
