-- What is known of rows that may be notes, after one more row.
use Rattle.std.proofs.Common.{◌≡◌, ◌∙◌, ◌+◌, ℕ, suc, List, [], ◌∷◌, ◌++◌, Option, None, Some, Result, Ok, Err, Bool, true, false, ap, ap₂, arith, cond, length, refl, subst, sym}
use Rattle.std.specs.Prelude.{◌==◌, ◌&&◌, ◌||◌, if◌then◌else◌, not, vec_len}
use Rattle.std.specs.List.{list_any}
use Rattle.std.specs.Option.{ok_or}
use Rattle.std.specs.Result.{result_err}
use Rattle.std.proofs.lemmas.Bool.{ne_eqb}
use Rattle.std.proofs.lemmas.List.{length-append}
use Rattle.csv.specs.Records.{fields_of}
use Rattle.a429_word.specs.Texts.{label_value}
use Rattle.a429_import.specs.declared.fault.ImportColumn.{ImportColumn}
use Rattle.a429_import.specs.declared.fault.ImportColumn.TheVariants.{Hold, Label, MaxUs, MinUs, Rate, Sdi}
use Rattle.a429_import.specs.declared.fault.ImportFault.{ImportFault}
use Rattle.a429_import.specs.declared.fault.ImportFault.TheVariants.{NoMemory, Csv, Table}
use Rattle.a429_text.specs.declared.csv_line.CsvLine.{CsvLine}
use Rattle.a429_import.specs.declared.notes.Notes.{Notes}
use Rattle.a429_import.specs.declared.indexed_rows.IndexedRows.{IndexedRows}
use Rattle.a429_import.specs.declared.rows.ImportRow.{ImportRow}
use Rattle.a429_import.specs.declared.rows.RowNumbers.{RowNumbers}
use Rattle.a429_import.specs.declared.rows.RowTexts.{RowTexts}
use Rattle.a429_import.specs.ImportFields.{hold_in, label_in, rate_in, sdi_in}
use Rattle.a429_import.specs.ImportReading.{AreBelow, AreTaken, HoldsFirst, IsHeld, IsTaken}
use Rattle.a429_import.specs.ImportRows.{◌>>=◌, CsvFault, agreed, column_field, first_clash, has_label, interval_at, joined, next_row, numbers_of, output_at, row_of, rows_after, stated_at, texts_of, until_last, with_line, with_row, without_notes}
use Rattle.a429_import.specs.Imports.{States}
use Rattle.a429_import.proofs.ImportRanges.{bound, line_taken}
use Rattle.a429_import.proofs.ImportRows.{rows_after-push, rows_after-refused, states_on}
use Rattle.a429_import.proofs.UntilLast.{all_none, all_passes, all_rest, all_same, any_more}

-- ---- a row without a label has a fault

no_label : label_in [] ≡ None
unfolding label_in label_value
no_label = refl

is_label : (field : List ℕ) (label : ℕ) → label_in field ≡ Some label → not (length field == 0) ≡ true
is_label [] label h = cc (sym no_label ∙ h)
is_label (b ∷ field) label h = ap (λ (t : Bool). not t) (ne_eqb (suc (length field)) 0 (λ z. cc z))

-- numbers are read only if the label is
label_read : (rate : Result ℕ ImportColumn) (label : Option ℕ) (more : ℕ → ℕ → Result RowNumbers ImportColumn) (n : RowNumbers)
    → (rate >>= λ r. ok_or label Label >>= λ l. more r l) ≡ Ok n → (l : ℕ) × (label ≡ Some l)
label_read (Err c) label more n h = cc
label_read (Ok r) None more n h = cc
label_read (Ok r) (Some l) more n h = (l, refl)

-- the numbers of a row after its bit rate and its label
abbrev more_numbers : ℕ → List (List ℕ) → List (List ℕ) → ℕ → ℕ → Result RowNumbers ImportColumn
more_numbers separator heading fields rate label = do
  sdi ← stated_at sdi_in heading fields Sdi
  least ← interval_at separator heading fields MinUs
  most ← interval_at separator heading fields MaxUs
  hold ← output_at hold_in None heading fields Hold
  Ok (record { rate = rate; label = label; sdi = sdi; min_us = least; max_us = most; hold = hold })

numbers_have_label : (separator : ℕ) (heading fields : List (List ℕ)) (n : RowNumbers) → numbers_of separator heading fields ≡ Ok n → not (length (column_field heading fields Label) == 0) ≡ true
unfolding numbers_of
numbers_have_label separator heading fields n h =
    let label = label_read (output_at rate_in 0 heading fields Rate) (label_in (column_field heading fields Label)) (more_numbers separator heading fields) n h in
    is_label (column_field heading fields Label) label.0 label.1

joined_from : (line : ℕ) (numbers : Result RowNumbers ImportColumn) (texts : Result RowTexts ImportColumn) (row : ImportRow) → joined line numbers texts ≡ Ok row → (n : RowNumbers) × (numbers ≡ Ok n)
joined_from line (Err c) texts row h = cc
joined_from line (Ok n) texts row h = (n, refl)

long_enough : (b : Bool) (x : Result ImportRow CsvFault) (f : CsvFault) (row : ImportRow) → (if b then x else Err f) ≡ Ok row → x ≡ Ok row
long_enough true x f row h = h
long_enough false x f row h = cc

row_has_label : (heading : List (List ℕ)) (line : CsvLine) (row : ImportRow) → row_of heading line ≡ Ok row → has_label heading line ≡ true
unfolding row_of
row_has_label heading line row h =
    let fields = fields_of line.fields in
    let numbers = numbers_of line.separator heading fields in
    let stated = joined_from line.number numbers (texts_of heading fields) row (long_enough (length fields == length heading) _ _ row h) in
    numbers_have_label line.separator heading fields stated.0 stated.1

no_fault_by : (heading : List (List ℕ)) (line : CsvLine) (stated : Result ImportRow CsvFault) → row_of heading line ≡ stated → None ≡ result_err stated → has_label heading line ≡ true
no_fault_by heading line (Ok row) is h = row_has_label heading line row is
no_fault_by heading line (Err f) is h = cc h

pub has_fault : (heading : List (List ℕ)) (line : CsvLine) → None ≡ result_err (row_of heading line) → has_label heading line ≡ false → ⊥
has_fault heading line h none = let some = no_fault_by heading line (row_of heading line) refl h in cc (sym some ∙ none)

-- ---- rows without a fault

next_has_label : (heading : List (List ℕ)) (earlier : List ImportRow) (line : CsvLine) (row : ImportRow) → next_row heading earlier line ≡ Ok row → has_label heading line ≡ true
next_has_label heading earlier line row h =
    let alone = bound (row_of heading line) (λ r. agreed line.number r (first_clash earlier r)) row h in
    row_has_label heading line alone.value alone.was

all_labelled : (heading : List (List ℕ)) (lines : List CsvLine) (earlier rows : List ImportRow) → rows_after heading earlier lines ≡ Ok rows → until_last (has_label heading) lines ≡ lines
all_labelled heading [] earlier rows h = refl
all_labelled heading (line ∷ lines) earlier rows h =
    let t = line_taken heading earlier line lines rows h in
    ap (λ (b : Bool). cond (b || list_any (has_label heading) lines) (line ∷ until_last (has_label heading) lines) []) (next_has_label heading earlier line t.row t.next)
    ∙ ap (λ (ls : List CsvLine). line ∷ ls) (all_labelled heading lines t.rows rows t.rest)

-- rows without a fault have no notes
pub no_notes : (heading : List (List ℕ)) (lines : List CsvLine) (earlier rows : List ImportRow) → rows_after heading earlier lines ≡ Ok rows → without_notes heading lines ≡ lines
no_notes heading lines earlier rows h = by (list_any (has_label heading) lines)
  where
    by : (b : Bool) → cond b (until_last (has_label heading) lines) lines ≡ lines
    by true = all_labelled heading lines earlier rows h
    by false = refl

-- ---- one more row

pub is_note : (labelled label : Bool) → (labelled && not label) ≡ true → (labelled ≡ true) × (label ≡ false)
is_note true false h = (refl, refl)
is_note true true h = cc
is_note false label h = cc

and_true : (b : Bool) → (b && true) ≡ false → b ≡ false
and_true true h = h
and_true false h = refl

module _ (heading : List (List ℕ)) (below : List CsvLine) (line : CsvLine) where
  abbrev all : List CsvLine
  all = below ++ line ∷ []

  abbrev IsFault : ImportFault → Result (List ImportRow) CsvFault → Type 0
  IsFault e stated = States {X = List ImportRow} (λ rows. rows) (Err e) stated

  -- after rows without a fault
  stated_after : (rows : List ImportRow) → rows_after heading [] below ≡ Ok rows → rows_after heading [] all ≡ with_line heading rows line
  stated_after rows was = rows_after-push heading [] below line ∙ ap (λ (r : Result (List ImportRow) CsvFault). r >>= λ rows. with_line heading rows line) was

  refused_after : (e : ImportFault) → IsFault e (rows_after heading [] below) → IsFault e (rows_after heading [] all)
  refused_after e h = states_on e (rows_after heading [] below) (rows_after heading [] all) (rows_after-refused heading [] below (line ∷ [])) h

  row_refused : (e : ImportFault) (rows : List ImportRow) → rows_after heading [] below ≡ Ok rows → IsFault e (with_line heading rows line) → IsFault e (rows_after heading [] all)
  row_refused e rows was h = states_on e (with_line heading rows line) (rows_after heading [] all) (λ f is. stated_after rows was ∙ is) h

  alone_refused : (e : ImportFault) (rows : List ImportRow) → rows_after heading [] below ≡ Ok rows → States {X = ImportRow} (λ row. row) (Err e) (row_of heading line) → IsFault e (rows_after heading [] all)
  alone_refused NoMemory rows was h = tt
  alone_refused (Csv number kind column) rows was h =
      stated_after rows was ∙ ap (λ (r : Result ImportRow CsvFault). (r >>= λ row. agreed line.number row (first_clash rows row)) >>= λ row. with_row line.number rows row) h
  alone_refused (Table f) rows was h = absurd h

  held_more : (rows : List ImportRow) (old new : Option ImportFault) → HoldsFirst old new (row_of heading line) → IsHeld old rows (rows_after heading [] below) → IsHeld new rows (rows_after heading [] all)
  held_more rows None None holds held = absurd holds
  held_more rows None (Some e) holds held = alone_refused e rows held holds
  held_more rows (Some e) new holds held = subst (λ o. IsHeld o rows (rows_after heading [] all)) (sym holds) (refused_after e held)

  one_longer : length all ≡ length below + 1
  one_longer = length-append below (line ∷ [])

  module _ (read : IndexedRows) (old : Notes) (known : AreBelow heading below read old) where
    -- a row that may be a note
    pub note_taken : (new : Notes) → vec_len new.rows ≡ vec_len old.rows + 1 → new.is_labelled ≡ old.is_labelled → HoldsFirst old.held new.held (row_of heading line)
        → old.is_labelled ≡ true → has_label heading line ≡ false → AreBelow heading all read new
    note_taken new count labelled holds some none =
        let any : list_any (has_label heading) below ≡ true = sym known.labelled ∙ some in
        let same : without_notes heading all ≡ without_notes heading below = all_same (has_label heading) line below any none in
        let lengths : length (without_notes heading all) ≡ length (without_notes heading below) = ap length same in
        record {
          stated = ap (rows_after heading []) same ∙ known.stated;
          held = held_more read.rows.items old.held new.held holds known.held;
          labelled = labelled ∙ some ∙ sym (any_more (has_label heading) line below ∙ ap₂ (λ (a b : Bool). a || b) any none);
          count = omega (arith, lengths, count, known.count, one_longer);
          agree = known.agree;
          knows = known.knows;
        }

    -- a row that is no note
    stated_by : (b : Bool) → has_label heading line ≡ b → (old.is_labelled && not b) ≡ false → without_notes heading all ≡ all
    stated_by true is h = all_passes (has_label heading) line below is
    stated_by false is h = all_none (has_label heading) line below (sym known.labelled ∙ and_true old.is_labelled h) is

    is_stated : (old.is_labelled && not (has_label heading line)) ≡ false → without_notes heading all ≡ all
    is_stated h = stated_by (has_label heading line) refl h

    pub held_taken : (e : ImportFault) (new : IndexedRows) (notes : Notes) → old.held ≡ Some e → (old.is_labelled && not (has_label heading line)) ≡ false → AreTaken (Err e) heading all new notes
    held_taken e new notes is none =
        let held = subst (λ o. IsHeld o read.rows.items (rows_after heading [] below)) is known.held in
        subst (λ ls. IsFault e (rows_after heading [] ls)) (sym (is_stated none)) (refused_after e held)

    pub row_taken : (result : Result (Unit {0}) ImportFault) (new : IndexedRows) (notes : Notes) → old.held ≡ None → (old.is_labelled && not (has_label heading line)) ≡ false
        → notes.held ≡ None → vec_len notes.rows ≡ 0 → notes.is_labelled ≡ (old.is_labelled || has_label heading line) → IsTaken result new (with_line heading read.rows.items line) → AreTaken result heading all new notes
    row_taken (Ok u) new notes is none held count labelled (stated, agree, knows) =
        let was = subst (λ o. IsHeld o read.rows.items (rows_after heading [] below)) is known.held in
        let after : rows_after heading [] all ≡ Ok new.rows.items = stated_after read.rows.items was ∙ stated in
        let lengths : length (without_notes heading all) ≡ length all = ap length (is_stated none) in
        record {
          stated = ap (rows_after heading []) (is_stated none) ∙ after;
          held = subst (λ o. IsHeld o new.rows.items (rows_after heading [] all)) (sym held) after;
          labelled = labelled ∙ ap (λ (b : Bool). b || has_label heading line) known.labelled ∙ sym (any_more (has_label heading) line below);
          count = omega (arith, lengths, count);
          agree = agree;
          knows = knows;
        }
    row_taken (Err e) new notes is none held count labelled refused =
        let was = subst (λ o. IsHeld o read.rows.items (rows_after heading [] below)) is known.held in
        subst (λ ls. IsFault e (rows_after heading [] ls)) (sym (is_stated none)) (row_refused e read.rows.items was refused)

-- ---- a fault stays

module _ (heading : List (List ℕ)) (below : List CsvLine) (line : CsvLine) (f : CsvFault) (refused : rows_after heading [] (without_notes heading below) ≡ Err f) where
  refused_all : rows_after heading [] (below ++ line ∷ []) ≡ Err f
  refused_all =
      let rest = all_rest (has_label heading) below in
      let first : rows_after heading [] below ≡ Err f = ap (rows_after heading []) rest.1 ∙ rows_after-refused heading [] (without_notes heading below) rest.0 f refused in
      rows_after-refused heading [] below (line ∷ []) f first

  refused_if : (some any : Bool) → has_label heading line ≡ some → list_any (has_label heading) below ≡ any → rows_after heading [] (without_notes heading (below ++ line ∷ [])) ≡ Err f
  refused_if true any is among = ap (rows_after heading []) (all_passes (has_label heading) line below is) ∙ refused_all
  refused_if false true is among = ap (rows_after heading []) (all_same (has_label heading) line below among is) ∙ refused
  refused_if false false is among = ap (rows_after heading []) (all_none (has_label heading) line below among is) ∙ refused_all

  pub still_refused : rows_after heading [] (without_notes heading (below ++ line ∷ [])) ≡ Err f
  still_refused = refused_if (has_label heading line) (list_any (has_label heading) below) refl refl
