-- The fields of a row of an interface control document state what they were written from.
use Rattle.std.proofs.Common.{◌≡◌, ◌∙◌, ℕ, zero, suc, ◌+◌, ◌<◌, ◌^◌, Bool, true, false, List, [], ◌∷◌, length, map, Option, None, Some, Result, Ok, Err, IsAscii, ap, sym, refl, arith, le-leb, ne_eqb, ◌≤◌, ◌/◌, ◌%◌, inl, inr, lt-ltb, eqb-true}
use Rattle.std.specs.Prelude.{◌==◌, ◌||◌, ◌&&◌, IfSome, codes, if◌then◌else◌, nat_le}
use Rattle.std.specs.Fmt.{decimal}
use Rattle.std.specs.List.{list_all}
use Rattle.std.specs.Option.{option_map}
use Rattle.std.specs.Str.{bytes_eq}
use Rattle.std.proofs.lemmas.Bool.{and_parts, leb-true}
use Rattle.std.proofs.lemmas.Fmt.{decimal_nonempty}
use Rattle.std.proofs.lemmas.Option.{none-some}
use Rattle.std.proofs.lemmas.Str.{IsUtf8-from_ascii, IsUtf8-nil, is_utf8-from_IsUtf8}
use Rattle.std.proofs.lemmas.Str.Ascii.{IsAscii-cons, IsAscii-nil}
use Rattle.a429_word.specs.Decimal.{decimal_number, is_numeral}
use Rattle.a429_word.specs.Texts.{label_value, octal}
use Rattle.a429_word.proofs.LabelTexts.{value_of_written}
use Rattle.a429_word.proofs.Lists.{false_unless, or_parts}
use Rattle.a429_equipment.specs.NameForm.{is_name, is_name_byte}
use Rattle.a429_equipment.specs.TableRecord.{receiver_name}
use Rattle.a429_equipment.specs.declared.rows.GroupRow.{GroupRow}
use Rattle.a429_equipment.specs.declared.rows.OutputRow.{OutputRow}
use Rattle.a429_equipment.specs.declared.rows.ReceiverRow.{ReceiverRow}
use Rattle.a429_equipment.specs.declared.rows.SourceRow.{SourceRow}
use Rattle.a429_slots.specs.declared.group_plan.SendLimits.{SendLimits}
use Rattle.a429_slots.specs.declared.group_plan.SlotPlace.{SlotPlace}
use Rattle.a429_text.specs.Fields.{Field, field_text}
use Rattle.a429_cert.proofs.CheckedPlans.{same_bytes}
use Rattle.a429_cert.proofs.Fields.{value_again}
use Rattle.a429_import.specs.declared.fault.CsvFaultKind.TheVariants.{Form}
use Rattle.a429_import.specs.declared.fault.ImportColumn.TheVariants.{Group, Rate, Source, Receiver, Label, Sdi, MinUs, MaxUs, Hold, Filters}
use Rattle.a429_import.specs.declared.rows.ImportRow.{ImportRow}
use Rattle.a429_import.specs.declared.rows.RowNumbers.{RowNumbers}
use Rattle.a429_import.specs.declared.rows.RowTexts.{RowTexts}
use Rattle.a429_documents.specs.Document.{icd_columns, icd_row, limit_field, sdi_field}
use Rattle.a429_import.specs.ImportFields.{filters_in, hold_in, label_in, padded, number_in, rate_in, sdi_in, text_in, utf8_in}
use Rattle.a429_import.specs.ImportIntervals.{in_micros, interval_in}
use Rattle.a429_import.specs.Imports.{has_text, is_filled}
use Rattle.a429_import.specs.ImportWords.{stepped, trimmed, unwrapped}
use Rattle.a429_import.specs.ImportRows.{CsvFault, column_field, column_form, is_named, joined, names_group, numbers_of, texts_of}
use Rattle.a429_callers.proofs.Icd.Visible.{label_stays, name_bytes, name_stays, number_stays}

-- ---- numbers

number_back : (n : ℕ) → n < 2 ^ 32 → number_in (decimal n) ≡ Some n
unfolding number_in
number_back n small = rw (value_again n (omega (arith, small))) (ap (λ (b : Bool). if b then Some n else None) (lt-ltb n (2 ^ 32) small))

rate_back : (n : ℕ) → n < 2 ^ 32 → rate_in (decimal n) ≡ Some n
unfolding rate_in
rate_back n small = rw (number_back n small) refl

not_wrapped : (first : ℕ) (rest : List ℕ) → first ≤ 51 → unwrapped (first ∷ rest) ≡ first ∷ rest
not_wrapped first rest few = rw (ne_eqb first 61 (λ same. omega (arith, same, few))) refl

label_back : (label : ℕ) → label < 256 → label_in (octal label) ≡ Some label
unfolding label_in
label_back label small =
    let few : 48 + label / 64 ≤ 51 = omega (arith, small) in
    ap (λ (f : List ℕ). label_value (padded f)) (not_wrapped (48 + label / 64) ((48 + label / 8 % 8) ∷ (48 + label % 8) ∷ []) few) ∙ value_of_written label small

digit_back : (k : ℕ) → k < 4 → sdi_in ((48 + k) ∷ []) ≡ Some (Some k)
unfolding sdi_in
digit_back zero small = refl
digit_back (suc zero) small = refl
digit_back (suc (suc zero)) small = refl
digit_back (suc (suc (suc zero))) small = refl
digit_back (suc (suc (suc (suc k)))) small = absurd (omega (arith, small))

any_back : sdi_in (codes "any") ≡ Some None
unfolding sdi_in
any_back = refl

sdi_back : (sdi : Option ℕ) → IfSome sdi (λ k. k < 4) → sdi_in (field_text [] (sdi_field sdi)) ≡ Some sdi
sdi_back None small = any_back
sdi_back (Some zero) small = digit_back zero small
sdi_back (Some (suc zero)) small = digit_back (suc zero) small
sdi_back (Some (suc (suc zero))) small = digit_back (suc (suc zero)) small
sdi_back (Some (suc (suc (suc zero)))) small = digit_back (suc (suc (suc zero))) small
sdi_back (Some (suc (suc (suc (suc k))))) small = absurd (omega (arith, small))

no_number : decimal_number (codes "none") ≡ None
unfolding decimal_number is_numeral
no_number = refl

not_word : (n : ℕ) → n < 2 ^ 32 → ((length (decimal n) == 0) || bytes_eq (decimal n) (codes "none")) ≡ false
not_word n small =
    false_unless ((length (decimal n) == 0) || bytes_eq (decimal n) (codes "none"))
    (λ either. elim (or_parts (length (decimal n) == 0) (bytes_eq (decimal n) (codes "none")) either) [
      | inl empty ↦ omega (arith, eqb-true (length (decimal n)) 0 empty, decimal_nonempty n (omega (arith, small)))
      | inr word ↦ none-some n (sym no_number ∙ sym (ap decimal_number (same_bytes (decimal n) (codes "none") word)) ∙ value_again n (omega (arith, small)))
    ])

hold_back : (hold : Option ℕ) → IfSome hold (λ n. n < 2 ^ 32) → hold_in (field_text [] (limit_field hold)) ≡ Some hold
unfolding hold_in
hold_back None small = refl
hold_back (Some n) small = rw (not_word n small) (ap (option_map (λ n. Some n)) (number_back n small))

-- ---- texts

ascii : (bytes : List ℕ) → list_all is_name_byte bytes ≡ true → IsAscii bytes
ascii [] h = IsAscii-nil
ascii (b ∷ bytes) h = let parts = and_parts (is_name_byte b) (list_all is_name_byte bytes) h in IsAscii-cons b bytes (name_bytes (b ∷ bytes) h).0.1 (ascii bytes parts.1)

text_back : (name : List ℕ) → is_name name ≡ true → text_in name ≡ Some name
unfolding text_in utf8_in is_name
text_back name h =
    let parts = and_parts (nat_le 1 (length name) && nat_le (length name) 16) (list_all is_name_byte name) h in
    let few = leb-true (length name) 16 (and_parts (nat_le 1 (length name)) (nat_le (length name) 16) parts.0).1 in
    rw (le-leb (length name) 4096 (omega (arith, few)), is_utf8-from_IsUtf8 name (IsUtf8-from_ascii name (ascii name parts.1))) refl

no_text : text_in [] ≡ Some []
unfolding text_in utf8_in
no_text = rw (is_utf8-from_IsUtf8 [] IsUtf8-nil) refl

no_filters : filters_in [] ≡ Some []
unfolding filters_in
no_filters = rw no_text refl

-- ---- without blanks round them

sdi_stays : (sdi : Option ℕ) → IfSome sdi (λ k. k < 4) → trimmed (field_text [] (sdi_field sdi)) ≡ field_text [] (sdi_field sdi)
unfolding trimmed stepped
sdi_stays None small = refl
sdi_stays (Some zero) small = refl
sdi_stays (Some (suc zero)) small = refl
sdi_stays (Some (suc (suc zero))) small = refl
sdi_stays (Some (suc (suc (suc zero)))) small = refl
sdi_stays (Some (suc (suc (suc (suc k))))) small = absurd (omega (arith, small))

hold_stays : (hold : Option ℕ) → IfSome hold (λ n. n < 2 ^ 32) → trimmed (field_text [] (limit_field hold)) ≡ field_text [] (limit_field hold)
unfolding trimmed stepped
hold_stays None small = refl
hold_stays (Some n) small = number_stays n small

no_text_stays : trimmed [] ≡ []
unfolding trimmed stepped
no_text_stays = refl

-- ---- a row

-- a name is not empty
pub name_filled : (name : List ℕ) → is_name name ≡ true → is_filled name ≡ true
unfolding is_name
name_filled [] h = cc
name_filled (b ∷ name) h = rw (ne_eqb (length (b ∷ name)) 0 (λ z. omega (arith, z))) refl

-- the texts of a row as comma-separated values
abbrev pub texts : List Field → List (List ℕ)
texts row = map (field_text []) row

-- what fields state below a heading
abbrev pub row_by : ℕ → List (List ℕ) → ℕ → List (List ℕ) → Result ImportRow CsvFault
row_by separator heading number fields =
    if length fields == length heading then joined number (numbers_of separator heading fields) (texts_of heading fields) else Err (number, Form, None)

-- the same between commas
abbrev pub row_from : List (List ℕ) → ℕ → List (List ℕ) → Result ImportRow CsvFault
row_from heading number fields = row_by 44 heading number fields

numbers_are : (heading fields : List (List ℕ)) (n : RowNumbers) → names_group heading fields ≡ true → column_form heading MinUs ≡ in_micros → column_form heading MaxUs ≡ in_micros → rate_in (column_field heading fields Rate) ≡ Some n.rate → label_in (column_field heading fields Label) ≡ Some n.label
    → sdi_in (column_field heading fields Sdi) ≡ Some n.sdi → number_in (column_field heading fields MinUs) ≡ Some n.min_us → number_in (column_field heading fields MaxUs) ≡ Some n.max_us
    → hold_in (column_field heading fields Hold) ≡ Some n.hold → numbers_of 44 heading fields ≡ Ok n
unfolding numbers_of interval_in
numbers_are heading fields n named least_in_us most_in_us rate label sdi least most hold = rw (named, rate, label, sdi, least_in_us, least, most_in_us, most, hold) refl

texts_are : (heading fields : List (List ℕ)) (t : RowTexts) → text_in (column_field heading fields Group) ≡ Some t.group → text_in (column_field heading fields Source) ≡ Some t.source
    → text_in (column_field heading fields Receiver) ≡ Some t.receiver → filters_in (column_field heading fields Filters) ≡ Some t.filters → texts_of heading fields ≡ Ok t
unfolding texts_of
texts_are heading fields t group source receiver filters = rw (group, source, receiver, filters) refl

-- what is read of the row of an output
abbrev pub read_row : List ReceiverRow → GroupRow → SourceRow → OutputRow → ImportRow
read_row receivers g s o = record {
  texts = record { group = g.name; source = s.name; receiver = receiver_name receivers s.receiver; filters = [] };
  numbers = record { rate = g.rate; label = s.label; sdi = s.sdi; min_us = o.min_us; max_us = o.max_us; hold = o.hold };
}

-- its names and numbers can be read
pub record IsReadable (receivers : List ReceiverRow) (g : GroupRow) (s : SourceRow) (o : OutputRow) : Type 0 where
  pub group : is_name g.name ≡ true
  pub source : is_name s.name ≡ true
  pub receiver : is_name (receiver_name receivers s.receiver) ≡ true
  pub rate : g.rate < 2 ^ 32
  pub label : s.label < 256
  pub sdi : IfSome s.sdi (λ k. k < 4)
  pub least : o.min_us < 2 ^ 32
  pub most : o.max_us < 2 ^ 32
  pub hold : IfSome o.hold (λ n. n < 2 ^ 32)

module _ (receivers : List ReceiverRow) (g : GroupRow) (s : SourceRow) (o : OutputRow) (place : SlotPlace) (limits : SendLimits) (R : IsReadable receivers g s o) (held : limits.hold ≡ o.hold) where
  -- the fields of the row, without blanks round them
  abbrev fields : List (List ℕ)
  fields = map trimmed (texts (icd_row false receivers g s o place limits))

  pub row_filled : has_text fields ≡ true
  row_filled = rw (name_stays g.name R.group, name_filled g.name R.group) refl

  numbers_back : numbers_of 44 icd_columns fields ≡ Ok (read_row receivers g s o).numbers
  unfolding column_field column_form is_named
  numbers_back =
      numbers_are icd_columns fields (read_row receivers g s o).numbers (ap is_filled (name_stays g.name R.group) ∙ name_filled g.name R.group) refl refl
      (ap rate_in (number_stays g.rate R.rate) ∙ rate_back g.rate R.rate)
      (ap label_in (label_stays s.label R.label) ∙ label_back s.label R.label)
      (ap sdi_in (sdi_stays s.sdi R.sdi) ∙ sdi_back s.sdi R.sdi)
      (ap number_in (number_stays o.min_us R.least) ∙ number_back o.min_us R.least)
      (ap number_in (number_stays o.max_us R.most) ∙ number_back o.max_us R.most)
      (ap (λ (h : Option ℕ). hold_in (trimmed (field_text [] (limit_field h)))) held ∙ ap hold_in (hold_stays o.hold R.hold) ∙ hold_back o.hold R.hold)

  texts_back : texts_of icd_columns fields ≡ Ok (read_row receivers g s o).texts
  unfolding column_field is_named
  texts_back =
      texts_are icd_columns fields (read_row receivers g s o).texts
      (ap text_in (name_stays g.name R.group) ∙ text_back g.name R.group)
      (ap text_in (name_stays s.name R.source) ∙ text_back s.name R.source)
      (ap text_in (name_stays (receiver_name receivers s.receiver) R.receiver) ∙ text_back (receiver_name receivers s.receiver) R.receiver) no_filters

  pub row_back : (number : ℕ) → row_from icd_columns number fields ≡ Ok (read_row receivers g s o)
  row_back number = rw (numbers_back, texts_back) refl
