-- All records of a text are those that its reader gives.
use Rattle.std.proofs.Common.{Bor, ◌≡◌, ◌∙◌, ◌∷◌, ◌++◌, ◌+◌, ◌-◌, ◌≤◌, [], ℕ, true, false, zero, suc, Bool, List, None, Option, Some, ap, ap₂, arith, get_or, length, map, refl, subst, sym}
use Rattle.std.specs.Prelude.{◌==◌, if◌then◌else◌}
use Rattle.std.specs.Option.{option_map_or}
use Rattle.std.proofs.lemmas.Bool.{eqb-true}
use Rattle.std.proofs.lemmas.List.{length-map}
use Rattle.std.proofs.lemmas.Option.{none-some, same_Some}
use Rattle.csv.specs.Machine.{Read, ends_at_end, field_after, fields_after, is_end, next_record, step}
use Rattle.csv.specs.Reading.{AreRecords, Reached, ReadRecord, records, records_from, records_next, strip_bom}
use Rattle.csv.specs.Records.{fields_of}
use Rattle.csv.specs.declared.parser.Config.{Config}
use Rattle.csv.specs.declared.parser.State.{State}
use Rattle.csv.specs.declared.parser.State.TheVariants as st
use Rattle.csv.specs.declared.reader.Reader.{Reader}
use Rattle.csv.proofs.ReadFacts.{rows-end}
use Rattle.a429_text.specs.declared.csv_line.CsvLine.{CsvLine}
use Rattle.a429_import.specs.declared.lines.LineCount.{LineCount}
use Rattle.a429_import.specs.FaultLines.{data_line, first_row, is_data, number_of}
use Rattle.a429_import.specs.ImportReading.{HasRead}
use Rattle.a429_import.specs.Imports.{separated}
use Rattle.a429_import.specs.ImportWords.{trimmed}
use Rattle.a429_import.specs.RowLines.{row_lines}
use Rattle.a429_import.proofs.FaultLines.{line_number, number_mapped}

module _ (cfg : Config) where
  -- ---- what a record leaves

  -- the record at the end of a text, if there is one, leaves nothing
  nothing_left : (t : Bool) (fields : List (List ℕ)) (p : Read) → (if t then Some (fields, st.StartRecord, []) else None) ≡ Some p → (fields, st.StartRecord, []) ≡ p
  nothing_left true fields p found = same_Some _ _ found
  nothing_left false fields p found = absurd (none-some p found)

  -- one that a byte ends, or a later byte, leaves less than the bytes after that byte
  less_left : (t : Bool) (rest : List ℕ) (read p : Read) (more : Option Read) → ((q : Read) → more ≡ Some q → length q.2 ≤ length rest - 1) → read.2 ≡ rest → (if t then Some read else more) ≡ Some p → length p.2 ≤ length rest
  less_left true rest read p more later here found =
      let is : length p.2 ≡ length rest = ap (λ (r : Read). length r.2) (sym (same_Some _ _ found)) ∙ ap length here in
      omega (arith, is)
  less_left false rest read p more later here found = omega (arith, later p found)

  shorter : (xs : List ℕ) (s : State) (fields : List (List ℕ)) (field : List ℕ) (p : Read) → next_record cfg s fields field xs ≡ Some p → length p.2 ≤ length xs - 1
  unfolding next_record
  shorter [] s fields field p found =
      let none : length p.2 ≡ 0 = ap (λ (r : Read). length r.2) (sym (nothing_left (ends_at_end s) (fields ++ field ∷ []) p found)) in
      omega (arith, none)
  shorter (c ∷ rest) s fields field p found =
      let less = less_left (is_end (step cfg s c).1) rest (fields_after (step cfg s c).1 fields field, (step cfg s c).0, rest) p
      (next_record cfg (step cfg s c).0 (fields_after (step cfg s c).1 fields field) (field_after (step cfg s c).1 c field) rest)
      (λ q later. shorter rest (step cfg s c).0 (fields_after (step cfg s c).1 fields field) (field_after (step cfg s c).1 c field) q later) refl found in
      omega (arith, less)

  -- no record comes after the one at the end of a text
  none_more : (s : State) (p q : Read) → next_record cfg s [] [] [] ≡ Some p → next_record cfg p.1 [] [] p.2 ≡ Some q → ⊥
  unfolding next_record
  none_more s p q found more =
      none-some q (subst (λ (r : Read). next_record cfg r.1 [] [] r.2 ≡ Some q) (sym (nothing_left (ends_at_end s) ([] ∷ []) p found)) more)

  -- ---- all records

  few_records : (rows : List (List (List ℕ))) (s s2 : State) (xs ys : List ℕ) → Reached cfg s xs rows s2 ys → length rows ≤ length xs + 1
  unfolding Reached
  few_records [] s s2 xs ys reached = omega arith
  few_records (r ∷ []) s s2 xs ys reached = omega arith
  few_records (r ∷ q ∷ rows) s s2 [] ys reached = absurd (none_more s reached.0 reached.3.0 reached.1 reached.3.1)
  few_records (r ∷ q ∷ rows) s s2 (c ∷ rest) ys reached =
      omega (arith, few_records (q ∷ rows) reached.0.1 s2 reached.0.2 ys reached.3, shorter (c ∷ rest) s [] [] reached.0 reached.1)

  all_records : (n : ℕ) (rows : List (List (List ℕ))) (s s2 : State) (xs ys : List ℕ) → length rows ≤ n → Reached cfg s xs rows s2 ys → next_record cfg s2 [] [] ys ≡ None → records_from cfg n s xs ≡ rows
  unfolding records_from Reached
  all_records zero [] s s2 xs ys enough reached end = refl
  all_records zero (r ∷ rows) s s2 xs ys enough reached end = absurd (omega (arith, enough))
  all_records (suc n) [] s s2 xs ys enough reached end =
      let none : next_record cfg s [] [] xs ≡ None = rw (reached.0, reached.1) end in
      ap (records_next (records_from cfg n)) none
  all_records (suc n) (r ∷ rows) s s2 xs ys enough reached end =
      ap (records_next (records_from cfg n)) reached.1
      ∙ ap₂ (λ (x : List (List ℕ)) (more : List (List (List ℕ))). x ∷ more) (sym reached.2) (all_records n rows reached.0.1 s2 reached.0.2 ys (omega (arith, enough)) reached.3 end)

  pub records_are : (xs : List ℕ) (rows : List (List (List ℕ))) → AreRecords cfg st.StartRecord xs rows → records cfg xs ≡ rows
  records_are xs rows are = all_records (length xs + 1) rows st.StartRecord are.0 xs are.1 (few_records rows st.StartRecord are.0 xs are.1 are.2) are.2 are.3

-- ---- the heading, and the rows above it

-- the fields of the first of these rows
first_of : (separator : ℕ) (text : List ℕ) (s : State) (ys : List ℕ) (rows : List (List (List ℕ))) (fields : List (List ℕ)) → Reached (separated separator) st.StartRecord (strip_bom text) rows s ys → fields ∷ [] ≡ map (map trimmed) rows
    → fields ≡ first_row (separated separator) text
unfolding Reached
first_of separator text s ys [] fields reached same = absurd (omega (arith, ap length same))
first_of separator text s ys (row ∷ rows) fields reached same =
    ap (λ (zs : List (List (List ℕ))). get_or zs 0 []) same ∙ ap (map trimmed) (reached.2 ∙ sym (ap (λ (o : Option Read). option_map_or (λ (p : Read). p.0) o []) reached.1))

-- the first line that is read has the fields of the first row
pub first_is : (separator : ℕ) (file text : List ℕ) (a : Reader (Bor (List ℕ))) (count : LineCount) (line : CsvLine) → HasRead separator file text a count (line ∷ []) → fields_of line.fields ≡ first_row (separated separator) text
first_is separator file text a count line has = first_of separator text a.state has.rest has.rows (fields_of line.fields) has.reached has.fields

none_first : (separator : ℕ) (text : List ℕ) (s : State) (ys : List ℕ) (rows : List (List (List ℕ))) → Reached (separated separator) st.StartRecord (strip_bom text) rows s ys → ◌≡◌ {A = List (List (List ℕ))} [] (map (map trimmed) rows)
    → next_record (separated separator) s [] [] ys ≡ None → [] ≡ first_row (separated separator) text
unfolding Reached
none_first separator text s ys [] reached same end =
    let first : next_record (separated separator) st.StartRecord [] [] (strip_bom text) ≡ None = rw (reached.0, reached.1) end in
    sym (ap (λ (o : Option Read). map trimmed (option_map_or (λ (p : Read). p.0) o [])) first)
none_first separator text s ys (row ∷ rows) reached same end = absurd (omega (arith, ap length same))

pub no_first : (separator : ℕ) (file text : List ℕ) (a b : Reader (Bor (List ℕ))) (count : LineCount) → HasRead separator file text a count [] → ReadRecord (λ s. Some s.now) a b false [] → [] ≡ first_row (separated separator) text
no_first separator file text a b count has end =
    none_first separator text a.state has.rest has.rows has.reached has.fields (rows-end (λ (s : Bor (List ℕ)). Some s.now) a b [] (separated separator) has.rest has.config has.source end)

-- the line of the first row of data is that of the lines that were read
pub line_read : (separator : ℕ) (heading : List (List ℕ)) (text : List ℕ) (a b : Reader (Bor (List ℕ))) (count : LineCount) (lines : List CsvLine) → HasRead separator text text a count lines → ReadRecord (λ s. Some s.now) a b false []
    → line_number (is_data heading) lines ≡ data_line (separated separator) heading text
line_read separator heading text a b count lines has end =
    let cfg : Config = separated separator in
    let passes : List (List ℕ) → Bool = λ row. is_data heading (map trimmed row) in
    let none = rows-end (λ (s : Bor (List ℕ)). Some s.now) a b [] cfg has.rest has.config has.source end in
    let same : records cfg (strip_bom text) ≡ has.rows = records_are cfg (strip_bom text) has.rows (a.state, has.rest, has.reached, none) in
    let many : length has.rows ≡ length lines = sym (length-map has.rows (map trimmed)) ∙ sym (ap length has.fields) ∙ length-map lines (λ (l : CsvLine). fields_of l.fields) in
    ap₂ (λ (rows : List (List (List ℕ))) (numbers : List ℕ). number_of (is_data heading) rows numbers) has.fields has.numbers
    ∙ number_mapped (is_data heading) (map trimmed) has.rows (row_lines cfg text (length lines) text)
    ∙ sym (ap (λ (n : ℕ). number_of passes has.rows (row_lines cfg text n text)) many)
    ∙ sym (ap (λ (rows : List (List (List ℕ))). number_of passes rows (row_lines cfg text (length rows) text)) same)

-- ---- a text without a row

no_records : (cfg : Config) → records cfg (strip_bom []) ≡ []
unfolding records_from next_record strip_bom
no_records cfg = refl

pub no_data_line : (cfg : Config) (heading : List (List ℕ)) (text : List ℕ) → (length text == 0) ≡ true → None ≡ data_line cfg heading text
unfolding number_of
no_data_line cfg heading [] none =
    sym (ap (λ (rows : List (List (List ℕ))). number_of (λ row. is_data heading (map trimmed row)) rows (row_lines cfg [] (length rows) [])) (no_records cfg))
no_data_line cfg heading (b ∷ text) none = absurd (omega (arith, eqb-true (length (b ∷ text)) 0 none))
