-- On which line the fault is that comes before those of rows.
use Rattle.std.proofs.Common.{◌≡◌, ◌∙◌, ◌+◌, ◌<◌, ◌≤◌, ℕ, zero, suc, Bool, true, false, cond, List, [], ◌∷◌, ◌++◌, Option, None, Some, ap, ap₂, arith, drop, get_or, length, map, refl, sym}
use Rattle.std.specs.Bool.{then_some}
use Rattle.std.specs.Prelude.{◌||◌, is_some}
use Rattle.std.specs.List.{list_any}
use Rattle.std.specs.Option.{option_map, option_or}
use Rattle.std.proofs.lemmas.List.{drop_all, drop_more, length-map, map-append}
use Rattle.csv.specs.Machine.{Read, next_record, step}
use Rattle.csv.specs.Reading.{records, records_from, records_next, strip_bom}
use Rattle.csv.specs.Records.{fields_of}
use Rattle.csv.specs.declared.parser.Config.{Config}
use Rattle.csv.specs.declared.parser.State.{State}
use Rattle.csv.specs.declared.parser.State.TheVariants as st
use Rattle.a429_text.specs.declared.csv_line.CsvLine.{CsvLine}
use Rattle.a429_import.specs.FaultLines.{data_line, data_line_above, fault_line, first_row, has_data, has_data_above, is_data, number_of, quotes_line, wrong_from, wrong_in, wrong_line}
use Rattle.a429_import.specs.ImportMaps.{names_by}
use Rattle.a429_import.specs.ImportQuotes.{breaks_quotes, has_wrong_quotes, is_inside_quotes, is_misquoted, is_misquoted_from, text_before}
use Rattle.a429_import.specs.ImportSteps.{begins_field}
use Rattle.a429_import.specs.RowLines.{and_next, from_row, line_of, lines_from, row_lines}
use Rattle.a429_import.specs.ImportWords.{trimmed}

-- ---- wrong quotes

module _ (of_rows : Bool) (cfg : Config) where
  wrong_next : (s : State) (field : List ℕ) (b : ℕ) (rest : List ℕ) → wrong_from of_rows cfg s field (b ∷ rest)
      ≡ cond (breaks_quotes of_rows s (step cfg s b).0) (Some field) (wrong_from of_rows cfg (step cfg s b).0 (cond (begins_field (step cfg s b).0) rest field) rest)
  unfolding wrong_from
  wrong_next s field b rest = refl

  -- one more byte
  pub wrong_passed : (s : State) (field text : List ℕ) (i : ℕ) → i < length text → wrong_from of_rows cfg s field (drop i text)
      ≡ cond (breaks_quotes of_rows s (step cfg s (get_or text i 0)).0) (Some field)
      (wrong_from of_rows cfg (step cfg s (get_or text i 0)).0 (cond (begins_field (step cfg s (get_or text i 0)).0) (drop (i + 1) text) field) (drop (i + 1) text))
  wrong_passed s field text i below = ap (wrong_from of_rows cfg s field) (drop_more text i 0 below) ∙ wrong_next s field (get_or text i 0) (drop (i + 1) text)

  pub wrong_at_end : (s : State) (field text : List ℕ) (i : ℕ) → length text ≤ i → wrong_from of_rows cfg s field (drop i text) ≡ cond (is_inside_quotes s) (Some field) None
  unfolding wrong_from
  wrong_at_end s field text i past = ap (wrong_from of_rows cfg s field) (drop_all i text past)

  -- the line of the field that was found
  pub line_found : (text end lines : List ℕ) (o : Option ℕ) → lines ≡ strip_bom end → option_map (λ p. drop p lines) o ≡ wrong_from of_rows cfg st.StartRecord lines lines
      → option_map (λ p. line_of text (from_row (drop p lines))) o ≡ wrong_line of_rows cfg text end
  line_found text end lines o is found =
      mapped o ∙ ap (option_map (λ (f : List ℕ). line_of text (from_row f))) found
      ∙ ap (λ (xs : List ℕ). option_map (λ (f : List ℕ). line_of text (from_row f)) (wrong_from of_rows cfg st.StartRecord xs xs)) is
    where
      mapped : (o : Option ℕ) → option_map (λ p. line_of text (from_row (drop p lines))) o ≡ option_map (λ (f : List ℕ). line_of text (from_row f)) (option_map (λ p. drop p lines) o)
      mapped None = refl
      mapped (Some p) = refl

pub drop_cond : (t : Bool) (a b : ℕ) (text : List ℕ) → drop (cond t a b) text ≡ cond t (drop a text) (drop b text)
drop_cond true a b text = refl
drop_cond false a b text = refl

-- ---- rows of data

pub some_if : (b : Bool) (n : ℕ) → then_some b n ≡ cond b (Some n) None
some_if true n = refl
some_if false n = refl

-- one more row
number_more : (passes : List (List ℕ) → Bool) (rows : List (List (List ℕ))) (numbers : List ℕ) (row : List (List ℕ)) (number : ℕ) → length rows ≡ length numbers
    → number_of passes (rows ++ row ∷ []) (numbers ++ number ∷ []) ≡ option_or (number_of passes rows numbers) (cond (passes row) (Some number) None)
unfolding number_of
number_more passes [] [] row number same = refl
number_more passes [] (n ∷ numbers) row number same = absurd (omega (arith, same))
number_more passes (r ∷ rows) [] row number same = absurd (omega (arith, same))
number_more passes (r ∷ rows) (n ∷ numbers) row number same =
    by (passes r) (number_more passes rows numbers row number (omega (arith, same)))
  where
    by : (t : Bool) → number_of passes (rows ++ row ∷ []) (numbers ++ number ∷ []) ≡ option_or (number_of passes rows numbers) (cond (passes row) (Some number) None)
        → cond t (Some n) (number_of passes (rows ++ row ∷ []) (numbers ++ number ∷ [])) ≡ option_or (cond t (Some n) (number_of passes rows numbers)) (cond (passes row) (Some number) None)
    by true more = refl
    by false more = more

-- the number of the first line that passes
abbrev pub line_number : (List (List ℕ) → Bool) → List CsvLine → Option ℕ
line_number passes lines = number_of passes (map (λ l. fields_of l.fields) lines) (map (λ l. l.number) lines)

pub no_line : (passes : List (List ℕ) → Bool) → None ≡ line_number passes []
unfolding number_of
no_line passes = refl

pub line_more : (passes : List (List ℕ) → Bool) (lines : List CsvLine) (line : CsvLine) (before after : Option ℕ) → before ≡ line_number passes lines
    → after ≡ option_or before (cond (passes (fields_of line.fields)) (Some line.number) None) → after ≡ line_number passes (lines ++ line ∷ [])
line_more passes lines line before after known is =
    is ∙ ap (λ (o : Option ℕ). option_or o (cond (passes (fields_of line.fields)) (Some line.number) None)) known
    ∙ sym (number_more passes (map (λ l. fields_of l.fields) lines) (map (λ l. l.number) lines) (fields_of line.fields) line.number
    (length-map lines (λ (l : CsvLine). fields_of l.fields) ∙ sym (length-map lines (λ (l : CsvLine). l.number))))
    ∙ sym (ap₂ (λ (rows : List (List (List ℕ))) (numbers : List ℕ). number_of passes rows numbers) (map-append (λ (l : CsvLine). fields_of l.fields) lines (line ∷ [])) (map-append (λ (l : CsvLine). l.number) lines (line ∷ [])))

pub number_mapped : (passes : List (List ℕ) → Bool) (f : List (List ℕ) → List (List ℕ)) (rows : List (List (List ℕ))) (numbers : List ℕ) → number_of passes (map f rows) numbers ≡ number_of (λ row. passes (f row)) rows numbers
unfolding number_of
number_mapped passes f [] numbers = refl
number_mapped passes f (row ∷ rows) [] = refl
number_mapped passes f (row ∷ rows) (n ∷ numbers) = ap (λ (o : Option ℕ). cond (passes (f row)) (Some n) o) (number_mapped passes f rows numbers)

-- ---- whether there is a fault

is_some_cond : {X : Type 0} (b : Bool) (x : X) (o : Option X) → is_some (cond b (Some x) o) ≡ (b || is_some o)
is_some_cond true x o = refl
is_some_cond false x o = refl

is_some_or : {X : Type 0} (a b : Option X) → is_some (option_or a b) ≡ (is_some a || is_some b)
is_some_or None b = refl
is_some_or (Some x) b = refl

is_some_map : {X Y : Type 0} (f : X → Y) (o : Option X) → is_some (option_map f o) ≡ is_some o
is_some_map f None = refl
is_some_map f (Some x) = refl

or_none : (b : Bool) → (b || false) ≡ b
or_none true = refl
or_none false = refl

some_wrong : (of_rows : Bool) (cfg : Config) (s : State) (field text : List ℕ) → is_some (wrong_from of_rows cfg s field text) ≡ is_misquoted_from of_rows cfg s text
unfolding wrong_from is_misquoted_from
some_wrong of_rows cfg s field [] = is_some_cond (is_inside_quotes s) field None ∙ or_none (is_inside_quotes s)
some_wrong of_rows cfg s field (b ∷ rest) =
    is_some_cond (breaks_quotes of_rows s (step cfg s b).0) field _
    ∙ ap (λ t. breaks_quotes of_rows s (step cfg s b).0 || t) (some_wrong of_rows cfg (step cfg s b).0 (cond (begins_field (step cfg s b).0) rest field) rest)

some_line : (of_rows : Bool) (cfg : Config) (text end : List ℕ) → is_some (wrong_line of_rows cfg text end) ≡ is_misquoted of_rows cfg end
some_line of_rows cfg text end = is_some_map (λ field. line_of text (from_row field)) (wrong_in of_rows cfg (strip_bom end)) ∙ some_wrong of_rows cfg st.StartRecord (strip_bom end) (strip_bom end)

some_number : (passes : List (List ℕ) → Bool) (rows : List (List (List ℕ))) (numbers : List ℕ) → length rows ≡ length numbers → is_some (number_of passes rows numbers) ≡ list_any passes rows
unfolding number_of
some_number passes [] numbers same = refl
some_number passes (row ∷ rows) [] same = absurd (omega (arith, same))
some_number passes (row ∷ rows) (n ∷ numbers) same = is_some_cond (passes row) n _ ∙ ap (λ t. passes row || t) (some_number passes rows numbers (omega (arith, same)))

lines_count : (cfg : Config) (text : List ℕ) (n : ℕ) (s : State) (end : List ℕ) → length (lines_from cfg text (length (records_from cfg n s end)) s end) ≡ length (records_from cfg n s end)
unfolding records_from lines_from
lines_count cfg text zero s end = refl
lines_count cfg text (suc n) s end = by (next_record cfg s [] [] end) refl (λ p. lines_count cfg text n p.1 p.2)
  where
    by : (o : Option Read) → next_record cfg s [] [] end ≡ o → ((p : Read) → length (lines_from cfg text (length (records_from cfg n p.1 p.2)) p.1 p.2) ≡ length (records_from cfg n p.1 p.2))
        → length (lines_from cfg text (length (records_next (records_from cfg n) o)) s end) ≡ length (records_next (records_from cfg n) o)
    by None is later = refl
    by (Some p) is later = ap (λ q. length (and_next (line_of text (from_row end)) (lines_from cfg text (length (records_from cfg n p.1 p.2))) q)) is ∙ ap suc (later p)

some_data : (cfg : Config) (heading : List (List ℕ)) (text : List ℕ) → is_some (data_line cfg heading text) ≡ has_data cfg heading text
some_data cfg heading text =
    let rows = records cfg (strip_bom text) in
    some_number (λ fields. is_data heading (map trimmed fields)) rows (row_lines cfg text (length rows) text) (sym (lines_count cfg text (length (strip_bom text) + 1) st.StartRecord (strip_bom text)))

-- there is a line exactly if there is a fault
pub some_fault : (cfg : Config) (maps : List (List ℕ)) (rest text : List ℕ) → is_some (fault_line cfg maps rest text) ≡ (has_wrong_quotes cfg rest text || has_data_above cfg maps rest text)
some_fault cfg maps rest text =
    is_some_or (quotes_line cfg rest text) (data_line_above cfg maps rest text)
    ∙ ap₂ (λ a b. a || b)
    (is_some_or (wrong_line false cfg (text_before rest text) (text_before rest text)) (wrong_line true cfg text rest)
    ∙ ap₂ (λ a b. a || b) (some_line false cfg (text_before rest text) (text_before rest text)) (some_line true cfg text rest))
    (some_data cfg (names_by maps (first_row cfg rest)) (text_before rest text))
