-- The lines of a text, from its heading on.
use Rattle.std.proofs.Common.{Bor, ◌≡◌, ◌∙◌, ◌∷◌, ◌++◌, ◌+◌, ◌-◌, ◌<◌, ◌≤◌, ◌⊎◌, [], ℕ, true, false, zero, suc, Bool, List, None, Option, Some, ap, ap₂, arith, cond, drop, filter, inl, inr, length, length-append, map, not, refl, slice_index_or, subst, sym, take}
use Rattle.std.specs.Prelude.{◌==◌, ◌&&◌, ◌||◌, nat_lt, option_map, position, unwrap_or}
use Rattle.std.specs.List.{AllByRecursion, find, position_or_len}
use Rattle.std.specs.Option.{option_map_or, option_or}
use Rattle.std.proofs.lemmas.Bool.{cases_lt, le-ltb, lt-ltb}
use Rattle.std.proofs.lemmas.List.{drop_all, length-map, map-append}
use Rattle.std.proofs.lemmas.List.Recursion.{is_position_or_len}
use Rattle.csv.specs.Reading.{AreRecords, ReadRecord, strip_bom}
use Rattle.csv.specs.Records.{fields_of}
use Rattle.csv.specs.declared.parser.Config.{Config}
use Rattle.csv.specs.declared.parser.State.{State}
use Rattle.csv.specs.declared.parser.State.TheVariants as st
use Rattle.csv.specs.declared.reader.Reader.{Reader}
use Rattle.csv.proofs.ReadFacts.{rows-end, rows-more}
use Rattle.a429_import.specs.declared.forms.Form.{Form}
use Rattle.a429_text.specs.declared.csv_line.CsvLine.{CsvLine}
use Rattle.a429_import.specs.declared.lines.LineCount.{LineCount}
use Rattle.a429_import.specs.ImportForms.{after_separator, ends_line, field_len, from_heading, heading_among, is_heading, later_lines, len_before, names_column, names_in_row, quotes_end, separator_in, separators}
use Rattle.a429_import.specs.ImportReading.{HasRead}
use Rattle.a429_import.specs.Imports.{AreLines, has_text, separated}
use Rattle.a429_import.specs.ImportSteps.{state_of}
use Rattle.a429_import.specs.ImportWords.{trimmed}
use Rattle.a429_import.specs.LineCounts.{HasCounted, is_between, row_end}
use Rattle.a429_import.specs.RowLines.{from_row, line_of, lines_from, row_lines}
use Rattle.a429_import.proofs.RowLines.{LastRow, last_row, lines_more, row_is}

one_more_separator : {separator : ℕ} (lines : List CsvLine) (line : CsvLine) → AllByRecursion (λ l. l.separator ≡ separator) lines → line.separator ≡ separator
    → AllByRecursion (λ l. l.separator ≡ separator) (lines ++ line ∷ [])
one_more_separator [] line all here = (here, tt)
one_more_separator (l ∷ lines) line all here = (all.0, one_more_separator lines line all.1 here)

one_more_number : (lines : List CsvLine) (line : CsvLine) → map (λ l. l.number) (lines ++ line ∷ []) ≡ map (λ l. l.number) lines ++ line.number ∷ []
one_more_number lines line = map-append (λ (l : CsvLine). l.number) lines (line ∷ [])

-- what is counted of one more line
pub record IsCounted (separator : ℕ) (file : List ℕ) (old new : LineCount) (line : CsvLine) : Type 0 where
  pub number : line.number ≡ line_of file (from_row (drop old.at file))
  pub counted : HasCounted file new
  pub row : row_end (separated separator) (state_of old.part) (drop old.at file) ≡ (state_of new.part, drop new.at file)
  pub between : is_between (state_of new.part) ≡ true

-- one more line is read
pub read_more : (separator : ℕ) (file text : List ℕ) (a b : Reader (Bor (List ℕ))) (old new : LineCount) (lines : List CsvLine) (line : CsvLine) (row : List (List ℕ)) → HasRead separator file text a old lines → ReadRecord (λ s. Some s.now) a b true row
    → b.first ≡ true → line.separator ≡ separator → fields_of line.fields ≡ map trimmed row → IsCounted separator file old new line → HasRead separator file text b new (lines ++ line ∷ [])
read_more separator file text a b old new lines line row has next first own same count =
    let cfg : Config = separated separator in
    let m = rows-more (λ (s : Bor (List ℕ)). Some s.now) a b row cfg st.StartRecord (strip_bom text) has.rest has.rows has.config has.source has.reached next in
    let last : LastRow cfg a.state has.rest b.state m.0 = last_row cfg has.rows row st.StartRecord a.state b.state (strip_bom text) has.rest m.0 has.reached m.2 in
    let passed : row_end cfg a.state has.rest ≡ (last.read.1, last.read.2) = row_is cfg has.rest a.state [] [] last.read last.found in
    let after : (state_of new.part, drop new.at file) ≡ (b.state, m.0) =
    sym count.row ∙ ap₂ (λ (s : State) (xs : List ℕ). row_end cfg s xs) has.state has.at ∙ passed ∙ ap₂ (λ (s : State) (xs : List ℕ). (s, xs)) last.state last.rest in
    let state : state_of new.part ≡ b.state = ap (λ (p : State × List ℕ). p.0) after in
    let many : length has.rows ≡ length lines = sym (length-map has.rows (map trimmed)) ∙ sym (ap length has.fields) ∙ length-map lines (λ (l : CsvLine). fields_of l.fields) in
    let more : length (lines ++ line ∷ []) ≡ suc (length lines) = let l = length-append lines (line ∷ []) in omega (arith, l) in
    let numbered = lines_more cfg file has.rows st.StartRecord a.state (strip_bom text) has.rest last.read has.reached last.found in
    record {
      plain = next.3 ∙ has.plain;
      ready = inl first;
      config = next.2 ∙ has.config;
      rest = m.0;
      source = m.1;
      rows = has.rows ++ row ∷ [];
      reached = m.2;
      fields =
          map-append (λ (l : CsvLine). fields_of l.fields) lines (line ∷ [])
          ∙ ap₂ (λ (xs ys : List (List (List ℕ))). xs ++ ys) has.fields (ap (λ (x : List (List ℕ)). x ∷ []) same)
          ∙ sym (map-append (map trimmed) has.rows (row ∷ []));
      separators = one_more_separator lines line has.separators own;
      counted = count.counted;
      state = state;
      between = sym (ap is_between state) ∙ count.between;
      at = ap (λ (p : State × List ℕ). p.1) after;
      numbers =
          one_more_number lines line
          ∙ ap₂ (λ (ns : List ℕ) (n : ℕ). ns ++ n ∷ []) has.numbers (count.number ∙ ap (λ (xs : List ℕ). line_of file (from_row xs)) has.at)
          ∙ sym (ap (λ (n : ℕ). lines_from cfg file n st.StartRecord (strip_bom text) ++ line_of file (from_row has.rest) ∷ []) many)
          ∙ sym numbered
          ∙ ap (λ (n : ℕ). lines_from cfg file (suc n) st.StartRecord (strip_bom text)) many
          ∙ sym (ap (λ (n : ℕ). lines_from cfg file n st.StartRecord (strip_bom text)) more);
    }

-- all lines are read
pub read_all : (maps : List (List ℕ)) (text : List ℕ) (form : Form) (a b : Reader (Bor (List ℕ))) (count : LineCount) (all lines : List CsvLine) → form.separator ≡ separator_in maps text → form.text.now ≡ from_heading maps text
    → HasRead form.separator text form.text.now a count all → ReadRecord (λ s. Some s.now) a b false [] → lines ≡ filter (λ l. has_text (fields_of l.fields)) all → AreLines maps text lines
read_all maps text form a b count all lines separator from has end filled =
    let are : AreRecords (separated form.separator) st.StartRecord (strip_bom form.text.now) has.rows =
    (a.state, has.rest, has.reached, rows-end (λ (s : Bor (List ℕ)). Some s.now) a b [] (separated form.separator) has.rest has.config has.source end) in
    let one = subst (λ (s : ℕ). AreRecords (separated s) st.StartRecord (strip_bom form.text.now) has.rows) separator are in
    record {
      all = all;
      rows = has.rows;
      records = subst (λ (xs : List ℕ). AreRecords (separated (separator_in maps text)) st.StartRecord (strip_bom xs) has.rows) from one;
      fields = has.fields;
      separators = subst (λ (s : ℕ). AllByRecursion (λ l. l.separator ≡ s) all) separator has.separators;
      numbers = has.numbers ∙ ap₂ (λ (s : ℕ) (xs : List ℕ). row_lines (separated s) text (length all) xs) separator from;
      filled = filled;
    }

-- ---- the heading among lines

pub among_here : (maps : List (List ℕ)) (lines : ℕ) (text : List ℕ) (separator : ℕ) → 0 < lines → find (is_heading maps text) separators ≡ Some separator → heading_among maps lines text ≡ Some (separator, text)
unfolding heading_among
among_here maps zero text separator some found = absurd (omega (arith, some))
among_here maps (suc lines) text separator some found = ap (λ (o : Option ℕ). option_or (option_map (λ s. (s, text)) o) (heading_among maps lines (later_lines text))) found

pub among_later : (maps : List (List ℕ)) (lines : ℕ) (text : List ℕ) → 0 < lines → find (is_heading maps text) separators ≡ None → heading_among maps lines text ≡ heading_among maps (lines - 1) (later_lines text)
unfolding heading_among
among_later maps zero text some none = absurd (omega (arith, some))
among_later maps (suc lines) text some none =
    let one : lines ≡ suc lines - 1 = omega arith in
    ap (λ (o : Option ℕ). option_or (option_map (λ s. (s, text)) o) (heading_among maps lines (later_lines text))) none ∙ ap (λ (n : ℕ). heading_among maps n (later_lines text)) one

pub among_none : (maps : List (List ℕ)) (lines : ℕ) (text : List ℕ) → lines ≡ 0 → heading_among maps lines text ≡ None
unfolding heading_among
among_none maps lines text none = ap (λ (n : ℕ). heading_among maps n text) none

-- ---- the fields of the first row

-- the last field
pub names_last : (maps : List (List ℕ)) (separator left : ℕ) (text : List ℕ) → 0 < left → after_separator separator (drop (field_len separator text) text) ≡ None
    → names_in_row maps separator left text ≡ cond (names_column maps (take (field_len separator text) text)) 1 0 + 0
unfolding names_in_row
names_last maps separator zero text some last = absurd (omega (arith, some))
names_last maps separator (suc n) text some last =
    ap (λ (o : Option (List ℕ)). cond (names_column maps (take (field_len separator text) text)) 1 0 + option_map_or (names_in_row maps separator n) o 0) last

-- a field before others
pub names_more : (maps : List (List ℕ)) (separator left : ℕ) (text after : List ℕ) → 0 < left → after_separator separator (drop (field_len separator text) text) ≡ Some after
    → names_in_row maps separator left text ≡ cond (names_column maps (take (field_len separator text) text)) 1 0 + names_in_row maps separator (left - 1) after
unfolding names_in_row
names_more maps separator zero text after some more = absurd (omega (arith, some))
names_more maps separator (suc n) text after some more =
    let one : n ≡ suc n - 1 = omega arith in
    ap (λ (o : Option (List ℕ)). cond (names_column maps (take (field_len separator text) text)) 1 0 + option_map_or (names_in_row maps separator n) o 0) more
    ∙ ap (λ (m : ℕ). cond (names_column maps (take (field_len separator text) text)) 1 0 + names_in_row maps separator m after) one

pub names_none : (maps : List (List ℕ)) (separator left : ℕ) (text : List ℕ) → left ≡ 0 → names_in_row maps separator left text ≡ 0
unfolding names_in_row
names_none maps separator left text none = ap (λ (n : ℕ). names_in_row maps separator n text) none

pub one_or_none : (b : Bool) → cond b 1 0 ≤ 1
one_or_none true = omega arith
one_or_none false = omega arith

-- ---- bytes

-- the end of a text in quotes, after one more byte
pub end_passed : (is_quote : Bool) (text : List ℕ) (place n : ℕ) → place < length text
    → quotes_end is_quote n (drop place text)
    ≡ cond (is_quote && not (slice_index_or text place 0 == 34)) (Some n) (quotes_end (not is_quote && (slice_index_or text place 0 == 34)) (n + 1) (drop (place + 1) text))
unfolding quotes_end
end_passed is_quote [] place n below = absurd (omega (arith, below))
end_passed is_quote (c ∷ text) zero n below = refl
end_passed is_quote (c ∷ text) (suc place) n below =
    let one : suc (place + 1) ≡ suc place + 1 = omega arith in
    let b : ℕ = slice_index_or text place 0 in
    end_passed is_quote text place n (omega (arith, below))
    ∙ ap (λ (i : ℕ). cond (is_quote && not (b == 34)) (Some n) (quotes_end (not is_quote && (b == 34)) (n + 1) (drop i (c ∷ text)))) one

pub end_at : (is_quote : Bool) (text : List ℕ) (place n : ℕ) → length text ≤ place → quotes_end is_quote n (drop place text) ≡ cond is_quote (Some n) None
unfolding quotes_end
end_at is_quote text place n past = ap (quotes_end is_quote n) (drop_all place text past)

one_more : (n : ℕ) → suc n ≡ 1 + n
one_more n = omega arith

-- the bytes before a separator or a line end are those before its place
len_place : (separator : ℕ) (text : List ℕ) → len_before separator text ≡ position_or_len (λ b. (b == separator) || ends_line b) text
unfolding len_before
len_place separator text = is_position_or_len (len_before separator) (λ b. (b == separator) || ends_line b) refl (λ x xs. ap (λ (n : ℕ). cond ((x == separator) || ends_line x) 0 n) (one_more (len_before separator xs))) text

few : (b : Bool) (n m : ℕ) → n ≤ m → cond b 0 (suc n) ≤ suc m
few true n m small = omega arith
few false n m small = omega (arith, small)

pub len_few : (separator : ℕ) (text : List ℕ) → len_before separator text ≤ length text
unfolding len_before
len_few separator [] = omega arith
len_few separator (b ∷ text) = few ((b == separator) || ends_line b) (len_before separator text) (length text) (len_few separator text)

place_by : (n m : ℕ) → n ≤ m → (n < m) ⊎ (m ≤ n) → unwrap_or (cond (nat_lt n m) (Some n) None) m ≡ n
place_by n m small (inl less) = rw (lt-ltb n m less) refl
place_by n m small (inr past) = rw (le-ltb n m past) (omega (arith, small, past))

pub len_is : (separator : ℕ) (text : List ℕ) → unwrap_or (position (λ b. (b == separator) || ends_line b) text) (length text) ≡ len_before separator text
len_is separator text =
    let place = len_place separator text in
    place_by _ (length text) (subst (λ (n : ℕ). n ≤ length text) place (len_few separator text)) (cases_lt _ (length text)) ∙ sym place
