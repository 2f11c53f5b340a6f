-- The text of an interface control document is read as its rows.
use Rattle.std.proofs.Common.{◌≡◌, ◌∙◌, ◌+◌, ℕ, zero, suc, Bool, true, false, List, [], ◌∷◌, ◌++◌, Option, None, Some, arith, drop, filter, get_or, length, map, ap, ap₂, sym, subst, refl}
use Rattle.std.specs.Prelude.{◌||◌, codes, not, unwrap_or}
use Rattle.std.specs.List.{AllByRecursion, find, flat_map, list_any}
use Rattle.std.specs.Option.{option_map_or}
use Rattle.std.proofs.lemmas.Option.{none-some, same_Some}
use Rattle.csv.specs.Machine.{Read, next_record}
use Rattle.csv.specs.Reading.{AreRecords, Reached, default_config, records_from, records_next, strip_bom}
use Rattle.csv.specs.Records.{fields_of}
use Rattle.csv.specs.Writing.{default_writer, escaped, fields_text, is_blank, read_back, row_text}
use Rattle.csv.specs.declared.parser.State.{State}
use Rattle.csv.specs.declared.parser.State.TheVariants as st
use Rattle.csv.proofs.RoundTrip.{read-write}
use Rattle.a429_text.specs.declared.csv_line.CsvLine.{CsvLine}
use Rattle.a429_text.specs.CutText.{without_byte_order_mark}
use Rattle.a429_text.specs.Sheets.{csv_text_of}
use Rattle.a429_documents.specs.Document.{icd_columns}
use Rattle.a429_import.specs.ImportForms.{ends_line, from_heading, from_line, heading_among, heading_of, is_heading, len_before, names_in_row, separator_in, separators}
use Rattle.a429_import.specs.ImportRows.{is_named}
use Rattle.a429_import.specs.ImportWords.{stepped, trimmed}
use Rattle.a429_import.specs.Imports.{AreLines, has_row_above, has_text, is_misquoted_text, separated}
use Rattle.a429_import.specs.ImportQuotes.{has_wrong_quotes, is_misquoted, is_misquoted_from}
use Rattle.a429_import.proofs.FirstPlaces.{position_first}
use Rattle.a429_import.proofs.HeadingFirst.{no_row_above, nothing_before}
use Rattle.a429_import.proofs.ImportForms.{among_here}
use Rattle.a429_import.proofs.WrittenQuotes.{written_right}

-- the lines of these rows
abbrev text_of : List (List (List ℕ)) → List ℕ
text_of rows = flat_map (row_text default_writer) rows

-- the first record of a text of rows
first_record : (row : List (List ℕ)) (rows : List (List (List ℕ))) → next_record default_config st.StartRecord [] [] (text_of (row ∷ rows)) ≡ Some (read_back row, st.StartRecord, text_of rows)
first_record row rows = read-write row (text_of rows)

no_record : next_record default_config st.StartRecord [] [] [] ≡ None
unfolding next_record
no_record = refl

-- what is written is read back, and nothing else
pub records_back : (rows records : List (List (List ℕ))) → AreRecords default_config st.StartRecord (text_of rows) records → records ≡ map read_back rows
unfolding Reached
records_back [] [] h = refl
records_back [] (r ∷ records) h = absurd (none-some h.2.0 (sym no_record ∙ h.2.1))
records_back (row ∷ rows) [] h =
    let same : next_record default_config st.StartRecord [] [] (text_of (row ∷ rows)) ≡ next_record default_config h.0 [] [] h.1 =
    ap₂ (λ (s : State) (xs : List ℕ). next_record default_config s [] [] xs) h.2.0 h.2.1 in
    absurd (none-some (read_back row, st.StartRecord, text_of rows) (sym h.3 ∙ sym same ∙ first_record row rows))
records_back (row ∷ rows) (r ∷ records) h =
    let next : Read = (read_back row, st.StartRecord, text_of rows) in
    let same : h.2.0 ≡ next = same_Some h.2.0 next (sym h.2.1 ∙ first_record row rows) in
    let later : Reached default_config st.StartRecord (text_of rows) records h.0 h.1 = subst (λ (q : Read). Reached default_config q.1 q.2 records h.0 h.1) same h.2.3 in
    ap₂ (λ (x : List (List ℕ)) (xs : List (List (List ℕ))). x ∷ xs) (h.2.2 ∙ ap (λ (q : Read). q.0) same) (records_back rows records (h.0, h.1, later, h.3))

-- ---- the names of the columns come first

abbrev names : List ℕ
names = codes "group,rate,source,receiver,label,sdi,bus,offset,period_slots,period_us,min_us,max_us,hold,spacing_slots,latency_us"

heading_text : row_text default_writer icd_columns ≡ names ++ 10 ∷ []
unfolding is_blank escaped fields_text
heading_text = refl

abbrev after_names : List ℕ → List ℕ
after_names rest = (names ++ 10 ∷ []) ++ rest

starts : (rest : List ℕ) → from_line (without_byte_order_mark (after_names rest)) ≡ after_names rest
starts rest = ap (λ (o : Option ℕ). drop (unwrap_or o (length (after_names rest))) (after_names rest)) (position_first (λ b. not (ends_line b)) (after_names rest) 0 103 tt refl refl)

commas : (rest : List ℕ) → find (is_heading [] (after_names rest)) separators ≡ Some 44
unfolding names_in_row len_before is_named trimmed stepped
commas rest = refl

heading_there : (rest : List ℕ) → heading_of [] (after_names rest) ≡ Some (44, after_names rest)
heading_there rest = ap (heading_among [] 11) (starts rest) ∙ among_here [] 11 (after_names rest) 44 (omega arith) (commas rest)

by_commas : (rest : List ℕ) → separator_in [] (after_names rest) ≡ 44
by_commas rest = ap (λ (o : Option (ℕ × List ℕ)). option_map_or (λ h. h.0) o 44) (heading_there rest)

all_of_it : (rest : List ℕ) → from_heading [] (after_names rest) ≡ after_names rest
all_of_it rest = ap (λ (o : Option (ℕ × List ℕ)). option_map_or (λ h. h.1) o (after_names rest)) (heading_there rest)

no_mark : (rest : List ℕ) → strip_bom (after_names rest) ≡ after_names rest
unfolding strip_bom
no_mark rest = refl

-- ---- no row is empty

-- a row as it is read
abbrev pub read_row_of : List (List ℕ) → List (List ℕ)
read_row_of row = map trimmed (read_back row)

-- each row has a field that is not empty
abbrev pub HaveTexts : List (List (List ℕ)) → Type 0
HaveTexts rows = AllByRecursion (λ row. has_text (read_row_of row) ≡ true) rows

all_kept : (rows : List (List (List ℕ))) (lines : List CsvLine) → HaveTexts rows → map (λ l. fields_of l.fields) lines ≡ map read_row_of rows → filter (λ l. has_text (fields_of l.fields)) lines ≡ lines
all_kept rows [] texts same = refl
all_kept [] (line ∷ lines) texts same = absurd (omega (arith, ap length same))
all_kept (row ∷ rows) (line ∷ lines) texts same =
    let here : fields_of line.fields ≡ read_row_of row = ap (λ (zs : List (List (List ℕ))). get_or zs 0 []) same in
    let later : map (λ (l : CsvLine). fields_of l.fields) lines ≡ map read_row_of rows = ap (drop 1) same in
    rw (ap has_text here ∙ texts.0) (ap (λ (ls : List CsvLine). line ∷ ls) (all_kept rows lines texts.1 later))

-- the lines of a document are its rows
pub record AreRowsOf (rows : List (List (List ℕ))) (lines : List CsvLine) : Type 0 where
  pub fields : map (λ l. fields_of l.fields) lines ≡ map read_row_of rows
  pub separators : AllByRecursion (λ l. l.separator ≡ 44) lines

abbrev text : List (List (List ℕ)) → List ℕ
text rows = row_text default_writer icd_columns ++ text_of rows

text_is : (rows : List (List (List ℕ))) → text rows ≡ after_names (text_of rows)
text_is rows = ap (λ (t : List ℕ). t ++ text_of rows) heading_text

commas_separate : (rows : List (List (List ℕ))) → separator_in [] (text rows) ≡ 44
commas_separate rows = ap (separator_in []) (text_is rows) ∙ by_commas (text_of rows)

from_itself : (rows : List (List (List ℕ))) → from_heading [] (text rows) ≡ text rows
from_itself rows = let is = text_is rows in ap (from_heading []) is ∙ all_of_it (text_of rows) ∙ sym is

unmarked : (rows : List (List (List ℕ))) → strip_bom (text rows) ≡ text rows
unmarked rows = let is = text_is rows in ap strip_bom is ∙ no_mark (text_of rows) ∙ sym is

from_the_first : (rows : List (List (List ℕ))) → strip_bom (from_heading [] (text rows)) ≡ text rows
from_the_first rows = ap strip_bom (from_itself rows) ∙ unmarked rows

each_trimmed : (rows : List (List (List ℕ))) → map (map trimmed) (map read_back rows) ≡ map read_row_of rows
each_trimmed [] = refl
each_trimmed (row ∷ rows) = ap (λ (xs : List (List (List ℕ))). read_row_of row ∷ xs) (each_trimmed rows)

pub lines_back : (rows : List (List (List ℕ))) (lines : List CsvLine) → HaveTexts (icd_columns ∷ rows) → AreLines [] (csv_text_of (icd_columns ∷ rows)) lines → AreRowsOf (icd_columns ∷ rows) lines
unfolding csv_text_of
lines_back rows lines texts h =
    let separator = commas_separate rows in
    let from = from_the_first rows in
    let one = subst (λ (s : ℕ). AreRecords (separated s) st.StartRecord (strip_bom (from_heading [] (text rows))) h.rows) separator h.records in
    let two = subst (λ (xs : List ℕ). AreRecords default_config st.StartRecord xs h.rows) from one in
    let read : h.rows ≡ map read_back (icd_columns ∷ rows) = records_back (icd_columns ∷ rows) h.rows two in
    let same : map (λ (l : CsvLine). fields_of l.fields) h.all ≡ map read_row_of (icd_columns ∷ rows) = h.fields ∙ ap (map (map trimmed)) read ∙ each_trimmed (icd_columns ∷ rows) in
    let lines_are : lines ≡ h.all = h.filled ∙ all_kept (icd_columns ∷ rows) h.all texts same in
    record {
      fields = ap (map (λ (l : CsvLine). fields_of l.fields)) lines_are ∙ same;
      separators = subst (λ (ls : List CsvLine). AllByRecursion (λ l. l.separator ≡ 44) ls) (sym lines_are) (subst (λ (s : ℕ). AllByRecursion (λ l. l.separator ≡ s) h.all) separator h.separators);
    }

-- ---- no row is above the heading

pub heading_is_first : (rows : List (List (List ℕ))) → has_row_above [] (csv_text_of (icd_columns ∷ rows)) ≡ false
unfolding csv_text_of
heading_is_first rows = no_row_above [] (text rows) (from_itself rows)

-- ---- the quotes are right

none_open : is_misquoted false default_config [] ≡ false
unfolding is_misquoted_from strip_bom
none_open = refl

pub quotes_are_right : (rows : List (List (List ℕ))) → is_misquoted_text [] (csv_text_of (icd_columns ∷ rows)) ≡ false
unfolding csv_text_of
quotes_are_right rows =
    let above = ap (is_misquoted false default_config) (nothing_before (text rows)) ∙ none_open in
    let below = ap (is_misquoted_from true default_config st.StartRecord) (unmarked rows) ∙ written_right (icd_columns ∷ rows) in
    ap₂ (λ (s : ℕ) (xs : List ℕ). has_wrong_quotes (separated s) xs (text rows)) (commas_separate rows) (from_itself rows) ∙ ap₂ (λ (a b : Bool). a || b) above below
