-- What a survey keeps of the words that were noted (vocabulary of contracts).
use Rattle.std.specs.Prelude.{◌≡◌, ◌&&◌, ◌||◌, ℕ, ℤ, suc, ◌+◌, ◌-◌, ◌*◌, ◌/◌, ◌^◌, ◌==◌, List, [], ◌∷◌, ◌++◌, Bool, None, Option, Some, true, false, bytes_eq, codes, count_by, filter, flat_map, fold, if◌then◌else◌, int_le, length, map, max, min, nat_lt, not, set, slice_index_or}
use Rattle.std.specs.Int.{div_ceil, int_max, int_min}
use Rattle.std.specs.List.{list_any, range_with_len}
use Rattle.std.specs.Ordering.{is_eq, is_lt, nat_cmp}
use Rattle.std.specs.Cmp.Lexicographic.{slice_cmp}
use Rattle.a429_text.specs.declared.cells.Cell.{Cell}
use Rattle.a429_text.specs.Fields.{Field, Text, Number, Signed, Absent}
use Rattle.a429_text.specs.Sheets.{field_of}
use Rattle.a429_text.specs.Texts.{octal}
use Rattle.a429_word.specs.Bits.{has_odd_parity, label_of, sdi_of, ssm_of}
use Rattle.a429_word.specs.Hexadecimal.{hex}
use Rattle.a429_survey.specs.declared.figures.Figures.{Figures}
use Rattle.a429_survey.specs.declared.figures.SsmCounts.{SsmCounts}
use Rattle.a429_survey.specs.declared.extents.Extent.{Extent}
use Rattle.a429_survey.specs.declared.extents.Extents.{Extents}
use Rattle.a429_survey.specs.declared.lines.RowFigures.{RowFigures}
use Rattle.a429_survey.specs.Data.{bcd_data, bnr_data, said_by}
use Rattle.a429_survey.specs.Figures.{Noted, first_of, intervals, has_ssm, is_even, last_of, tenths_field, times_of}
use Rattle.a429_survey.specs.Starts.{interval_field, source_name}
use Rattle.a429_survey.specs.Expected.{Expectation, expectation_for, is_on, missing_if, takes_sdi}
use Rattle.a429_survey.specs.Survey.{names_of, sdi_text, words_of}
use Rattle.a429_survey.specs.declared.rows.RowKind.{RowKind}
use Rattle.a429_survey.specs.declared.rows.RowKind.TheVariants as kind

-- ---- figures

-- the least of some numbers, or 0 if there is none
abbrev pub least_of : List ℕ → ℕ
least_of [] = 0
least_of (n ∷ ns) = fold min n ns

-- how many of some words have each SSM
abbrev pub ssm_counts : List Noted → SsmCounts
ssm_counts words = record {
  zero = count_by (has_ssm 0) words;
  one = count_by (has_ssm 1) words;
  two = count_by (has_ssm 2) words;
  three = count_by (has_ssm 3) words;
}

-- the figures of some words
unfoldable pub figures_of : List Noted → Figures
figures_of words = record {
  words = length words;
  even = count_by is_even words;
  least = least_of (intervals (times_of words));
  greatest = fold max 0 (intervals (times_of words));
  first = first_of (times_of words);
  last = last_of (times_of words);
  last_word = last_of (map (λ w. w.raw) words);
  ssm = ssm_counts words;
}

-- those of no word
abbrev pub no_ssm : SsmCounts
no_ssm = record { zero = 0; one = 0; two = 0; three = 0 }

abbrev pub no_figures : Figures
no_figures = record { words = 0; even = 0; least = 0; greatest = 0; first = 0; last = 0; last_word = 0; ssm = no_ssm }

-- one more, up to 2^64 - 1
abbrev pub one_more : ℕ → ℕ
one_more count = min (count + 1) (2 ^ 64 - 1)

-- a count, after a word that may be counted
abbrev pub counted : Bool → ℕ → ℕ
counted is_counted count = if is_counted then one_more count else count

-- how many words have each SSM, after one more word
abbrev pub ssm_with : ℕ → SsmCounts → SsmCounts
ssm_with raw c = record {
  zero = counted (ssm_of raw == 0) c.zero;
  one = counted (ssm_of raw == 1) c.one;
  two = counted (ssm_of raw == 2) c.two;
  three = counted (ssm_of raw == 3) c.three;
}

-- the figures of the first word
abbrev pub first_figures : ℕ → ℕ → Figures
first_figures time raw = record {
  words = 1;
  even = (if has_odd_parity raw then 0 else 1);
  least = 0;
  greatest = 0;
  first = time;
  last = time;
  last_word = raw;
  ssm = ssm_with raw no_ssm;
}

-- the figures after one word more than some, the interval to it among them
abbrev pub next_figures : ℕ → ℕ → ℕ → Figures → Figures
next_figures interval time raw f = record {
  words = one_more f.words;
  even = (if has_odd_parity raw then f.even else one_more f.even);
  least = (if f.words == 1 then interval else min f.least interval);
  greatest = max f.greatest interval;
  first = f.first;
  last = time;
  last_word = raw;
  ssm = ssm_with raw f.ssm;
}

-- the figures after one more word
abbrev pub figures_with : ℕ → ℕ → Figures → Figures
figures_with time raw f = if f.words == 0 then first_figures time raw else next_figures (time - f.last) time raw f

-- ---- data

-- the least and the greatest of some numbers, if there is one
abbrev pub extent_of : List ℤ → Option Extent
extent_of [] = None
extent_of (n ∷ ns) = Some record { least = fold int_min n ns; greatest = fold int_max n ns }

-- of some numbers and one more
abbrev pub extent_with : ℤ → Option Extent → Extent
extent_with n None = record { least = n; greatest = n }
extent_with n (Some e) = record { least = int_min e.least n; greatest = int_max e.greatest n }

-- a number is within an extent
abbrev pub is_within : ℤ → Option Extent → Bool
is_within n None = false
is_within n (Some e) = int_le e.least n && int_le n e.greatest

-- after a word that says a number or nothing
abbrev pub widened : Option ℤ → Option Extent → Option Extent
widened None e = e
widened (Some n) e = Some (extent_with n e)

-- of what some words say
abbrev pub extents_of : List Noted → Extents
extents_of words = record { bnr = extent_of (said_by bnr_data words); bcd = extent_of (said_by bcd_data words) }

abbrev pub no_extents : Extents
no_extents = record { bnr = None; bcd = None }

-- after one more word
abbrev pub extents_with : ℕ → Extents → Extents
extents_with raw e = record { bnr = widened (bnr_data raw) e.bnr; bcd = widened (bcd_data raw) e.bcd }

-- ---- the figures of a row

-- of some words, with their data
unfoldable pub row_figures : List Noted → RowFigures
row_figures words = record { common = figures_of words; said = extents_of words }

abbrev pub no_row_figures : RowFigures
no_row_figures = record { common = no_figures; said = no_extents }

-- after one more word
unfoldable pub row_figures_with : ℕ → ℕ → RowFigures → RowFigures
row_figures_with time raw p = record { common = figures_with time raw p.common; said = extents_with raw p.said }

-- of all words of a name, whose data is not kept
abbrev pub whole_of : Figures → RowFigures
whole_of f = record { common = f; said = no_extents }

-- ---- lines

-- the place of a word's label and SDI among the 1024
abbrev pub place_of : ℕ → ℕ
place_of raw = 4 * label_of raw + sdi_of raw

-- the words with the label and the SDI of a place
abbrev pub words_at : ℕ → List Noted → List Noted
words_at place words = filter (λ w. place_of w.raw == place) words

-- what is kept of a name: the figures of all its words, and those of each label and SDI, with their data
pub record LineKept : Type 0 where
  pub name : List ℕ
  pub all : Figures
  pub each : List RowFigures

-- that of a name's words
unfoldable pub line_of : List ℕ → List Noted → LineKept
line_of name words = record {
  name = name;
  all = figures_of words;
  each = map (λ place. row_figures (words_at place words)) (range_with_len 0 1024);
}

-- a line after one more word
unfoldable pub line_with : ℕ → ℕ → LineKept → LineKept
line_with time raw l = record {
  name = l.name;
  all = figures_with time raw l.all;
  each = set l.each (place_of raw) (row_figures_with time raw (slice_index_or l.each (place_of raw) no_row_figures));
}

-- a line for each name, in their order
abbrev pub lines_of : List (List ℕ) → List Noted → List LineKept
lines_of names words = map (λ name. line_of name (words_of name words)) names

-- the names of some lines
abbrev pub names_in : List LineKept → List (List ℕ)
names_in lines = map (λ l. l.name) lines

-- a name is before another
abbrev pub is_before : List ℕ → List ℕ → Bool
is_before name other = is_lt (slice_cmp nat_cmp name other)

-- how many names from the front on are before a name
abbrev pub place_for : List ℕ → List (List ℕ) → ℕ
place_for name [] = 0
place_for name (first ∷ names) = if is_before first name then suc (place_for name names) else 0

-- lines in the order of their names, with one for this name among them
abbrev pub with_line : List ℕ → List LineKept → List LineKept
with_line name [] = line_of name [] ∷ []
with_line name (first ∷ lines) =
    if is_lt (slice_cmp nat_cmp first.name name) then first ∷ with_line name lines
    else (if is_eq (slice_cmp nat_cmp first.name name) then first ∷ lines else line_of name [] ∷ first ∷ lines)

-- a name is before each of some others
abbrev pub IsBeforeAll : List ℕ → List (List ℕ) → Type 0
IsBeforeAll name [] = Unit {0}
IsBeforeAll name (other ∷ others) = (is_before name other ≡ true) × IsBeforeAll name others

-- each name is before those that follow it
abbrev pub Ascend : List (List ℕ) → Type 0
Ascend [] = Unit {0}
Ascend (name ∷ names) = IsBeforeAll name names × Ascend names

-- the lines are those of the words that were noted
pub record IsKept (words : List Noted) (lines : List LineKept) (count : ℕ) : Type 0 where
  pub kept : lines ≡ lines_of (names_of words) words
  pub counted : count ≡ length words
  pub order : Ascend (names_of words)
  pub absent : (name : List ℕ) → list_any (λ n. bytes_eq n name) (names_of words) ≡ false → words_of name words ≡ []

-- ---- rows by figures

abbrev pub span_in : Figures → ℕ
span_in f = f.last - f.first

abbrev pub interval_in : Figures → ℕ → Field
interval_in f interval = if nat_lt 1 f.words then Number interval else Absent

abbrev pub mean_in : Figures → Field
mean_in f = if nat_lt 1 f.words then tenths_field (10 * span_in f / (f.words - 1)) else Absent

abbrev pub load_in : ℕ → Figures → Field
load_in rate f =
    if nat_lt 0 (rate * span_in f) then tenths_field (div_ceil (36 * 1000000 * 1000 * (f.words - 1)) (rate * span_in f)) else Absent

unfoldable pub row_in : List ℕ → Field → Field → Field → Figures → List Field
row_in name label sdi load f =
    Text name ∷ label ∷ sdi ∷ Number f.words ∷ Number f.even ∷ interval_in f f.least ∷ mean_in f ∷ interval_in f f.greatest ∷ Number f.first ∷ Number f.last
    ∷ Text (hex f.last_word) ∷ load ∷ []

-- the row with these cells for label, SDI and load
abbrev pub row_with : List ℕ → Cell → Cell → Cell → Figures → List Field
row_with name label sdi load f = row_in name (field_of label) (field_of sdi) (field_of load) f

-- the row of a label and an SDI for `import`
abbrev pub shorter_in : ℕ → Figures → Field
shorter_in slack f = if nat_lt 1 f.words then interval_field (f.least * (100 - slack) / 100) else Absent

abbrev pub longer_in : ℕ → Figures → Field
longer_in slack f = if nat_lt 1 f.words then interval_field (div_ceil (f.greatest * (100 + slack)) 100) else Absent

unfoldable pub start_in : ℕ → ℕ → List ℕ → ℕ → ℕ → Figures → List Field
start_in slack rate name label sdi f =
    Absent ∷ Number rate ∷ Text (source_name name label sdi) ∷ Text name ∷ Text (octal label) ∷ Number sdi ∷ shorter_in slack f ∷ longer_in slack f ∷ []

-- what a table says of some words, by their figures
abbrev pub is_above : ℕ → Option ℕ → Bool
is_above interval None = false
is_above interval (Some greatest) = nat_lt greatest interval

abbrev pub verdict_in : Option Expectation → Figures → List ℕ
verdict_in None f = codes "unexpected"
verdict_in (Some e) f =
    if nat_lt 1 f.words
    then (if nat_lt f.least e.least then codes "fast" else (if is_above f.greatest e.greatest then codes "slow" else codes "expected"))
    else codes "expected"

-- the least and the greatest, of an extent
abbrev pub least_in : Option Extent → Field
least_in None = Absent
least_in (Some e) = Signed e.least

abbrev pub greatest_in : Option Extent → Field
greatest_in None = Absent
greatest_in (Some e) = Signed e.greatest

abbrev pub extent_fields : Extents → List Field
extent_fields e = least_in e.bnr ∷ greatest_in e.bnr ∷ least_in e.bcd ∷ greatest_in e.bcd ∷ []

-- a row with how many of its words have each SSM, with their data, and with what a table says of them
abbrev pub wider_row : List Field → RowFigures → Field → List Field
wider_row row p field =
    row
    ++ Number p.common.ssm.zero ∷ Number p.common.ssm.one ∷ Number p.common.ssm.two ∷ Number p.common.ssm.three ∷ (extent_fields p.said ++ field ∷ [])

-- the row of a label and an SDI of a name, and what follows the rows of a name, by what is asked for
abbrev pub pair_by : RowKind → ℕ → List ℕ → ℕ → ℕ → RowFigures → List Field
pair_by kind.Figures rate name label sdi p = row_in name (Text (octal label)) (Text (sdi_text sdi)) Absent p.common
pair_by (kind.Starts slack) rate name label sdi p = start_in slack rate name label sdi p.common
pair_by (kind.Compared expected) rate name label sdi p =
    wider_row (row_in name (Text (octal label)) (Text (sdi_text sdi)) Absent p.common) p (Text (verdict_in (expectation_for expected.now name label sdi) p.common))

abbrev pub end_by : RowKind → ℕ → LineKept → List (List Field)
end_by kind.Figures rate l = row_in l.name Absent Absent (load_in rate l.all) l.all ∷ []
end_by (kind.Starts slack) rate l = []
end_by (kind.Compared expected) rate l = wider_row (row_in l.name Absent Absent (load_in rate l.all) l.all) (whole_of l.all) Absent ∷ []

-- the row of a label and an SDI, if there are such words
abbrev pub rows_by : RowKind → ℕ → List ℕ → ℕ → ℕ → RowFigures → List (List Field)
rows_by kind rate name label sdi p = if p.common.words == 0 then [] else pair_by kind rate name label sdi p ∷ []

unfoldable pub pair_in : RowKind → ℕ → LineKept → ℕ → ℕ → List (List Field)
pair_in kind rate l label sdi = rows_by kind rate l.name label sdi (slice_index_or l.each (4 * label + sdi) no_row_figures)

abbrev pub label_in : RowKind → ℕ → LineKept → ℕ → List (List Field)
label_in kind rate l label = flat_map (pair_in kind rate l label) (range_with_len 0 4)

-- the rows of a line
abbrev pub rows_in : RowKind → ℕ → LineKept → List (List Field)
rows_in kind rate l = flat_map (label_in kind rate l) (range_with_len 0 256) ++ end_by kind rate l

-- ---- what is missing

-- words of an expectation's label came on a line, with an SDI
abbrev pub has_at : Expectation → LineKept → ℕ → Bool
has_at e l sdi = takes_sdi e sdi && nat_lt 0 (slice_index_or l.each (4 * e.label + sdi) no_row_figures).common.words

abbrev pub has_in : Expectation → LineKept → Bool
has_in e l = has_at e l 0 || (has_at e l 1 || (has_at e l 2 || has_at e l 3))

-- and the line has a name for it
abbrev pub is_seen_in : Expectation → LineKept → Bool
is_seen_in e l = is_on e l.name && has_in e l

-- its line is among these, and none of its words came
abbrev pub is_missing_in : List LineKept → Expectation → Bool
is_missing_in lines e = list_any (λ l. is_on e l.name) lines && not (list_any (is_seen_in e) lines)

-- its row, if it is missing
abbrev pub missing_in : List LineKept → Expectation → List (List Field)
missing_in lines e = missing_if e (is_missing_in lines e)
