-- What a table says of the words of a recording (profile: docs/FORMATS.md, Output of `survey`, `--table`).
use Rattle.std.specs.Prelude.{ℕ, ◌==◌, ◌&&◌, ◌∷◌, ◌++◌, [], Bool, false, List, None, Option, Some, codes, count_by, find, flat_map, fold, if◌then◌else◌, length, map, max, min, nat_lt, not, position, take, true}
use Rattle.std.specs.List.{list_any, range_with_len}
use Rattle.std.specs.Option.{option_map_or}
use Rattle.std.specs.Str.{bytes_eq}
use Rattle.a429_text.specs.Fields.{Absent, Field, Number, Text}
use Rattle.a429_text.specs.Sheets.{text_in}
use Rattle.a429_text.specs.Texts.{octal}
use Rattle.a429_survey.specs.Data.{data_fields, no_data_fields}
use Rattle.a429_survey.specs.Figures.{Noted, has_ssm, intervals, load_field, times_of}
use Rattle.a429_survey.specs.Survey.{names_of, pair_row, pair_rows, sdi_text, survey_columns, survey_row, words_of, words_with}

-- Words that a table expects on a line: of this label, and of this SDI or of any. The line is a receiver, or the buses of a
-- group. A word comes at least and at most this number of microseconds after the one before.
pub record Expectation : Type 0 where
  pub line : List ℕ
  pub is_group : Bool
  pub label : ℕ
  pub sdi : Option ℕ
  pub least : ℕ
  pub greatest : Option ℕ

-- words that come in at a receiver of this name, at any interval
abbrev pub heard_at : List ℕ → ℕ → Option ℕ → Expectation
heard_at line label sdi = record { line = line; is_group = false; label = label; sdi = sdi; least = 0; greatest = None }

-- words that a group of this name sends
abbrev pub sent_by : List ℕ → ℕ → Option ℕ → ℕ → ℕ → Expectation
sent_by line label sdi least greatest = record { line = line; is_group = true; label = label; sdi = sdi; least = least; greatest = Some greatest }

-- ---- the words that are expected

-- a name up to its first full stop, which is here
abbrev pub before_stop : List ℕ → Option ℕ → List ℕ
before_stop name None = name
before_stop name (Some at) = take at name

-- the group that a name in a recording is for: GROUP or GROUP.BUS
abbrev pub group_in : List ℕ → List ℕ
group_in name = before_stop name (position (λ c. c == 46) name)

-- a name in a recording is for the line
abbrev pub is_on : Expectation → List ℕ → Bool
is_on e name = bytes_eq (if e.is_group then group_in name else name) e.line

-- an SDI is the one that is expected, or any is
abbrev pub takes_sdi : Expectation → ℕ → Bool
takes_sdi e sdi = option_map_or (λ own. own == sdi) e.sdi true

-- the words with a label and an SDI of a name are expected
abbrev pub takes : List ℕ → ℕ → ℕ → Expectation → Bool
takes name label sdi e = is_on e name && (e.label == label && takes_sdi e sdi)

-- the first that takes them
abbrev pub expectation_for : List Expectation → List ℕ → ℕ → ℕ → Option Expectation
expectation_for expected name label sdi = find (takes name label sdi) expected

-- ---- intervals

-- the least of some intervals is less than this
abbrev pub comes_faster : ℕ → List ℕ → Bool
comes_faster us [] = false
comes_faster us (n ∷ ns) = nat_lt (fold min n ns) us

-- the greatest of some intervals is more than this
abbrev pub comes_slower : Option ℕ → List ℕ → Bool
comes_slower None ns = false
comes_slower (Some us) [] = false
comes_slower (Some us) (n ∷ ns) = nat_lt us (fold max n ns)

-- what the table says of words with these intervals
abbrev pub pace_of : Expectation → List ℕ → List ℕ
pace_of e ns =
    if comes_faster e.least ns then codes "fast"
    else (if comes_slower e.greatest ns then codes "slow" else codes "expected")

-- what it says of the words of a label and an SDI of a name
abbrev pub verdict_of : Option Expectation → List Noted → List ℕ
verdict_of None words = codes "unexpected"
verdict_of (Some e) words = pace_of e (intervals (times_of words))

-- ---- what is missing

-- words of the label came on a line, with an SDI that is expected
abbrev pub has_its : Expectation → List Noted → Bool
has_its e words = list_any (λ sdi. takes_sdi e sdi && nat_lt 0 (length (words_with e.label sdi words))) (range_with_len 0 4)

-- they came under a name of the recording that is for the line
abbrev pub is_seen : Expectation → List Noted → List ℕ → Bool
is_seen e words name = is_on e name && has_its e (words_of name words)

-- the line is in the recording, and none of its words came
abbrev pub is_missing : List Noted → Expectation → Bool
is_missing words e = list_any (is_on e) (names_of words) && not (list_any (is_seen e words) (names_of words))

-- ---- the rows

abbrev pub compared_columns : List (List ℕ)
compared_columns =
    survey_columns
    ++ codes "ssm_0" ∷ codes "ssm_1" ∷ codes "ssm_2" ∷ codes "ssm_3" ∷ codes "least_bnr" ∷ codes "greatest_bnr" ∷ codes "least_bcd" ∷ codes "greatest_bcd"
    ∷ codes "table" ∷ []

-- how many of some words have each SSM
abbrev pub ssm_fields : List Noted → List Field
ssm_fields words = map (λ ssm. Number (count_by (has_ssm ssm) words)) (range_with_len 0 4)

-- the row of a label and an SDI of a name
abbrev pub compared_row : List Expectation → List ℕ → ℕ → ℕ → List Noted → List Field
compared_row expected name label sdi words =
    pair_row name label sdi words ++ (ssm_fields words ++ (data_fields words ++ Text (verdict_of (expectation_for expected name label sdi) words) ∷ []))

-- the rows of the words of a name, and then that of all these words, which says nothing of their data and of the table
abbrev pub compared_name : List Expectation → ℕ → List ℕ → List Noted → List (List Field)
compared_name expected rate name words =
    pair_rows (compared_row expected name) words
    ++ (survey_row name Absent Absent (load_field rate words) words ++ (ssm_fields words ++ (no_data_fields ++ Absent ∷ []))) ∷ []

-- the SDI that is expected
abbrev pub expected_sdi : Option ℕ → List ℕ
expected_sdi None = codes "any"
expected_sdi (Some sdi) = sdi_text sdi

-- the row of words that are missing
abbrev pub missing_row : Expectation → List Field
missing_row e =
    Text e.line ∷ Text (octal e.label) ∷ Text (expected_sdi e.sdi) ∷ Number 0 ∷ Absent ∷ Absent ∷ Absent ∷ Absent ∷ Absent ∷ Absent ∷ Absent ∷ Absent
    ∷ Absent ∷ Absent ∷ Absent ∷ Absent ∷ (no_data_fields ++ Text (codes "missing") ∷ [])

-- the row, if they are missing
abbrev pub missing_if : Expectation → Bool → List (List Field)
missing_if e true = missing_row e ∷ []
missing_if e false = []

-- the rows of a survey of some words, oldest first, at a bit rate in bit/s, with what the table says of each; and after them the
-- rows of words that are missing, in the order in which they are expected
unfoldable pub compared_rows : List Expectation → ℕ → List Noted → List (List Field)
compared_rows expected rate words =
    flat_map (λ name. compared_name expected rate name (words_of name words)) (names_of words)
    ++ flat_map (λ e. missing_if e (is_missing words e)) expected

-- ---- findings

-- what the table says of a row is a finding: `expected` is none
abbrev pub is_finding_text : Option (List ℕ) → Bool
is_finding_text None = false
is_finding_text (Some text) = not (bytes_eq text (codes "expected"))

abbrev pub is_finding : List Field → Bool
is_finding row = is_finding_text (text_in 20 row)

-- a row has a finding
abbrev pub has_finding : List (List Field) → Bool
has_finding rows = list_any is_finding rows
