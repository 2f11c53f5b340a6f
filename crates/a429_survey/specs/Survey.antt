-- What is on the lines of a recording: the rows of a survey (profile: docs/FORMATS.md, Output of `survey`).
use Rattle.std.specs.Prelude.{ℕ, ◌+◌, ◌==◌, ◌&&◌, List, [], ◌∷◌, ◌++◌, bytes_eq, codes, count_by, filter, flat_map, fold, if◌then◌else◌, length, map}
use Rattle.std.specs.Cmp.Lexicographic.{slice_cmp}
use Rattle.std.specs.List.{range_with_len}
use Rattle.std.specs.Ordering.{is_eq, is_lt, nat_cmp}
use Rattle.a429_text.specs.Fields.{Field, Text, Number, Absent}
use Rattle.a429_text.specs.Texts.{octal}
use Rattle.a429_word.specs.Bits.{label_of, sdi_of}
use Rattle.a429_word.specs.Hexadecimal.{hex}
use Rattle.a429_survey.specs.Figures.{Noted, first_of, greatest_field, intervals, is_even, last_of, least_field, load_field, mean_field, times_of}

-- ---- names

-- Some names in their order, each once, with one more name among them. Names are in the order of their bytes. A name that
-- is the beginning of another is before it.
abbrev pub with_name : List ℕ → List (List ℕ) → List (List ℕ)
with_name name [] = name ∷ []
with_name name (first ∷ names) =
    if is_lt (slice_cmp nat_cmp first name) then first ∷ with_name name names
    else (if is_eq (slice_cmp nat_cmp first name) then first ∷ names else name ∷ first ∷ names)

-- the names of some words, in their order, each once
unfoldable pub names_of : List Noted → List (List ℕ)
names_of words = fold (λ names w. with_name w.name names) [] words

-- ---- the words of a row

-- the words of a name
abbrev pub words_of : List ℕ → List Noted → List Noted
words_of name words = filter (λ w. bytes_eq w.name name) words

-- the words of a label and an SDI
abbrev pub words_with : ℕ → ℕ → List Noted → List Noted
words_with label sdi words = filter (λ w. label_of w.raw == label && sdi_of w.raw == sdi) words

-- ---- the rows

abbrev pub survey_columns : List (List ℕ)
survey_columns =
    codes "name" ∷ codes "label" ∷ codes "sdi" ∷ codes "words" ∷ codes "even" ∷ codes "least_us" ∷ codes "mean_us" ∷ codes "greatest_us" ∷ codes "first_us"
    ∷ codes "last_us" ∷ codes "last_word" ∷ codes "load" ∷ []

-- the row of some words
unfoldable pub survey_row : List ℕ → Field → Field → Field → List Noted → List Field
survey_row name label sdi load words =
    Text name ∷ label ∷ sdi ∷ Number (length words) ∷ Number (count_by is_even words) ∷ least_field (intervals (times_of words)) ∷ mean_field words
    ∷ greatest_field (intervals (times_of words)) ∷ Number (first_of (times_of words)) ∷ Number (last_of (times_of words))
    ∷ Text (hex (last_of (map (λ w. w.raw) words))) ∷ load ∷ []

-- this row of some words, if they are some
abbrev pub rows_if_any : (List Noted → List Field) → List Noted → List (List Field)
rows_if_any row [] = []
rows_if_any row (w ∷ words) = row (w ∷ words) ∷ []

-- the rows of the words that have a label, by SDI, each by its label and SDI
abbrev pub label_rows : (ℕ → ℕ → List Noted → List Field) → List Noted → ℕ → List (List Field)
label_rows row words label = flat_map (λ sdi. rows_if_any (row label sdi) (words_with label sdi words)) (range_with_len 0 4)

-- the rows of words, by label and then by SDI
abbrev pub pair_rows : (ℕ → ℕ → List Noted → List Field) → List Noted → List (List Field)
pair_rows row words = flat_map (label_rows row words) (range_with_len 0 256)

-- an SDI, 0 to 3, is a text in all sheets
abbrev pub sdi_text : ℕ → List ℕ
sdi_text sdi = (48 + sdi) ∷ []

-- the row of a label and an SDI of a name
abbrev pub pair_row : List ℕ → ℕ → ℕ → List Noted → List Field
pair_row name label sdi words = survey_row name (Text (octal label)) (Text (sdi_text sdi)) Absent words

-- the rows of the words of a name, and then that of all these words
abbrev pub name_rows : ℕ → List ℕ → List Noted → List (List Field)
name_rows rate name words = pair_rows (pair_row name) words ++ survey_row name Absent Absent (load_field rate words) words ∷ []

-- the rows of a survey of some words, oldest first, at a bit rate in bit/s
unfoldable pub survey_rows : ℕ → List Noted → List (List Field)
survey_rows rate words = flat_map (λ name. name_rows rate name (words_of name words)) (names_of words)
