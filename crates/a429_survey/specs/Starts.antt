-- The start of a table, from what was recorded: rows for `import` (profile: import), in which only the groups are missing.
use Rattle.std.specs.Prelude.{ℕ, ◌+◌, ◌-◌, ◌*◌, ◌/◌, ◌^◌, ◌==◌, List, [], ◌∷◌, ◌++◌, codes, flat_map, fold, if◌then◌else◌, max, min, nat_lt}
use Rattle.std.specs.Int.{div_ceil}
use Rattle.a429_text.specs.Fields.{Field, Text, Number, Absent}
use Rattle.a429_text.specs.Texts.{octal}
use Rattle.a429_survey.specs.Figures.{Noted, intervals, times_of}
use Rattle.a429_survey.specs.Survey.{names_of, pair_rows, words_of}

abbrev pub start_columns : List (List ℕ)
start_columns =
    codes "group" ∷ codes "rate" ∷ codes "source" ∷ codes "receiver" ∷ codes "label" ∷ codes "sdi" ∷ codes "min_us" ∷ codes "max_us" ∷ []

-- an octal digit as a text
abbrev pub octal_digit : ℕ → List ℕ
octal_digit digit = (48 + digit) ∷ []

-- what follows the label in the name of a source: nothing if its SDI is 0
abbrev pub sdi_suffix : ℕ → List ℕ
sdi_suffix sdi = if sdi == 0 then [] else codes "-" ++ (48 + sdi) ∷ []

-- a source is named for its receiver, its label, and its SDI if that is not 0
abbrev pub source_name : List ℕ → ℕ → ℕ → List ℕ
source_name name label sdi = name ++ (codes "-" ++ (octal label ++ sdi_suffix sdi))

-- an interval in microseconds; one of 2^32 or more is not written, since no transmit interval is so long
abbrev pub interval_field : ℕ → Field
interval_field us = if nat_lt us (2 ^ 32) then Number us else Absent

-- the least interval shortened by this part of it, in per cent, rounded down; nothing is said if there is none
abbrev pub shorter_field : ℕ → List ℕ → Field
shorter_field slack [] = Absent
shorter_field slack (n ∷ ns) = interval_field (fold min n ns * (100 - slack) / 100)

-- the greatest interval lengthened by this part of it, in per cent, rounded up
abbrev pub longer_field : ℕ → List ℕ → Field
longer_field slack [] = Absent
longer_field slack (n ∷ ns) = interval_field (div_ceil (fold max n ns * (100 + slack)) 100)

-- the row of a label and an SDI of a name
abbrev pub start_row : ℕ → ℕ → List ℕ → ℕ → ℕ → List Noted → List Field
start_row slack rate name label sdi words =
    Absent ∷ Number rate ∷ Text (source_name name label sdi) ∷ Text name ∷ Text (octal label) ∷ Number sdi
    ∷ shorter_field slack (intervals (times_of words)) ∷ longer_field slack (intervals (times_of words)) ∷ []

-- the rows of all words, at a bit rate in bit/s
unfoldable pub start_rows : ℕ → ℕ → List Noted → List (List Field)
start_rows slack rate words = flat_map (λ name. pair_rows (start_row slack rate name) (words_of name words)) (names_of words)
