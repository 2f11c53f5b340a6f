-- The lines of a text (profile: docs/FORMATS.md, Plan text).
use Rattle.std.specs.Prelude.{ℕ, ◌+◌, List, [], ◌∷◌, ◌==◌, if◌then◌else◌, slice_index_or, length, drop, Option, Some, None, position}
use Rattle.std.specs.List.{onto_first}

-- each line with its line feed; bytes after the last line feed are a line too
abbrev pub lines_of : List ℕ → List (List ℕ)
lines_of [] = []
lines_of (b ∷ bs) = if b == 10 then (b ∷ []) ∷ lines_of bs else onto_first b (lines_of bs)

-- the n-th line from 0; an absent line has no byte
abbrev pub line_at : List (List ℕ) → ℕ → List ℕ
line_at lines n = slice_index_or lines n []

-- the lines from the first group on: after the line of the version, and after that of the bit rate if all groups have
-- one
abbrev pub lines_of_groups : Option ℕ → List (List ℕ) → List (List ℕ)
lines_of_groups None lines = drop 1 lines
lines_of_groups (Some rate) lines = drop 2 lines

abbrev pub after_place : Option ℕ → ℕ → ℕ
after_place None n = n
after_place (Some place) n = place + 1

-- how many bytes the first line has
abbrev pub line_end : List ℕ → ℕ
line_end text = after_place (position (λ b. b == 10) text) (length text)
