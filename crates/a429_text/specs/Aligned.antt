-- Rows of texts in columns, as people read them (profile: docs/FORMATS.md, Sheets).
use Rattle.std.specs.Prelude.{ℕ, ◌+◌, ◌-◌, ◌==◌, ◌||◌, Bool, List, [], ◌∷◌, ◌++◌, codes, count_by, if◌then◌else◌, length, max, map, nat_lt, replicate, slice_index, slice_index_or}
use Rattle.std.specs.List.{flat_map, fold, range_with_len}

-- the field of a row in a column; after the last field, nothing
abbrev pub field_in : ℕ → List (List ℕ) → List ℕ
field_in column row = slice_index_or row column []

-- a control character of ASCII, which a terminal may obey
abbrev pub is_control : ℕ → Bool
is_control byte = nat_lt byte 32 || byte == 127

-- a byte as people read it: in the place of a control character its picture (Unicode, from U+2400 on; U+2421 for delete)
abbrev pub shown_byte : ℕ → List ℕ
shown_byte byte = if byte == 127 then 226 ∷ 144 ∷ 161 ∷ [] else (if nat_lt byte 32 then 226 ∷ 144 ∷ (128 + byte) ∷ [] else byte ∷ [])

abbrev pub shown : List ℕ → List ℕ
shown field = flat_map shown_byte field

-- a byte begins a character of UTF-8 (RFC 3629): those from 128 to 191 continue one
abbrev pub begins_character : ℕ → Bool
begins_character byte = nat_lt byte 128 || nat_lt 191 byte

-- how many characters a text has
abbrev pub characters : List ℕ → ℕ
characters text = count_by begins_character text

-- how many characters the widest field of a column has
abbrev pub width_of : ℕ → List (List (List ℕ)) → ℕ
width_of column rows = fold (λ width row. max width (characters (field_in column row))) 0 rows

-- how many columns there are: the fields of the longest row
abbrev pub columns_of : List (List (List ℕ)) → ℕ
columns_of rows = fold (λ columns row. max columns (length row)) 0 rows

-- the width of each column
abbrev pub widths_of : List (List (List ℕ)) → List ℕ
widths_of rows = map (λ column. width_of column rows) (range_with_len 0 (columns_of rows))

-- this number of spaces
abbrev pub spaces : ℕ → List ℕ
spaces count = replicate count 32

-- a field, followed by spaces up to the width of its column
abbrev pub padded : ℕ → List ℕ → List ℕ
padded width field = shown field ++ spaces (width - characters field)

-- the text between two columns
abbrev pub gap : List ℕ
gap = spaces 2

-- the field of a row in a column, and the text between it and the next; after the last field there is nothing
abbrev pub column_text : List ℕ → List (List ℕ) → ℕ → List ℕ
column_text widths row column =
    if nat_lt (column + 1) (length row) then padded (slice_index widths column) (field_in column row) ++ gap else shown (field_in column row)

-- a row, in columns of these widths
abbrev pub aligned_row : List ℕ → List (List ℕ) → List ℕ
aligned_row widths row = flat_map (column_text widths row) (range_with_len 0 (length row)) ++ codes "\n"

-- a line for each row, each column as wide as its widest field
unfoldable pub aligned_text : List (List (List ℕ)) → List ℕ
aligned_text rows = flat_map (aligned_row (widths_of rows)) rows
