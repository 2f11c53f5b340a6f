-- What a cell of a sheet holds, and how it is written (profile: docs/FORMATS.md, Sheets).
use Rattle.std.specs.Prelude.{ℕ, ℤ, ◌+◌, ◌/◌, ◌%◌, ◌==◌, ◌||◌, List, [], ◌∷◌, ◌++◌, codes, if◌then◌else◌, map, nat_lt}
use Rattle.std.specs.Fmt.{decimal, signed_decimal}
use Rattle.std.specs.List.{flat_map}
use Rattle.a429_text.specs.Texts.{tenths}

pub data Field : Type 0 where
  Text : List ℕ → Field
  Number : ℕ → Field
  -- a number that may be below 0
  Signed : ℤ → Field
  -- a number of tenths
  Tenths : ℕ → Field
  -- nothing is said
  Absent : Field

-- as a text, with this one if nothing is said
abbrev pub field_text : List ℕ → Field → List ℕ
field_text absent (Text text) = text
field_text absent (Number number) = decimal number
field_text absent (Signed number) = signed_decimal number
field_text absent (Tenths number) = tenths number
field_text absent Absent = absent

-- the names of the columns, and then each row
abbrev pub texts_of : List ℕ → List (List ℕ) → List (List Field) → List (List (List ℕ))
texts_of absent columns rows = columns ∷ map (map (field_text absent)) rows

-- ---- JSON (RFC 8259)

-- a digit of a number in hexadecimal, in small letters
abbrev pub hex_digit : ℕ → ℕ
hex_digit n = if nat_lt n 10 then 48 + n else 87 + n

-- a byte within quotes: a quote, a backslash and a control byte are written with a backslash
abbrev pub escaped : ℕ → List ℕ
escaped byte =
    if byte == 34 || byte == 92 then 92 ∷ byte ∷ []
    else if nat_lt byte 32 then codes "\\u00" ++ (hex_digit (byte / 16) ∷ hex_digit (byte % 16) ∷ [])
    else byte ∷ []

abbrev pub quoted : List ℕ → List ℕ
quoted text = codes "\"" ++ (flat_map escaped text ++ codes "\"")

abbrev pub field_json : Field → List ℕ
field_json (Text text) = quoted text
field_json (Number number) = decimal number
field_json (Signed number) = signed_decimal number
field_json (Tenths number) = tenths number
field_json Absent = codes "null"

-- the members of a row, each after the mark that comes before it
abbrev pub members : List ℕ → List (List ℕ) → List Field → List ℕ
members mark [] row = []
members mark (name ∷ names) [] = []
members mark (name ∷ names) (field ∷ row) = mark ++ (quoted name ++ (codes ":" ++ (field_json field ++ members (codes ",") names row)))

-- a row as an object whose members have the names of the columns
abbrev pub row_json : List (List ℕ) → List Field → List ℕ
row_json columns row = codes "{" ++ (members [] columns row ++ codes "}")

-- the objects, a line each
abbrev pub lines_json : List ℕ → List (List ℕ) → List (List Field) → List ℕ
lines_json mark columns [] = []
lines_json mark columns (row ∷ rows) = mark ++ (row_json columns row ++ lines_json (codes ",\n") columns rows)

-- an array of objects
unfoldable pub json_text : List (List ℕ) → List (List Field) → List ℕ
json_text columns rows = codes "[\n" ++ (lines_json [] columns rows ++ codes "\n]\n")
