-- The names of a table in the header of C, and the enumerations of its receivers and sources (profile: docs/FORMATS.md, Header for C).
use Rattle.std.specs.Prelude.{◌≡◌, ◌==◌, ℕ, IsTrue, List, [], ◌++◌, codes, if◌then◌else◌, length, map, slice_get}
use Rattle.std.specs.Char.{to_ascii_uppercase}
use Rattle.std.specs.Fmt.{decimal}
use Rattle.std.specs.List.{flat_map, range_with_len}
use Rattle.std.specs.Option.{option_map_or}
use Rattle.a429_equipment.specs.NameForm.{is_name}
use Rattle.a429_equipment.specs.declared.rows.ReceiverRow.{ReceiverRow}
use Rattle.a429_equipment.specs.declared.rows.SourceRow.{SourceRow}

-- ---- names

-- in a macro and in a constant, letters are in upper case; - becomes _, and _ becomes u
abbrev pub macro_byte : ℕ → ℕ
macro_byte b = if b == 45 then 95 else if b == 95 then 117 else to_ascii_uppercase b

-- in an array, letters stay in lower case; - becomes _, and _ becomes U
abbrev pub array_byte : ℕ → ℕ
array_byte b = if b == 45 then 95 else if b == 95 then 85 else b

abbrev pub macro_name : List ℕ → List ℕ
macro_name name = map macro_byte name

abbrev pub array_name : List ℕ → List ℕ
array_name name = map array_byte name

-- ---- constants, by the number of what they name

-- what it names, such as `SOURCE_`, and the name of that
unfoldable pub constant : List ℕ → List ℕ → List ℕ
constant what name = codes "A429_" ++ (what ++ macro_name name)

-- its line in an enumeration
unfoldable pub constant_line : List ℕ → List ℕ → ℕ → List ℕ
constant_line what name number = codes "    " ++ (constant what name ++ (codes " = " ++ (decimal number ++ codes ",\n")))

-- the last line of an enumeration: the count of its names
unfoldable pub count_line : List ℕ → ℕ → List ℕ
count_line what count = codes "    A429_" ++ (what ++ (codes " = " ++ (decimal count ++ codes "\n};\n\n")))

-- the line of the row of a table with this number; nothing if there is no such row
abbrev pub row_line : {X : Type 0} → List ℕ → (X → List ℕ) → List X → ℕ → List ℕ
row_line what name rows n = option_map_or (λ row. constant_line what (name row) n) (slice_get rows n) []

-- an enumeration of rows in table order, and their count
unfoldable pub row_enum : {X : Type 0} → List ℕ → List ℕ → List ℕ → (X → List ℕ) → List X → List ℕ
row_enum start what counted name rows = start ++ (flat_map (row_line what name rows) (range_with_len 0 (length rows)) ++ count_line counted (length rows))

abbrev pub receiver_enum : List ReceiverRow → List ℕ
receiver_enum receivers = row_enum (codes "enum a429_receiver {\n") (codes "RECEIVER_") (codes "RECEIVERS") (λ r. r.name) receivers

abbrev pub source_enum : List SourceRow → List ℕ
source_enum sources = row_enum (codes "enum a429_source {\n") (codes "SOURCE_") (codes "SOURCES") (λ s. s.name) sources

-- ---- names stay apart

-- two names of a table have different macros and different arrays
abbrev pub SlotNamesDiffer : Type 0
SlotNamesDiffer = (a b : List ℕ) → IsTrue (is_name a) → IsTrue (is_name b) → (macro_name a ≡ macro_name b → a ≡ b) × (array_name a ≡ array_name b → a ≡ b)
