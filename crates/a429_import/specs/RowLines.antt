-- On which line of a file a row begins, as an editor counts lines (profile: docs/FORMATS.md, Output of import).
use Rattle.std.specs.Prelude.{◌+◌, ◌==◌, ◌&&◌, ◌||◌, ℕ, zero, suc, Bool, false, not, List, [], ◌∷◌, Option, None, Some, if◌then◌else◌}
use Rattle.csv.specs.Machine.{Read, next_record}
use Rattle.csv.specs.Reading.{strip_bom}
use Rattle.csv.specs.declared.parser.Config.{Config}
use Rattle.csv.specs.declared.parser.State.{State}
use Rattle.csv.specs.declared.parser.State.TheVariants as st
use Rattle.a429_import.specs.ImportForms.{ends_line}
use Rattle.a429_import.specs.ImportQuotes.{text_before}

-- a line ends with a line feed, with a carriage return, or with both in this order: the flag says that a carriage return came just before a byte
abbrev pub ends_here : Bool → ℕ → Bool
ends_here is_after_return byte = (byte == 13) || ((byte == 10) && not is_after_return)

-- how many lines end in bytes
unfoldable pub ends_from : Bool → List ℕ → ℕ
ends_from is_after_return [] = 0
ends_from is_after_return (byte ∷ bytes) = (if ends_here is_after_return byte then 1 else 0) + ends_from (byte == 13) bytes

-- the line of a text, counted from 1, on which its end begins: the number of line ends before it, plus 1
abbrev pub line_of : List ℕ → List ℕ → ℕ
line_of text end = ends_from false (text_before end text) + 1

-- bytes from the first that is no line end on: empty lines may come before a row
unfoldable pub from_row : List ℕ → List ℕ
from_row [] = []
from_row (byte ∷ bytes) = if ends_line byte then from_row bytes else byte ∷ bytes

-- the line of a row and those of the rows after it, if there is a row
abbrev pub and_next : ℕ → (State → List ℕ → List ℕ) → Option Read → List ℕ
and_next line later None = []
and_next line later (Some p) = line ∷ later p.1 p.2

-- the lines of a text on which rows begin, up to this number of rows; the library `csv` reads the end of the text from this state
unfoldable pub lines_from : Config → List ℕ → ℕ → State → List ℕ → List ℕ
lines_from cfg text zero s end = []
lines_from cfg text (suc count) s end = and_next (line_of text (from_row end)) (lines_from cfg text count) (next_record cfg s [] [] end)

-- the same for the first rows of an end of a text. A byte order mark may come first
abbrev pub row_lines : Config → List ℕ → ℕ → List ℕ → List ℕ
row_lines cfg text count end = lines_from cfg text count st.StartRecord (strip_bom end)
