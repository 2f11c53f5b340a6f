-- What is known of the lines of a text before a place in it (vocabulary of contracts).
use Rattle.std.specs.Prelude.{◌≡◌, ◌≤◌, ◌==◌, ℕ, Bool, true, false, List, [], ◌∷◌, drop, if◌then◌else◌, length, take}
use Rattle.csv.specs.Machine.{is_end, step}
use Rattle.csv.specs.Reading.{strip_bom}
use Rattle.csv.specs.declared.parser.Config.{Config}
use Rattle.csv.specs.declared.parser.State.{State}
use Rattle.csv.specs.declared.parser.State.TheVariants as st
use Rattle.a429_import.specs.declared.lines.LineCount.{LineCount}
use Rattle.a429_import.specs.ImportForms.{ends_line}
use Rattle.a429_import.specs.ImportSteps.{state_of}
use Rattle.a429_import.specs.RowLines.{ends_from}

-- the last byte is a carriage return; a flag if there is none
unfoldable pub after_return : Bool → List ℕ → Bool
after_return is_after_return [] = is_after_return
after_return is_after_return (byte ∷ bytes) = after_return (byte == 13) bytes

-- the count is that of the bytes before its place
pub record HasCounted (text : List ℕ) (count : LineCount) : Type 0 where
  pub within : count.at ≤ length text
  pub ended : count.ended ≡ ends_from false (take count.at text)
  pub after : count.is_after_return ≡ after_return false (take count.at text)
  pub few : count.ended ≤ count.at

-- no byte of a row was passed
abbrev pub is_between : State → Bool
is_between st.StartRecord = true
is_between st.AfterCr = true
is_between _ = false

-- bytes begin with a line end
abbrev pub begins_with_end : List ℕ → Bool
begins_with_end [] = false
begins_with_end (byte ∷ bytes) = ends_line byte

-- the state after a row, and the bytes after it
unfoldable pub row_end : Config → State → List ℕ → State × List ℕ
row_end cfg s [] = (st.StartRecord, [])
row_end cfg s (byte ∷ bytes) = if is_end (step cfg s byte).1 then ((step cfg s byte).0, bytes) else row_end cfg (step cfg s byte).0 bytes

-- bytes are the end of a text
abbrev pub IsEnd : List ℕ → List ℕ → Type 0
IsEnd text end = (n : ℕ) × (end ≡ drop n text)

-- the count is that before the rows of an end of a text. A byte order mark may come first
pub record IsBefore (text end : List ℕ) (count : LineCount) : Type 0 where
  pub counted : HasCounted text count
  pub start : state_of count.part ≡ st.StartRecord
  pub rest : drop count.at text ≡ strip_bom end
