-- Rows that are read quickly (profile: log).
use Rattle.std.specs.Prelude.{◌≡◌, ◌<◌, ◌≤◌, ◌+◌, ◌==◌, ◌||◌, ◌∷◌, ℕ, Bool, false, List, Ok, Some, drop, get_or, length, take}
use Rattle.a429_logs.specs.Calendars.{Timed}
use Rattle.a429_logs.specs.LogColumns.{plain_places}
use Rattle.a429_logs.specs.LogFields.{fields_of, is_separator, is_quote, parts_of}
use Rattle.a429_logs.specs.LogRows.{Stated, in_micros, row_of, stated_by}
use Rattle.a429_logs.specs.Logs.{is_passed_over, read_line, shown_line}
use Rattle.a429_logs.specs.declared.calendars.Calendar.TheVariants.{Units}
use Rattle.a429_logs.specs.declared.fields.Separator.TheVariants.{Blank, LineFeed}
use Rattle.a429_logs.specs.declared.reading.Reading.{Reading}
use Rattle.a429_logs.specs.declared.reading.Shape.{Shape}
use Rattle.a429_logs.specs.declared.rows.StatedWord.{StatedWord}
use Rattle.a429_logs.specs.declared.times.TimeUnit.TheVariants.{Microseconds}
use Rattle.a429_logs.specs.declared.words.BitOrder.{BitOrder}

-- a blank that does not end a line: a space or a tab
abbrev pub is_gap : ℕ → Bool
is_gap b = b == 32 || b == 9

-- a byte at which a name ends, or which has to be read another way
abbrev pub ends_name : ℕ → Bool
ends_name b = is_quote b || is_separator Blank b

-- a word with its time in the unit of the log
abbrev pub in_units : StatedWord → Timed
in_units word = record { word = stated_by word; calendar = Units }

-- eight bytes, or these and a carriage return, are before a line feed
pub record IsWordSize (text : List ℕ) (size : ℕ) : Type 0 where
  pub low : 8 ≤ size
  pub high : size ≤ 9
  pub within : size < length text
  pub ends : get_or text size 0 ≡ 10
  pub returns : 8 < size → get_or text 8 0 ≡ 13

-- A text begins with a row, up to the line feed at this place, and the row writes this word.
pub record StartsPlain (order : BitOrder) (text : List ℕ) (end : ℕ) (word : Stated) : Type 0 where
  pub within : end < length text
  pub lines : parts_of LineFeed text ≡ take end text ∷ parts_of LineFeed (drop (end + 1) text)
  pub stated : is_passed_over (take end text) ≡ false
  pub row : row_of Microseconds order Blank plain_places (fields_of Blank (take end text)) ≡ Ok (in_micros word)

-- the form of such rows, in a log with times in a unit
abbrev pub plain_shape : Shape
plain_shape = record { separator = Blank; unit = Microseconds; places = plain_places }

pub record IsPlain (reading : Reading) : Type 0 where
  pub shape : reading.shape ≡ Some plain_shape
  pub calendar : reading.calendar ≡ Units

-- the first line of a text, up to the line feed at this place, states this word
pub record TakesRow (old new : Reading) (text : List ℕ) (end : ℕ) (word : StatedWord) : Type 0 where
  pub within : end < length text
  pub lines : parts_of LineFeed text ≡ take end text ∷ parts_of LineFeed (drop (end + 1) text)
  pub read : shown_line new (Ok (Some word)) ≡ read_line old (take end text)
