-- What is left of a log that is read (profile: log).
use Rattle.std.specs.Prelude.{◌≡◌, ◌∷◌, [], ⊤, Bool, ℕ, List, Option, Some, None, Result, Ok, Err, if◌then◌else◌}
use Rattle.std.specs.declared.alloc.Global.{Global}
use Rattle.std.specs.declared.vec.Vec.{Vec}
use Rattle.a429_logs.specs.LogPieces.{IsBetweenIn, left_in, lines_in, next_in, pieces_in, texts_left}
use Rattle.a429_logs.specs.LogRows.{Stated, stated_by}
use Rattle.a429_logs.specs.LogDates.{or_second}
use Rattle.a429_logs.specs.Logs.{Titled, WordAt, entries_from, is_tail, lines_of, next_log, numbered, one_more, read_line, reading_past, tail_at, without_titles}
use Rattle.a429_logs.specs.declared.reading.LineFault.{LineFault}
use Rattle.a429_logs.specs.declared.reader.LogFault.{LogFault}
use Rattle.a429_logs.specs.declared.reader.LogPoint.{LogPoint}
use Rattle.a429_logs.specs.declared.reader.LogReader.{LogReader}
use Rattle.a429_logs.specs.declared.reader.LogWord.{LogWord}
use Rattle.a429_logs.specs.declared.reading.Reading.{Reading}
use Rattle.a429_logs.specs.declared.reading.Shape.{Shape}

-- the lines with their numbers; after a fault none
abbrev pub lines_left : LogReader → List (ℕ × List ℕ)
lines_left r = left_in r.lines

-- ---- pieces

-- the pieces of a reader
abbrev pub pieces_of : LogReader → List (Vec ℕ Global)
pieces_of r = pieces_in r.lines

-- the number, from 0, of the first piece that was not begun
abbrev pub next_of : LogReader → ℕ
next_of r = next_in r.lines

-- the texts of the pieces that were not begun
abbrev pub texts_after : LogReader → List (List ℕ)
texts_after r = texts_left r.lines

-- no line is left of the piece that is read
abbrev pub IsBetween : LogReader → Type 0
IsBetween r = IsBetweenIn r.lines

-- ---- what is left

-- a line that was taken, and those after it, are a tail
abbrev pub is_tail_of : LogReader → ℕ → List ℕ → Bool
is_tail_of r n line = is_tail r.reading ((n, line) ∷ lines_left r)

abbrev pub entries_left : LogReader → List (Result WordAt LogFault)
entries_left r = entries_from r.reading (lines_left r)

-- how the first line of the next log is read
abbrev pub reading_left : LogReader → Reading
reading_left r = next_log (reading_past r.reading (lines_left r))

-- the number of the first line of the tail, if there is one
abbrev pub tail_then : ℕ → Bool → Result (Option Stated) LineFault → Option ℕ → Option ℕ
tail_then n tail (Err why) later = if tail then Some n else None
tail_then n tail (Ok word) later = later

abbrev pub tail_from : Reading → List (ℕ × List ℕ) → Option ℕ
tail_from reading [] = None
tail_from reading ((n, line) ∷ lines) =
    tail_then n (tail_at (read_line reading line) ((n, line) ∷ lines)) (read_line reading line).states (tail_from (read_line reading line).next lines)

-- the same for a whole log, and how many titles are above its heading
unfoldable pub tail_of : Reading → List ℕ → Option ℕ
tail_of reading text = tail_from reading (without_titles reading (lines_of text)).lines

unfoldable pub titles_of : Reading → List ℕ → ℕ
titles_of reading text = (without_titles reading (lines_of text)).titles

-- known of the tail, or left to find
abbrev pub tail_left : LogReader → Option ℕ
tail_left r = or_second r.passed.tail (tail_from r.reading (lines_left r))

abbrev pub titles_now : LogReader → ℕ
titles_now r = r.passed.titles

-- the lines of a reader, and the titles above them
abbrev pub titled_by : LogReader → Titled
titled_by r = record { titles = r.passed.titles; lines = lines_left r }

-- unless a line is faulty, the next log is read as before
abbrev pub GoesOn : Option (Result LogWord LogFault) → Reading → Reading → Type 0
GoesOn None old new = new ≡ old
GoesOn (Some (Ok w)) old new = new ≡ old
GoesOn (Some (Err fault)) old new = ⊤

-- the same of the tail
abbrev pub TailGoesOn : Option (Result LogWord LogFault) → Option ℕ → Option ℕ → Type 0
TailGoesOn None old new = new ≡ old
TailGoesOn (Some (Ok w)) old new = new ≡ old
TailGoesOn (Some (Err fault)) old new = ⊤

-- the form of rows so far
abbrev pub shape_now : LogReader → Option Shape
shape_now r = r.reading.shape

abbrev pub entry_of : Result LogWord LogFault → Result WordAt LogFault
entry_of (Ok w) = Ok (record { line = w.line; word = stated_by w.word })
entry_of (Err fault) = Err fault

-- ---- what is left from a point on, if these are the texts of the later pieces

-- how many lines are before it
abbrev pub lines_before : LogPoint → ℕ
lines_before point = point.taken

abbrev pub lines_at : LogPoint → List (List ℕ) → List (ℕ × List ℕ)
lines_at point texts = numbered (one_more (lines_before point)) (lines_in texts)

abbrev pub entries_at : LogPoint → List (List ℕ) → List (Result WordAt LogFault)
entries_at point texts = entries_from point.reading (lines_at point texts)

-- how the first line of the next log is read
abbrev pub reading_at : LogPoint → List (List ℕ) → Reading
reading_at point texts = next_log (reading_past point.reading (lines_at point texts))

-- the tail, and how many titles are above the heading
abbrev pub tail_at_point : LogPoint → List (List ℕ) → Option ℕ
tail_at_point point texts = or_second point.passed.tail (tail_from point.reading (lines_at point texts))

abbrev pub titles_at : LogPoint → ℕ
titles_at point = point.passed.titles
