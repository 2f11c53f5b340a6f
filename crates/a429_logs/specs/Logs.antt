-- Logs of words, as recorders write them (profile: log): what their lines state, in order, up to the first fault.
use Rattle.std.specs.Prelude.{◌==◌, ◌&&◌, ◌||◌, ◌+◌, ◌-◌, ◌^◌, ◌≤◌, ◌∷◌, ◌++◌, [], ⊤, ℕ, Bool, true, false, List, Option, Some, None, Result, Ok, Err, if◌then◌else◌, is_ok, map, min, nat_lt, not, unwrap_or}
use Rattle.a429_text.specs.CutText.{without_byte_order_mark}
use Rattle.a429_logs.specs.Calendars.{Timed, timed_row}
use Rattle.a429_logs.specs.LogColumns.{columns_of, is_heading, names_of, plain_places, width_of}
use Rattle.a429_logs.specs.LogFields.{fields_of, separator_in, parts_of, trimmed}
use Rattle.a429_logs.specs.LogRows.{Stated, field_at, row_of, stated_by}
use Rattle.a429_logs.specs.LogTimes.{can_be_time}
use Rattle.a429_logs.specs.declared.clocks.Clock.{Clock}
use Rattle.a429_logs.specs.declared.columns.HeadingFault.{HeadingFault}
use Rattle.a429_logs.specs.declared.columns.Places.{Places}
use Rattle.a429_logs.specs.declared.fields.Separator.{Separator}
use Rattle.a429_logs.specs.declared.fields.Separator.TheVariants.{LineFeed}
use Rattle.a429_logs.specs.declared.reader.LogFault.{LogFault}
use Rattle.a429_logs.specs.declared.reading.LineFault.{LineFault}
use Rattle.a429_logs.specs.declared.reading.LineFault.TheVariants.{Heading, Row}
use Rattle.a429_logs.specs.declared.reading.OpeningLine.{OpeningLine}
use Rattle.a429_logs.specs.declared.reading.OpeningLine.TheVariants.{Passed, Columns, FirstRow, Title}
use Rattle.a429_logs.specs.declared.reading.Reading.{Reading}
use Rattle.a429_logs.specs.declared.reading.Shape.{Shape}
use Rattle.a429_logs.specs.declared.rows.RowFault.{RowFault}
use Rattle.a429_logs.specs.declared.rows.RowFault.TheVariants.{Early, Falls}
use Rattle.a429_logs.specs.declared.rows.StatedWord.{StatedWord}
use Rattle.a429_logs.specs.declared.times.TimeUnit.{TimeUnit}
use Rattle.a429_logs.specs.declared.times.TimeUnit.TheVariants.{Microseconds}

-- ---- times, from a base on

-- The time of a word is counted from the base, which is the time of the first word if none is given. No time is below the one before it.
abbrev pub after_base : Clock → Stated → ℕ → Result Stated RowFault
after_base clock word base =
    if nat_lt word.time base then Err Early
    else if nat_lt (word.time - base) clock.last then Err Falls
    else Ok (record word { time = word.time - base })

abbrev pub base_of : Clock → Stated → ℕ
base_of clock word = unwrap_or clock.base word.time

abbrev pub on_clock : Clock → Stated → Result Stated RowFault
on_clock clock word = after_base clock word (base_of clock word)

-- the clock after a word
abbrev pub clock_after : Clock → Stated → Clock
clock_after clock word = record { base = Some (base_of clock word); last = word.time - base_of clock word }

-- ---- lines

-- One more. The greatest count is 2^64 - 1, so all lines from that number on have the same one.
abbrev pub one_more : ℕ → ℕ
one_more n = min (n + 1) (2 ^ 64 - 1)

-- lines with their numbers, from this one on
abbrev pub numbered : ℕ → List (List ℕ) → List (ℕ × List ℕ)
numbered n [] = []
numbered n (line ∷ lines) = (n, line) ∷ numbered (one_more n) lines

-- empty but for blanks, or with `#` before anything else
abbrev pub is_passed : List ℕ → Bool
is_passed [] = true
is_passed (c ∷ cs) = c == 35

unfoldable pub is_passed_over : List ℕ → Bool
is_passed_over line = is_passed (trimmed line)

-- how the next line is read, and what a line states: nothing, a word, or a fault
pub record LineRead : Type 0 where
  pub next : Reading
  pub states : Result (Option Stated) LineFault

abbrev pub word_shown : Result (Option StatedWord) LineFault → Result (Option Stated) LineFault
word_shown (Ok None) = Ok None
word_shown (Ok (Some w)) = Ok (Some (stated_by w))
word_shown (Err why) = Err why

abbrev pub shown_line : Reading → Result (Option StatedWord) LineFault → LineRead
shown_line next result = record { next = next; states = word_shown result }

-- the word on the clock
abbrev pub with_clock : Reading → Shape → Timed → Result Stated RowFault → LineRead
with_clock reading shape timed (Err why) = record { next = reading; states = Err (Row why) }
with_clock reading shape timed (Ok word) =
    record {
      next = record reading { shape = Some shape; has_rows = true; calendar = timed.calendar; clock = clock_after reading.clock timed.word };
      states = Ok (Some word);
    }

-- the word by the calendar
abbrev pub with_calendar : Reading → Shape → Result Timed RowFault → LineRead
with_calendar reading shape (Err why) = record { next = reading; states = Err (Row why) }
with_calendar reading shape (Ok timed) = with_clock reading shape timed (on_clock reading.clock timed.word)

-- the word of a row in a form
abbrev pub word_of_row : Reading → List ℕ → Shape → Result Timed RowFault
word_of_row reading line shape =
    timed_row reading.dates reading.calendar (row_of shape.unit reading.order shape.separator shape.places (fields_of shape.separator line))

abbrev pub read_row : Reading → List ℕ → Shape → LineRead
read_row reading line shape = with_calendar reading shape (word_of_row reading line shape)

-- the texts FROM=TO by which fields of headings are renamed
abbrev pub renames_of : Reading → List (List ℕ)
renames_of reading = map (λ text. text.now) reading.renames.now

-- the unit of times: the one that is given, otherwise that of the heading, otherwise the microsecond
abbrev pub unit_for : Option TimeUnit → Option TimeUnit → TimeUnit
unit_for (Some unit) heading = unit
unit_for None heading = unwrap_or heading Microseconds

abbrev pub with_heading : Reading → Separator → Result Places HeadingFault → LineRead
with_heading reading separator (Err why) = record { next = reading; states = Err (Heading why) }
with_heading reading separator (Ok places) =
    record {
      next = record reading { shape = Some (record { separator = separator; unit = unit_for reading.unit places.unit; places = places }) };
      states = Ok None;
    }

-- the first line that is not passed over is a heading or a row, and its separators are those of all lines
abbrev pub read_first : Reading → List ℕ → Separator → LineRead
read_first reading line separator =
    if is_heading (unit_for reading.unit None) (names_of (renames_of reading) (fields_of separator line))
    then with_heading reading separator (columns_of (renames_of reading) (fields_of separator line))
    else read_row reading line (record { separator = separator; unit = unit_for reading.unit None; places = plain_places })

abbrev pub read_stated : Reading → List ℕ → Option Shape → LineRead
read_stated reading line None = read_first reading line (separator_in line)
read_stated reading line (Some shape) = read_row reading line shape

unfoldable pub read_line : Reading → List ℕ → LineRead
read_line reading line =
    if is_passed_over line then record { next = reading; states = Ok None }
    else read_stated reading line reading.shape

-- ---- titles above the heading

-- what a line is before the first heading or row
abbrev pub names_columns : Reading → List ℕ → Bool
names_columns reading line =
    is_heading (unit_for reading.unit None) (names_of (renames_of reading) (fields_of (separator_in line) line))
    && is_ok (columns_of (renames_of reading) (fields_of (separator_in line) line))

abbrev pub is_plain_row : Reading → List ℕ → Bool
is_plain_row reading line = is_ok (row_of (unit_for reading.unit None) reading.order (separator_in line) plain_places (fields_of (separator_in line) line))

unfoldable pub opening_line : Reading → List ℕ → OpeningLine
opening_line reading line =
    if is_passed_over line then Passed
    else if names_columns reading line then Columns
    else if is_plain_row reading line then FirstRow
    else Title

-- how many titles there are above a heading, and the lines from the heading on
pub record Titled : Type 0 where
  pub titles : ℕ
  pub lines : List (ℕ × List ℕ)

abbrev pub one_title : Option Titled → Option Titled
one_title None = None
one_title (Some t) = Some (record t { titles = one_more t.titles })

abbrev pub heading_by : OpeningLine → List (ℕ × List ℕ) → Option Titled → Option Titled
heading_by Passed lines later = later
heading_by Title lines later = one_title later
heading_by Columns lines later = Some (record { titles = 0; lines = lines })
heading_by FirstRow lines later = None

-- the heading is the first line that names the columns, if no row comes before it
abbrev pub heading_from : Reading → List (ℕ × List ℕ) → Option Titled
heading_from reading [] = None
heading_from reading (line ∷ lines) = heading_by (opening_line reading line.1) (line ∷ lines) (heading_from reading lines)

-- titles are above the heading; without a heading there are none
unfoldable pub without_titles : Reading → List (ℕ × List ℕ) → Titled
without_titles reading lines = unwrap_or (heading_from reading lines) (record { titles = 0; lines = lines })

-- ---- a tail after the last row

-- a line has a field that can be its time
abbrev pub has_time : Shape → List ℕ → Bool
has_time shape line = can_be_time shape.unit (field_at shape.places.time (fields_of shape.separator line))

-- a line with fewer fields than the heading
abbrev pub is_short : Shape → List ℕ → Bool
is_short shape line = nat_lt (width_of (fields_of shape.separator line)).bare shape.places.width.bare

abbrev pub are_passed : List (ℕ × List ℕ) → Bool
are_passed [] = true
are_passed (line ∷ lines) = is_passed_over line.1 && are_passed lines

-- Lines are no rows: none of them has a time. The last one may have a time, if it is short: it is cut.
abbrev pub is_no_row : Shape → List ℕ → Bool
is_no_row shape line = is_passed_over line || not (has_time shape line)

abbrev pub are_no_rows : Shape → List (ℕ × List ℕ) → Bool
are_no_rows shape [] = true
are_no_rows shape (line ∷ lines) =
    if is_no_row shape line.1 then are_no_rows shape lines else is_short shape line.1 && are_passed lines

-- lines after a row that are no rows
abbrev pub tail_by : Option Shape → List (ℕ × List ℕ) → Bool
tail_by None lines = false
tail_by (Some shape) lines = are_no_rows shape lines

unfoldable pub is_tail : Reading → List (ℕ × List ℕ) → Bool
is_tail reading lines = reading.has_rows && tail_by reading.shape lines

-- ---- logs

-- a word with the number of its line, or a fault with its line; lines are numbered from 1
pub record WordAt : Type 0 where
  pub line : ℕ
  pub word : Stated

-- a fault in a tail is none
abbrev pub entry_then : ℕ → Bool → Result (Option Stated) LineFault → List (Result WordAt LogFault) → List (Result WordAt LogFault)
entry_then n tail (Err why) later = if tail then [] else Err (record { line = n; why = why }) ∷ []
entry_then n tail (Ok None) later = later
entry_then n tail (Ok (Some word)) later = Ok (record { line = n; word = word }) ∷ later

-- the lines are a tail, read as far as the first one
abbrev pub tail_at : LineRead → List (ℕ × List ℕ) → Bool
tail_at read lines = is_tail read.next lines

abbrev pub entries_from : Reading → List (ℕ × List ℕ) → List (Result WordAt LogFault)
entries_from reading [] = []
entries_from reading ((n, line) ∷ lines) =
    entry_then n (tail_at (read_line reading line) ((n, line) ∷ lines)) (read_line reading line).states
    (entries_from (read_line reading line).next lines)

-- the lines of a log, with their numbers
abbrev pub lines_of : List ℕ → List (ℕ × List ℕ)
lines_of text = numbered 1 (parts_of LineFeed (without_byte_order_mark text))

-- The text of a log that comes in pieces, with a line feed between each two of them (profile: log). Pieces are cut at line feeds.
abbrev pub joined : List (List ℕ) → List ℕ
joined [] = []
joined (text ∷ []) = text
joined (text ∷ (next ∷ texts)) = text ++ (10 ∷ joined (next ∷ texts))

-- what a log states: its words, up to the first fault, if there is one
unfoldable pub log_entries : Reading → List ℕ → List (Result WordAt LogFault)
log_entries reading text = entries_from reading (without_titles reading (lines_of text)).lines

-- ---- several logs, read as if they were one

-- how the first line of the next log is read: times go on, and the form is found again
abbrev pub next_log : Reading → Reading
next_log reading = record reading { shape = None; has_rows = false }

-- how the line after some lines is read; no line is read after a tail
abbrev pub past_then : Bool → Result (Option Stated) LineFault → Reading → Reading → Reading
past_then tail (Err why) next later = if tail then next else later
past_then tail (Ok word) next later = later

abbrev pub reading_past : Reading → List (ℕ × List ℕ) → Reading
reading_past reading [] = reading
reading_past reading ((n, line) ∷ lines) =
    past_then (tail_at (read_line reading line) ((n, line) ∷ lines)) (read_line reading line).states (read_line reading line).next
    (reading_past (read_line reading line).next lines)

-- how the first line is read of the log that follows another one
unfoldable pub reading_after : Reading → List ℕ → Reading
reading_after reading text = next_log (reading_past reading (without_titles reading (lines_of text)).lines)

-- what a log states, and then this, unless the log has a fault
abbrev pub and_then : List (Result WordAt LogFault) → List (Result WordAt LogFault) → List (Result WordAt LogFault)
and_then [] later = later
and_then (Err fault ∷ _) later = Err fault ∷ []
and_then (Ok word ∷ words) later = Ok word ∷ and_then words later

-- what several logs state, in order, up to the first fault; each has its own heading, and its own numbers of lines
abbrev pub series_entries : Reading → List (List ℕ) → List (Result WordAt LogFault)
series_entries reading [] = []
series_entries reading (text ∷ texts) = and_then (log_entries reading text) (series_entries (reading_after reading text) texts)

-- ---- what follows

-- no word comes before the one above it, nor before this time
abbrev pub NoneBefore : ℕ → List (Result WordAt LogFault) → Type 0
NoneBefore last [] = ⊤
NoneBefore last (Err fault ∷ later) = ⊤
NoneBefore last (Ok w ∷ later) = (last ≤ w.word.time) × NoneBefore w.word.time later

-- times never fall, in one log and from one log to the next
abbrev pub TimesNeverFall : Type 0
TimesNeverFall = (reading : Reading) (texts : List (List ℕ)) → NoneBefore reading.clock.last (series_entries reading texts)
