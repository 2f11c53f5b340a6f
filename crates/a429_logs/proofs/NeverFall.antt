-- The times of a log never fall.
use Rattle.std.proofs.Common.{◌≡◌, ◌-◌, ◌≤◌, ◌∷◌, [], ℕ, Bool, true, false, List, refl, sym, subst, arith}
use Rattle.std.specs.Prelude.{Option, Some, None, Result, Ok, Err, nat_lt}
use Rattle.std.proofs.lemmas.Bool.Decides.{nat_tests}
use Rattle.a429_logs.specs.Calendars.{Timed}
use Rattle.a429_logs.specs.LogColumns.{columns_of, is_heading, names_of, plain_places}
use Rattle.a429_logs.specs.LogFields.{fields_of, separator_in}
use Rattle.a429_logs.specs.LogRows.{Stated}
use Rattle.a429_logs.specs.Logs.{LineRead, NoneBefore, WordAt, and_then, base_of, entries_from, entry_then, is_passed_over, log_entries, on_clock, past_then, reading_after, reading_past, series_entries, tail_at, renames_of, unit_for, read_first, read_line, read_stated, with_calendar, with_clock, with_heading, word_of_row}
use Rattle.a429_logs.specs.declared.columns.HeadingFault.{HeadingFault}
use Rattle.a429_logs.specs.declared.columns.Places.{Places}
use Rattle.a429_logs.specs.declared.fields.Separator.{Separator}
use Rattle.a429_logs.specs.declared.reader.LogFault.{LogFault}
use Rattle.a429_logs.specs.declared.reading.LineFault.{LineFault}
use Rattle.a429_logs.specs.declared.reading.Reading.{Reading}
use Rattle.a429_logs.specs.declared.reading.Shape.{Shape}
use Rattle.a429_logs.specs.declared.rows.RowFault.{RowFault}

-- a line does not turn the clock back
abbrev KeepsTime : ℕ → ℕ → Result (Option Stated) LineFault → Type 0
KeepsTime last next (Err why) = last ≡ next
KeepsTime last next (Ok None) = last ≡ next
KeepsTime last next (Ok (Some w)) = (last ≤ w.time) × (w.time ≡ next)

abbrev Keeps : Reading → LineRead → Type 0
Keeps reading read = KeepsTime reading.clock.last read.next.clock.last read.states

-- by the two tests of a time
by_tests : (reading : Reading) (shape : Shape) (timed : Timed) (early falls : Bool) → nat_lt timed.word.time (base_of reading.clock timed.word) ≡ early
    → nat_lt (timed.word.time - base_of reading.clock timed.word) reading.clock.last ≡ falls
    → Keeps reading (with_clock reading shape timed (on_clock reading.clock timed.word))
by_tests reading shape timed true falls e f = rw e refl
by_tests reading shape timed false true e f = rw (e, f) refl
by_tests reading shape timed false false e f =
    let later : reading.clock.last ≤ timed.word.time - base_of reading.clock timed.word = grind (arith, nat_tests) in
    rw (e, f) (later, refl)

by_row : (reading : Reading) (shape : Shape) (row : Result Timed RowFault) → Keeps reading (with_calendar reading shape row)
by_row reading shape (Err why) = refl
by_row reading shape (Ok timed) = by_tests reading shape timed _ _ refl refl

by_heading : (reading : Reading) (separator : Separator) (places : Result Places HeadingFault) → Keeps reading (with_heading reading separator places)
by_heading reading separator (Err why) = refl
by_heading reading separator (Ok places) = refl

by_first : (reading : Reading) (line : List ℕ) (separator : Separator) (heads : Bool) → is_heading (unit_for reading.unit None) (names_of (renames_of reading) (fields_of separator line)) ≡ heads → Keeps reading (read_first reading line separator)
by_first reading line separator true e = rw e (by_heading reading separator (columns_of (renames_of reading) (fields_of separator line)))
by_first reading line separator false e = rw e (by_row reading (record { separator = separator; unit = unit_for reading.unit None; places = plain_places }) (word_of_row reading line (record { separator = separator; unit = unit_for reading.unit None; places = plain_places })))

by_shape : (reading : Reading) (line : List ℕ) (shape : Option Shape) → Keeps reading (read_stated reading line shape)
by_shape reading line None = by_first reading line (separator_in line) _ refl
by_shape reading line (Some shape) = by_row reading shape (word_of_row reading line shape)

by_passed : (reading : Reading) (line : List ℕ) (passed : Bool) → is_passed_over line ≡ passed → Keeps reading (read_line reading line)
unfolding read_line
by_passed reading line true e = rw e refl
by_passed reading line false e = rw e (by_shape reading line reading.shape)

-- ---- all lines

with_entry : (reading : Reading) (n : ℕ) (tail : Bool) (read : LineRead) (later : List (Result WordAt LogFault)) → Keeps reading read → NoneBefore read.next.clock.last later
    → NoneBefore reading.clock.last (entry_then n tail read.states later)
with_entry reading n tail read later keeps above = by_states reading.clock.last read.next.clock.last n tail read.states later keeps above
  where
    by_states : (last next n : ℕ) (tail : Bool) (states : Result (Option Stated) LineFault) (later : List (Result WordAt LogFault)) → KeepsTime last next states → NoneBefore next later
        → NoneBefore last (entry_then n tail states later)
    by_states last next n true (Err why) later keeps above = tt
    by_states last next n false (Err why) later keeps above = tt
    by_states last next n tail (Ok None) later keeps above = subst (λ (t : ℕ). NoneBefore t later) (sym keeps) above
    by_states last next n tail (Ok (Some w)) later keeps above = (keeps.0, subst (λ (t : ℕ). NoneBefore t later) (sym keeps.1) above)

pub never_fall : (reading : Reading) (lines : List (ℕ × List ℕ)) → NoneBefore reading.clock.last (entries_from reading lines)
never_fall reading [] = tt
never_fall reading ((n, line) ∷ lines) =
    with_entry reading n (tail_at (read_line reading line) ((n, line) ∷ lines)) (read_line reading line) (entries_from (read_line reading line).next lines)
    (by_passed reading line _ refl) (never_fall (read_line reading line).next lines)

-- ---- several logs

-- what is above later entries, after a line
with_then : (reading : Reading) (n : ℕ) (tail : Bool) (read : LineRead) (past : Reading) (entries later : List (Result WordAt LogFault)) → Keeps reading read
    → (NoneBefore past.clock.last later → NoneBefore read.next.clock.last (and_then entries later))
    → NoneBefore (past_then tail read.states read.next past).clock.last later
    → NoneBefore reading.clock.last (and_then (entry_then n tail read.states entries) later)
with_then reading n tail read past entries later keeps more below = by_states reading.clock.last n tail read.states read.next past keeps more below
  where
    by_states : (last n : ℕ) (tail : Bool) (states : Result (Option Stated) LineFault) (next past : Reading) → KeepsTime last next.clock.last states
        → (NoneBefore past.clock.last later → NoneBefore next.clock.last (and_then entries later))
        → NoneBefore (past_then tail states next past).clock.last later → NoneBefore last (and_then (entry_then n tail states entries) later)
    by_states last n true (Err why) next past keeps more below = subst (λ (t : ℕ). NoneBefore t later) (sym keeps) below
    by_states last n false (Err why) next past keeps more below = tt
    by_states last n tail (Ok None) next past keeps more below = subst (λ (t : ℕ). NoneBefore t (and_then entries later)) (sym keeps) (more below)
    by_states last n tail (Ok (Some w)) next past keeps more below = (keeps.0, subst (λ (t : ℕ). NoneBefore t (and_then entries later)) (sym keeps.1) (more below))

then_fall : (reading : Reading) (lines : List (ℕ × List ℕ)) (later : List (Result WordAt LogFault)) → NoneBefore (reading_past reading lines).clock.last later
    → NoneBefore reading.clock.last (and_then (entries_from reading lines) later)
then_fall reading [] later below = below
then_fall reading ((n, line) ∷ lines) later below =
    with_then reading n (tail_at (read_line reading line) ((n, line) ∷ lines)) (read_line reading line) (reading_past (read_line reading line).next lines)
    (entries_from (read_line reading line).next lines) later (by_passed reading line _ refl) (then_fall (read_line reading line).next lines later) below

pub series_fall : (reading : Reading) (texts : List (List ℕ)) → NoneBefore reading.clock.last (series_entries reading texts)
unfolding log_entries reading_after
series_fall reading [] = tt
series_fall reading (text ∷ texts) = then_fall reading _ (series_entries (reading_after reading text) texts) (series_fall (reading_after reading text) texts)
