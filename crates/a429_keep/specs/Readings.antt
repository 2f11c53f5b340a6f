-- How an earlier plan text is read (profile: docs/FORMATS.md, Plan text). Its groups and outputs need not be those of the table.
use Rattle.std.specs.Prelude.{◌≡◌, ◌==◌, ◌&&◌, ◌+◌, ◌<◌, ℕ, Bool, false, not, List, [], ◌∷◌, ◌++◌, Option, Some, None, Result, Ok, Err, drop, if◌then◌else◌, is_some, map, min, nat_le, option_map, ⊤, All}
use Rattle.std.specs.List.{list_any}
use Rattle.std.specs.Option.{option_map_or}
use Rattle.std.specs.Str.{bytes_eq}
use Rattle.a429_cert.specs.Lines.{line_at, lines_of}
use Rattle.a429_cert.specs.Reading.{bound_line, group_line, output_line, plan_line, rate_line}
use Rattle.a429_cert.specs.Spelling.{Heading, Listing}
use Rattle.a429_cert.specs.Views.{heading}
use Rattle.a429_equipment.specs.TableRecord.{TableRecord}
use Rattle.a429_equipment.specs.declared.rows.GroupRow.{GroupRow}
use Rattle.a429_keep.specs.declared.fault.KeepReason.{KeepReason}
use Rattle.a429_keep.specs.declared.fault.KeepReason.TheVariants as reasons
use Rattle.a429_keep.specs.declared.fault.KeepFault.{KeepFault}
use Rattle.a429_keep.specs.declared.fault.KeepFault.TheVariants as faults
use Rattle.a429_keep.specs.declared.fault.LineStop.{LineStop}
use Rattle.a429_keep.specs.declared.fault.LineStop.TheVariants as stops
use Rattle.a429_keep.specs.declared.reading.Reading.{Reading}
use Rattle.a429_keep.specs.declared.rows.Row.{Row}
use Rattle.a429_keep.specs.declared.reading.TextForm.{TextForm}
use Rattle.a429_keep.specs.Rows.{Listed, row_view, shares_cells}

-- what was read so far: the first line of the group whose lines come, and the outputs
pub record Read : Type 0 where
  pub heading : Option Heading
  pub rows : List Listed

-- as the code holds it
abbrev pub read_of : Reading → Read
read_of r = record { heading = option_map heading r.heading; rows = map row_view r.rows.items }

-- the bit rate that a line says, or that of all groups
abbrev pub rate_of : Option ℕ → Option ℕ → Option ℕ
rate_of None all = all
rate_of own all = own

-- the group has this name and another bit rate
abbrev pub has_other_rate : List ℕ → Option ℕ → GroupRow → Bool
has_other_rate name rate g = option_map_or (λ said. not (g.rate == said) && bytes_eq g.name name) rate false

-- what is wrong with the first line of a group
abbrev pub against_heading : TableRecord → TextForm → Heading → Option KeepReason
against_heading e f said = if list_any (has_other_rate said.name (rate_of said.rate f.rate)) e.groups then Some reasons.Rate else None

-- what is wrong with an output, after these
abbrev pub against_output : Listed → List Listed → Option KeepReason
against_output row rows =
    if nat_le row.said.period row.said.offset then Some reasons.Place
    else (if list_any (shares_cells row) rows then Some reasons.Shared else None)

-- unless something is wrong
abbrev pub unless : Option KeepReason → Read → Result Read KeepReason
unless None r = Ok r
unless (Some reason) r = Err reason

abbrev pub after_heading : TableRecord → TextForm → Read → Heading → Result Read KeepReason
after_heading e f r said = unless (against_heading e f said) (record { heading = Some said; rows = r.rows })

abbrev pub after_row : Read → Listed → Result Read KeepReason
after_row r row = unless (against_output row r.rows) (record { heading = r.heading; rows = r.rows ++ row ∷ [] })

-- an output belongs to the group whose lines come
abbrev pub after_output : Read → Listing → Result Read KeepReason
after_output r said = option_map_or (λ h. after_row r (record { group = h.name; said = said })) r.heading (Err reasons.Form)

-- the last line of a group says nothing that is needed
abbrev pub after_other : Read → List ℕ → Result Read KeepReason
after_other r line = if is_some (bound_line line) then Ok r else Err reasons.Form

abbrev pub after_line : TableRecord → TextForm → Read → List ℕ → Result Read KeepReason
after_line e f r line =
    option_map_or (after_heading e f r) (group_line f.version line) (option_map_or (after_output r) (output_line f.version line) (after_other r line))

-- the number of the line that is refused: that which says the bit rate, if it is another one
abbrev pub line_of : TextForm → KeepReason → ℕ → ℕ
line_of f reasons.Rate number = if is_some f.rate then 2 else number
line_of f _ number = number

abbrev pub refused : TextForm → ℕ → KeepReason → Result (List Listed) KeepFault
refused f number reason = Err (faults.Line (line_of f reason number) reason)

-- what comes after a line
abbrev pub go_on : TextForm → ℕ → (Read → Result (List Listed) KeepFault) → Result Read KeepReason → Result (List Listed) KeepFault
go_on f number next (Ok r) = next r
go_on f number next (Err reason) = refused f number reason

-- the number of the next line; a text has fewer than 2^64 of them
abbrev pub number_after : ℕ → ℕ
number_after number = min (number + 1) 18446744073709551615

-- the outputs in these lines, the first of which has this number
unfoldable pub rows_in : TableRecord → TextForm → ℕ → Read → List (List ℕ) → Result (List Listed) KeepFault
rows_in e f number r [] = Ok r.rows
rows_in e f number r (line ∷ lines) = go_on f number (λ next. rows_in e f (number_after number) next lines) (after_line e f r line)

abbrev pub nothing_read : Read
nothing_read = record { heading = None; rows = [] }

-- before which none was read
abbrev pub rows_from : TableRecord → TextForm → ℕ → List (List ℕ) → Result (List Listed) KeepFault
rows_from e f first lines = rows_in e f first nothing_read lines

-- version 1 has the bit rate of all groups in its second line, the first of these
abbrev pub by_rate : TableRecord → List (List ℕ) → Option ℕ → Result (List Listed) KeepFault
by_rate e lines None = Err (faults.Line 2 reasons.Form)
by_rate e lines (Some rate) = rows_from e (record { version = 1; rate = Some rate }) 3 (drop 1 lines)

abbrev pub after_rate : TableRecord → List (List ℕ) → Result (List Listed) KeepFault
after_rate e lines = by_rate e lines (rate_line (line_at lines 0))

-- the lines after the first, which says the version
abbrev pub by_version : TableRecord → List (List ℕ) → Option ℕ → Result (List Listed) KeepFault
by_version e lines None = Err (faults.Line 1 reasons.Form)
by_version e lines (Some version) =
    if version == 2 then rows_from e (record { version = 2; rate = None }) 2 lines
    else (if version == 1 then after_rate e lines else Err (faults.Line 1 reasons.Form))

-- the outputs that a text lists, or its first line that is refused
abbrev pub reading : TableRecord → List ℕ → Result (List Listed) KeepFault
reading e text = by_version e (drop 1 (lines_of text)) (plan_line (line_at (lines_of text) 0))

-- ---- in contracts

-- a line was taken, or is refused, or an allocation failed
abbrev pub TakesLine : Result Read KeepReason → Read → Result ⊤ LineStop → Type 0
TakesLine due new (Ok _) = due ≡ Ok new
TakesLine due new (Err (stops.Refused reason)) = due ≡ Err reason
TakesLine due new (Err stops.Memory) = ⊤

-- why the reading ends at a line
abbrev pub fault_at : TextForm → ℕ → LineStop → KeepFault
fault_at f number (stops.Refused reason) = faults.Line (line_of f reason number) reason
fault_at f number stops.Memory = faults.NoMemory

-- a line is refused as it is due, or an allocation failed
abbrev pub IsReadFault : Result (List Listed) KeepFault → KeepFault → Type 0
IsReadFault due faults.NoMemory = ⊤
IsReadFault due (faults.Line line reason) = due ≡ Err (faults.Line line reason)

-- each period is one
abbrev pub HavePeriods : List Row → Type 0
HavePeriods rows = All (λ r. 0 < r.said.period) rows
