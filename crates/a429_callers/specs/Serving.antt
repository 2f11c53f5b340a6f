-- Schedules that serve the rows of an equipment table, and what a text states of them (profile: docs/RULES.md, Plans).
use Rattle.std.specs.Prelude.{◌≡◌, ◌≤◌, ℕ, List, Some, length, slice_get}
use Rattle.a429_grid.specs.Grid.{IsGridPeriod}
use Rattle.a429_pack.specs.Schedules.{Schedule, NamesBelow, RecursWithin}
use Rattle.a429_equipment.specs.TableRecord.{TableRecord}
use Rattle.a429_equipment.specs.declared.rows.GroupRow.{GroupRow}
use Rattle.a429_equipment.specs.declared.rows.OutputRow.{OutputRow}
use Rattle.a429_cert.specs.Spelling.{Heading}
use Rattle.a429_cert.specs.Reading.{group_line}
use Rattle.a429_cert.specs.Lines.{line_at, lines_of}

-- at this rate the interval of row o has the grid period of p slots
abbrev pub HasGridPeriod : ℕ → List OutputRow → ℕ → ℕ → Type 0
HasGridPeriod rate rows o p = (row : OutputRow) × (slice_get rows o ≡ Some row) × IsGridPeriod row.min_us row.max_us rate p

-- Each cell is empty or names one of the rows, and each row recurs within its grid period. The schedule has some slots, and is as long
-- as each of the periods.
pub record ServesRows (rate : ℕ) (rows : List OutputRow) (s : Schedule) : Type 0 where
  pub names : NamesBelow (length rows) s
  pub some : 1 ≤ s.slots
  pub long : (o p : ℕ) → HasGridPeriod rate rows o p → p ≤ s.slots
  pub recurs : (o p : ℕ) → HasGridPeriod rate rows o p → RecursWithin p o s

-- no schedule that serves the rows has fewer buses
abbrev pub NoneHasFewer : ℕ → List OutputRow → ℕ → Type 0
NoneHasFewer rate rows buses = (s : Schedule) → ServesRows rate rows s → buses ≤ s.rows

-- group g of a table, and its outputs
pub record HasGroup (e : TableRecord) (g : ℕ) (row : GroupRow) (rows : List OutputRow) : Type 0 where
  pub group : slice_get e.groups g ≡ Some row
  pub outputs : slice_get e.outputs g ≡ Some rows

-- no schedule that serves group g of a table has fewer buses
abbrev pub AreFewestOfGroup : TableRecord → ℕ → ℕ → Type 0
AreFewestOfGroup e g buses = (row : GroupRow) × (rows : List OutputRow) × HasGroup e g row rows × NoneHasFewer row.rate rows buses

-- a line of the text is the first of a group of this name, and says how many buses it has
pub record HasHeading (e : TableRecord) (text : List ℕ) (name : List ℕ) (h : Heading) : Type 0 where
  pub line : ℕ
  pub read : group_line e.version (line_at (lines_of text) line) ≡ Some h
  pub named : h.name ≡ name

-- for each group of the table the text has a line with its name and a number of buses; no schedule that serves the
-- group has fewer
abbrev pub StatesFewestBuses : TableRecord → List ℕ → Type 0
StatesFewestBuses e text =
    (g : ℕ) (row : GroupRow) (rows : List OutputRow) → HasGroup e g row rows
    → (h : Heading) × HasHeading e text row.name h × NoneHasFewer row.rate rows h.buses
