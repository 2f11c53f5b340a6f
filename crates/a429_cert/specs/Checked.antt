-- A plan that a text states for a group, and that was checked against the rows of an equipment table (profile: docs/RULES.md, Plans).
use Rattle.std.specs.Prelude.{◌≡◌, ◌≢◌, ℕ, ◌+◌, ◌-◌, ◌*◌, ◌/◌, ◌%◌, ◌<◌, ◌≤◌, List, [], ◌∷◌, ◌++◌, length, Contains, Some, take, drop, slice_get}
use Rattle.std.specs.List.{AllByRecursion, flat_map, filter_map, sum_by}
use Rattle.a429_grid.specs.Grid.{IsGridPeriod}
use Rattle.a429_equipment.specs.TableRecord.{TableRecord}
use Rattle.a429_equipment.specs.declared.rows.GroupRow.{GroupRow}
use Rattle.a429_equipment.specs.declared.rows.OutputRow.{OutputRow}
use Rattle.a429_equipment.specs.declared.rows.SourceRow.{SourceRow}
use Rattle.a429_cert.specs.Spelling.{Heading, Listing, Bounding, said_in, group_text, output_text, bound_text}
use Rattle.a429_cert.specs.Reading.{group_line, output_line, bound_line}
use Rattle.a429_cert.specs.Lines.{line_at}

-- what a text states for a group
pub record Stated : Type 0 where
  pub heading : Heading
  pub outputs : List Listing
  pub bound : Bounding

abbrev pub stated_text : Stated → List ℕ
stated_text s = group_text s.heading ++ (flat_map output_text s.outputs ++ bound_text s.bound)

-- the output is in this cell
pub record Fills (l : Listing) (bus slot : ℕ) : Type 0 where
  pub on_bus : bus ≡ l.bus
  pub at_offset : slot % l.period ≡ l.offset

-- no cell has both outputs
abbrev pub CellsAreApart : Listing → Listing → Type 0
CellsAreApart k l = (bus slot : ℕ) → Fills k bus slot → Fills l bus slot → ⊥

-- R is true of each element and each later one
abbrev pub EachPair : (Listing → Listing → Type 0) → List Listing → Type 0
EachPair R [] = Unit {0}
EachPair R (l ∷ ls) = AllByRecursion (R l) ls × EachPair R ls

-- h slots are the greatest of the grid periods of these outputs
pub record IsGreatestPeriod (rate : ℕ) (rows : List OutputRow) (h : ℕ) : Type 0 where
  pub none_above : (row : OutputRow) (p : ℕ) → Contains rows row → IsGridPeriod row.min_us row.max_us rate p → p ≤ h
  pub row : OutputRow
  pub there : Contains rows row
  pub has : IsGridPeriod row.min_us row.max_us rate h

-- the line lists one of these outputs by the name of its source, with its grid period, within the frame, and in version 2 with its hold
pub record IsPlaced (e : TableRecord) (rate : ℕ) (rows : List OutputRow) (buses : ℕ) (l : Listing) : Type 0 where
  pub row : OutputRow
  pub source : SourceRow
  pub there : Contains rows row
  pub its_source : slice_get e.sources row.source ≡ Some source
  pub name : l.source ≡ source.name
  pub period : IsGridPeriod row.min_us row.max_us rate l.period
  pub hold : l.hold ≡ said_in e.version row.hold
  pub bus : l.bus < buses
  pub offset : l.offset < l.period

-- how many cells the listed outputs fill in a frame
abbrev pub stated_demand : Stated → ℕ
stated_demand s = sum_by (λ l. s.heading.frame / l.period) s.outputs

-- The plan that is stated for a group of the table: the frame is the greatest grid period, and each output is listed
-- once in cells of its own. The demand of the outputs fills at most all buses, and more than all but the last. In
-- version 2 the group's bit rate is stated too.
pub record IsChecked (e : TableRecord) (group : GroupRow) (rows : List OutputRow) (s : Stated) : Type 0 where
  pub name : s.heading.name ≡ group.name
  pub rate : s.heading.rate ≡ said_in e.version group.rate
  pub greatest : IsGreatestPeriod group.rate rows s.heading.frame
  pub some_bus : 1 ≤ s.heading.buses
  pub few_buses : s.heading.buses ≤ 16
  pub count : length s.outputs ≡ length rows
  pub placed : AllByRecursion (IsPlaced e group.rate rows s.heading.buses) s.outputs
  pub once : EachPair (λ k l. k.source ≢ l.source) s.outputs
  pub apart : EachPair CellsAreApart s.outputs
  pub above : (s.heading.buses - 1) * s.heading.frame < stated_demand s
  pub within : stated_demand s ≤ s.heading.buses * s.heading.frame
  pub bound : s.bound ≡ record { demand = stated_demand s; full_buses = s.heading.buses - 1; frame = s.heading.frame }

-- the lines of a group state a checked plan
pub record StatesPlan (e : TableRecord) (group : GroupRow) (rows : List OutputRow) (lines : List (List ℕ)) : Type 0 where
  pub stated : Stated
  pub heading : group_line e.version (line_at lines 0) ≡ Some stated.heading
  pub outputs : filter_map (output_line e.version) (take (length rows) (drop 1 lines)) ≡ stated.outputs
  pub bound : bound_line (line_at lines (length rows + 1)) ≡ Some stated.bound
  pub checked : IsChecked e group rows stated
