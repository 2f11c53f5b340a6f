-- The outputs of a group, and the lines that give them their places (vocabulary of contracts).
use Rattle.std.specs.Prelude.{◌≡◌, ◌<◌, ◌+◌, ℕ, zero, suc, Bool, false, List, Some, drop, length, map, slice_get, slice_set}
use Rattle.std.specs.List.{zip}
use Rattle.std.specs.Option.{option_map_or}
use Rattle.std.specs.Str.{bytes_eq}
use Rattle.a429_equipment.specs.TableRecord.{TableRecord}
use Rattle.a429_equipment.specs.declared.rows.GroupRow.{GroupRow}
use Rattle.a429_equipment.specs.declared.rows.OutputRow.{OutputRow}
use Rattle.a429_equipment.specs.declared.rows.SourceRow.{SourceRow}
use Rattle.a429_slots.specs.declared.group_plan.SlotPlace.{SlotPlace}
use Rattle.a429_slots.specs.Moves.{AreFor, HaveCommonCell, IsMoved, place_in}
use Rattle.a429_slots.specs.Proposed.{Proposed}
use Rattle.a429_slots.specs.Tables.{SlotTable, groups_of, outputs_of}
use Rattle.a429_cert.specs.Judged.{StateFewest, StatesFewest}
use Rattle.a429_cert.specs.Lines.{line_at, lines_of}
use Rattle.a429_cert.specs.Reading.{output_line}
use Rattle.a429_cert.specs.Spelling.{Listing}
use Rattle.a429_cert.specs.declared.lines.Lines.{Lines}
use Rattle.a429_keep.specs.Followed.{AreStatedTables, IsStatedTable}

-- ---- one line

-- the row is that of a source of this name
abbrev pub has_source_name : List SourceRow → List ℕ → OutputRow → Bool
has_source_name sources name row = option_map_or (λ s. bytes_eq s.name name) (slice_get sources row.source) false

-- output o of a group is that of the source of this name
pub record IsOutputNamed (sources : List SourceRow) (rows : List OutputRow) (name : List ℕ) (o : ℕ) : Type 0 where
  pub row : OutputRow
  pub source : SourceRow
  pub there : slice_get rows o ≡ Some row
  pub its_source : slice_get sources row.source ≡ Some source
  pub named : source.name ≡ name

-- the line names an output of the group, with one of 16 buses and an offset of a frame
pub record ListsOutput (version : ℕ) (sources : List SourceRow) (rows : List OutputRow) (line : List ℕ) : Type 0 where
  pub listing : Listing
  pub read : output_line version line ≡ Some listing
  pub output : ℕ
  pub known : IsOutputNamed sources rows listing.source output
  pub bus : listing.bus < 16
  pub offset : listing.offset < 8192

-- the bus and the offset that a line states, at the period of an output
abbrev pub listed_place : SlotPlace → Listing → SlotPlace
listed_place p l = record { bus = l.bus; offset = l.offset; period = p.period }

-- output o, which the line names, gets the place that the line states
pub record IsSetByLine (version : ℕ) (sources : List SourceRow) (rows : List OutputRow) (line : List ℕ) (old new : List SlotPlace) (o : ℕ) : Type 0 where
  pub listing : Listing
  pub read : output_line version line ≡ Some listing
  pub known : IsOutputNamed sources rows listing.source o
  pub set : new ≡ slice_set old o (listed_place (place_in old o) listing)

-- the first n lines do so, one after another
abbrev pub AreSetByLines : ℕ → List SourceRow → List OutputRow → List (List ℕ) → List SlotPlace → ℕ → List SlotPlace → Type 0
AreSetByLines version sources rows lines old zero new = new ≡ old
AreSetByLines version sources rows lines old (suc n) new =
    (before : List SlotPlace) × (o : ℕ) × AreSetByLines version sources rows lines old n before × IsSetByLine version sources rows (line_at lines n) before new o

-- the lines of a group's outputs give them these places, from those of its own slot table
abbrev pub ArePlacesByLines : ℕ → List SourceRow → List OutputRow → List (List ℕ) → SlotTable → List SlotPlace → Type 0
ArePlacesByLines version sources rows lines t places = AreSetByLines version sources rows lines (map (λ o. o.place) (outputs_of t)) (length rows) places

-- ---- one group

-- the lines that are left
abbrev pub rest_lines : Lines → List (List ℕ)
rest_lines l = lines_of l.rest.now

-- the lines state a plan of group k, on the fewest buses
pub record StatesGroup (e : TableRecord) (k : ℕ) (lines : List (List ℕ)) : Type 0 where
  pub group : GroupRow
  pub rows : List OutputRow
  pub row : slice_get e.groups k ≡ Some group
  pub outputs : slice_get e.outputs k ≡ Some rows
  pub states : StatesFewest e group rows lines

-- the outputs of group k can have these places, and then its slot table is the one that the lines state; the lines of the other groups are left
pub record AreGroupPlaces (p : Proposed) (k : ℕ) (lines left : List (List ℕ)) (places : List SlotPlace) : Type 0 where
  pub group : GroupRow
  pub rows : List OutputRow
  pub own : SlotTable
  pub row : slice_get p.station.groups k ≡ Some group
  pub outputs : slice_get p.station.outputs k ≡ Some rows
  pub there : slice_get (groups_of p.plan) k ≡ Some own
  pub fit : AreFor p.plan k places
  pub apart : HaveCommonCell places → ⊥
  pub stated : (t : SlotTable) → IsMoved own t places → IsStatedTable p.station group rows lines t
  pub rest : left ≡ drop (length rows + 2) lines

-- group k has the slot table that the lines state, and the others are what they were; the lines of the other groups are left
pub record IsGroupFollowed (p q : Proposed) (k : ℕ) (lines left : List (List ℕ)) : Type 0 where
  pub station : q.station ≡ p.station
  pub group : GroupRow
  pub rows : List OutputRow
  pub table : SlotTable
  pub row : slice_get p.station.groups k ≡ Some group
  pub outputs : slice_get p.station.outputs k ≡ Some rows
  pub stated : IsStatedTable p.station group rows lines table
  pub groups : groups_of q.plan ≡ slice_set (groups_of p.plan) k table
  pub rest : left ≡ drop (length rows + 2) lines

-- ---- all groups

-- the lines state a plan of each group, on the fewest buses
abbrev pub StateGroups : TableRecord → List (List ℕ) → Type 0
StateGroups e lines = StateFewest e (zip e.groups e.outputs) lines

-- the slot tables are those that the lines state
abbrev pub AreTablesByLines : TableRecord → List SlotTable → List (List ℕ) → Type 0
AreTablesByLines e tables lines = AreStatedTables e (zip e.groups e.outputs) tables lines
