-- The slot tables of a plan as rows: the names of the columns, and a row for each cell that has an output
-- (profile: docs/FORMATS.md, Output of `slots`).
use Rattle.std.specs.Prelude.{◌≡◌, ◌<◌, ◌↔◌, ◌^◌, ℕ, Bool, false, List, [], ◌∷◌, ◌++◌, Option, Some, codes, if◌then◌else◌, length}
use Rattle.std.specs.List.{IsAmong, flat_map, range_with_len}
use Rattle.std.specs.Option.{option_map_or}
use Rattle.a429_text.specs.Fields.{Field, Text, Number}
use Rattle.a429_word.specs.Texts.{octal}
use Rattle.a429_equipment.specs.TableRecord.{TableRecord}
use Rattle.a429_equipment.specs.declared.rows.GroupRow.{GroupRow}
use Rattle.a429_equipment.specs.declared.rows.SourceRow.{SourceRow}
use Rattle.a429_slots.specs.declared.group_plan.SlotPlace.{SlotPlace}
use Rattle.a429_slots.specs.Tables.{PlanTable, buses_of, cell_at, frame_of, groups_of}
use Rattle.a429_slots.specs.Times.{slots_us}
use Rattle.a429_documents.specs.Document.{sdi_field}
use Rattle.a429_documents.specs.Drawing.{IsDrawn}
use Rattle.a429_documents.specs.Margins.{nothing}
use Rattle.a429_documents.specs.PlannedGroups.{PlannedGroup, PlannedOutput, group_at, of_groups, output_at}

-- ---- the columns

-- the cell, and its output
abbrev pub slot_columns : List (List ℕ)
slot_columns = codes "group" ∷ codes "slot" ∷ codes "time_us" ∷ codes "bus" ∷ codes "label" ∷ codes "sdi" ∷ codes "source" ∷ codes "period_slots" ∷ []

-- ---- the row of a cell

-- the cell: its group, its slot from the start of the frame, when that slot begins in microseconds from there, rounded up, and its bus
abbrev pub cell_fields : GroupRow → ℕ → ℕ → List Field
cell_fields g slot bus = Text g.name ∷ Number slot ∷ Number (slots_us g.rate slot) ∷ Number bus ∷ []

-- its output: the label, the SDI and the name of the source, and the period in slots
abbrev pub output_fields : SourceRow → SlotPlace → List Field
output_fields source place = Text (octal source.label) ∷ sdi_field source.sdi ∷ Text source.name ∷ Number (2 ^ place.period) ∷ []

-- the row of a cell with this output
abbrev pub filled_row : ℕ → ℕ → PlannedOutput → List Field
filled_row slot bus o = cell_fields o.group slot bus ++ output_fields o.source o.place

-- the row of an empty cell
abbrev pub empty_row : GroupRow → ℕ → ℕ → List Field
empty_row g slot bus = cell_fields g slot bus ++ nothing 4

-- the rows of a cell: one if it has an output; an empty cell has one if all cells are asked for
unfoldable pub cell_rows : Bool → PlannedGroup → ℕ → ℕ → List (List Field)
cell_rows all g slot bus =
    option_map_or (λ o. filled_row slot bus (output_at g o) ∷ []) (cell_at g.table bus slot) (if all then empty_row g.row slot bus ∷ [] else [])

-- ---- the rows of a plan

-- the rows of a slot, bus by bus
abbrev pub rows_in_slot : Bool → PlannedGroup → ℕ → List (List Field)
rows_in_slot all g slot = flat_map (cell_rows all g slot) (range_with_len 0 (buses_of g.table))

-- the rows of a group in sending order over one frame: slot by slot
abbrev pub rows_in_frame : Bool → PlannedGroup → List (List Field)
rows_in_frame all g = flat_map (rows_in_slot all g) (range_with_len 0 (frame_of g.table))

-- the rows of a plan, of one group or of all in table order
abbrev pub slot_rows : TableRecord → PlanTable → Option ℕ → Bool → List (List Field)
slot_rows e p group all = of_groups (rows_in_frame all) e p group

-- ---- each row is a cell

-- The row is that of a cell with an output. Its group is asked for, its slot is one of the frame, and its bus is one of the group.
pub record IsRowOfCell (e : TableRecord) (p : PlanTable) (group : Option ℕ) (row : List Field) : Type 0 where
  pub number : ℕ
  pub asked : IsDrawn group number
  pub known : number < length (groups_of p)
  pub slot : ℕ
  pub in_frame : slot < frame_of (group_at e p number).table
  pub bus : ℕ
  pub in_group : bus < buses_of (group_at e p number).table
  pub output : ℕ
  pub filled : cell_at (group_at e p number).table bus slot ≡ Some output
  pub is : row ≡ filled_row slot bus (output_at (group_at e p number) output)

-- Without the empty cells, a row is listed if and only if it is that of a cell with an output.
abbrev pub SlotRowsAreCells : Type 0
SlotRowsAreCells =
    (e : TableRecord) (p : PlanTable) (group : Option ℕ) (row : List Field) → IsAmong (slot_rows e p group false) row ↔ IsRowOfCell e p group row
