-- The groups of a plan, and the outputs of a group: what the sheets on a plan are made of.
use Rattle.std.specs.Prelude.{◌≡◌, ◌<◌, ◌≤◌, ℕ, List, [], Option, None, get_or, length}
use Rattle.std.specs.List.{AllByRecursion, flat_map, range_with_len}
use Rattle.a429_equipment.specs.Sound.{IsInterval, IsRate}
use Rattle.a429_equipment.specs.TableRecord.{TableRecord, outputs_in}
use Rattle.a429_equipment.specs.declared.rows.GroupRow.{GroupRow}
use Rattle.a429_equipment.specs.declared.rows.OutputRow.{OutputRow}
use Rattle.a429_equipment.specs.declared.rows.ReceiverRow.{ReceiverRow}
use Rattle.a429_equipment.specs.declared.rows.SourceRow.{SourceRow}
use Rattle.a429_slots.specs.declared.group_plan.SendLimits.{SendLimits}
use Rattle.a429_slots.specs.declared.group_plan.SlotPlace.{SlotPlace}
use Rattle.a429_slots.specs.Planned.{IsPlannedFor}
use Rattle.a429_slots.specs.Tables.{SlotTable, PlanTable, groups_of, no_table, outputs_of, placed_at}
use Rattle.a429_documents.specs.Drawing.{first_drawn, groups_drawn}

-- ---- a group

-- a group of a plan: its table, its row there, the rows of its outputs, and its slot table
pub record PlannedGroup : Type 0 where
  pub station : TableRecord
  pub row : GroupRow
  pub rows : List OutputRow
  pub table : SlotTable

-- the row that a read past the last group gives
abbrev pub no_group : GroupRow
no_group = record { name = []; rate = 0 }

-- the group with this number
unfoldable pub group_at : TableRecord → PlanTable → ℕ → PlannedGroup
group_at e p n =
    record { station = e; row = get_or e.groups n no_group; rows = outputs_in e n; table = get_or (groups_of p) n no_table }

-- ---- an output

-- an output of a group: the receivers of its table, its group, its source, its row, its place, and the limits of its sends
pub record PlannedOutput : Type 0 where
  pub receivers : List ReceiverRow
  pub group : GroupRow
  pub source : SourceRow
  pub row : OutputRow
  pub place : SlotPlace
  pub limits : SendLimits

-- the rows that reads past the last source and the last output give
abbrev pub no_source : SourceRow
no_source = record { name = []; receiver = 0; label = 0; sdi = None }

abbrev pub no_output : OutputRow
no_output = record { source = 0; min_us = 0; max_us = 0; hold = None }

-- the output with this number
unfoldable pub output_at : PlannedGroup → ℕ → PlannedOutput
output_at g o =
    record {
      receivers = g.station.receivers;
      group = g.row;
      source = get_or g.station.sources (placed_at g.table o).source no_source;
      row = get_or g.rows o no_output;
      place = (placed_at g.table o).place;
      limits = (placed_at g.table o).limits;
    }

-- ---- all of them

-- what the groups of a plan give, one group or all in table order
abbrev pub of_groups : {X : Type 0} → (PlannedGroup → List X) → TableRecord → PlanTable → Option ℕ → List X
of_groups f e p group = flat_map (λ n. f (group_at e p n)) (range_with_len (first_drawn group) (groups_drawn group p))

-- what the outputs of a group give, in table order
abbrev pub of_outputs : {X : Type 0} → (PlannedOutput → List X) → PlannedGroup → List X
of_outputs f g = flat_map (λ o. f (output_at g o)) (range_with_len 0 (length (outputs_of g.table)))

-- ---- what is true of a group of a plan

-- It has a bit rate, sources and intervals in range, an output, and a slot table that is planned for it.
pub record IsPlannedGroup (g : PlannedGroup) : Type 0 where
  pub rate : IsRate g.row.rate
  pub some : 1 ≤ length g.rows
  pub listed : length g.rows ≡ length (outputs_of g.table)
  pub known : AllByRecursion (λ o. o.source < length g.station.sources) (outputs_of g.table)
  pub intervals : AllByRecursion IsInterval g.rows
  pub planned : IsPlannedFor g.row.rate g.station.sources g.rows g.table
