-- The sheets on a plan: their columns, and their rows group by group.
use Rattle.std.specs.Prelude.{⊤, ◌≤◌, ℕ, List, [], ◌∷◌, ◌++◌, IfSome, None, Option, Some, codes, if◌then◌else◌}
use Rattle.std.specs.Str.{bytes_eq}
use Rattle.a429_text.specs.Fields.{Field}
use Rattle.a429_equipment.specs.TableRecord.{TableRecord}
use Rattle.a429_slots.specs.Tables.{PlanTable}
use Rattle.a429_documents.specs.Buses.{buses_columns, group_rows as buses_of_group, in_rows}
use Rattle.a429_documents.specs.Document.{icd_columns, output_row as icd_row}
use Rattle.a429_documents.specs.Load.{group_rows as load_of_group, load_columns}
use Rattle.a429_documents.specs.PlanRows.{group_rows as plan_of_group, plan_columns}
use Rattle.a429_documents.specs.PlannedGroups.{PlannedGroup, PlannedOutput, of_groups, of_outputs}
use Rattle.a429_documents.specs.SlotBoard.{board_columns, board_group}
use Rattle.a429_documents.specs.SlotRows.{rows_in_frame, slot_columns}
use Rattle.a429_documents.specs.declared.sheets.PlanSheet.{PlanSheet}
use Rattle.a429_documents.specs.declared.sheets.PlanSheet.TheVariants.{Board, Buses, Icd, Load, Plan, Slots}

abbrev pub sheet_columns : PlanSheet → List (List ℕ)
sheet_columns Plan = plan_columns
sheet_columns (Icd keeps_zeros) = icd_columns
sheet_columns (Load limit) = load_columns
sheet_columns (Slots all) = slot_columns
sheet_columns Board = board_columns
sheet_columns Buses = buses_columns

-- the rows before those of the groups: of `buses`, the words that come in
abbrev pub first_rows : PlanSheet → TableRecord → List (List Field)
first_rows Buses e = in_rows e
first_rows _ e = []

-- the rows of an output, of a sheet that has some for each
abbrev pub output_rows : PlanSheet → PlannedOutput → List (List Field)
output_rows (Icd keeps_zeros) o = icd_row keeps_zeros o ∷ []
output_rows _ o = []

-- the rows of a group
abbrev pub group_rows : PlanSheet → PlannedGroup → List (List Field)
group_rows Plan g = plan_of_group g
group_rows (Load limit) g = load_of_group limit g
group_rows (Slots all) g = rows_in_frame all g
group_rows Board g = board_group g
group_rows Buses g = buses_of_group g
group_rows (Icd keeps_zeros) g = of_outputs (output_rows (Icd keeps_zeros)) g

-- the rows of a plan, of one group or of all in table order
abbrev pub sheet_rows : PlanSheet → TableRecord → PlanTable → Option ℕ → List (List Field)
sheet_rows sheet e p group = first_rows sheet e ++ of_groups (group_rows sheet) e p group

-- a limit is in per cent
abbrev pub HasLimit : PlanSheet → Type 0
HasLimit (Load limit) = IfSome limit (λ limit. (1 ≤ limit) × (limit ≤ 100))
HasLimit _ = ⊤

-- the sheet of this name, of those that take nothing else
abbrev pub sheet_named : List ℕ → Option PlanSheet
sheet_named name = if bytes_eq name (codes "buses") then Some Buses else None
