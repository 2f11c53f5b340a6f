-- A plan as a sheet: a row for each output (profile: docs/FORMATS.md, Plan text).
use Rattle.std.specs.Prelude.{ℕ, ◌^◌, List, [], ◌∷◌, ◌++◌, None, codes, map, sum}
use Rattle.a429_text.specs.Fields.{Field, Text, Number}
use Rattle.a429_equipment.specs.TableRecord.{TableRecord}
use Rattle.a429_slots.specs.Tables.{PlanTable, buses_of, demands_of, frame_of, order_of}
use Rattle.a429_documents.specs.Document.{limit_field}
use Rattle.a429_documents.specs.PlannedGroups.{PlannedGroup, PlannedOutput, of_groups, output_at}

-- ---- the columns

-- the version of the table; the group with its bit rate in bit/s, its frame in slots, its buses, and its demand in cells of a frame
abbrev pub group_columns : List (List ℕ)
group_columns = codes "version" ∷ codes "group" ∷ codes "rate" ∷ codes "frame_slots" ∷ codes "buses" ∷ codes "cells" ∷ []

-- the source of the output, its period in slots, its bus and its offset, and its hold
abbrev pub listed_columns : List (List ℕ)
listed_columns = codes "source" ∷ codes "period_slots" ∷ codes "bus" ∷ codes "offset" ∷ codes "hold" ∷ []

abbrev pub plan_columns : List (List ℕ)
plan_columns = group_columns ++ listed_columns

-- ---- the rows

abbrev pub group_fields : PlannedGroup → List Field
group_fields g =
    Number g.station.version ∷ Text g.row.name ∷ Number g.row.rate ∷ Number (frame_of g.table) ∷ Number (buses_of g.table) ∷ Number (sum (demands_of g.table)) ∷ []

abbrev pub listed_fields : PlannedOutput → List Field
listed_fields o =
    Text o.source.name ∷ Number (2 ^ o.place.period) ∷ Number o.place.bus ∷ Number o.place.offset ∷ limit_field o.limits.hold ∷ []

-- the row of an output of a group
abbrev pub plan_row : PlannedGroup → PlannedOutput → List Field
plan_row g o = group_fields g ++ listed_fields o

-- the outputs of a group, in layout order
abbrev pub group_rows : PlannedGroup → List (List Field)
group_rows g = map (λ o. plan_row g (output_at g o)) (order_of g.table)

-- group by group, in table order
abbrev pub plan_rows : TableRecord → PlanTable → List (List Field)
plan_rows e p = of_groups group_rows e p None
