-- Each row of a slot table is a cell.
use Rattle.std.proofs.Common.{◌≡◌, ℕ, ◌+◌, ◌<◌, ◌≤◌, List, [], ◌∷◌, length, Option, Some, None, false, subst, arith, inl, inr}
use Rattle.std.specs.List.{IsAmong}
use Rattle.std.specs.Option.{option_map_or}
use Rattle.std.proofs.lemmas.Bool.{cases_lt}
use Rattle.std.proofs.Math.ListN.{get_or-eq_default}
use Rattle.a429_text.specs.Fields.{Field}
use Rattle.a429_equipment.specs.TableRecord.{TableRecord}
use Rattle.a429_slots.specs.Tables.{SlotTable, PlanTable, buses_of, cell_at, frame_of, groups_of, no_table}
use Rattle.a429_documents.specs.Drawing.{IsDrawn, first_drawn, groups_drawn}
use Rattle.a429_documents.specs.PlannedGroups.{PlannedGroup, group_at, output_at}
use Rattle.a429_documents.specs.SlotRows.{IsRowOfCell, SlotRowsAreCells, cell_rows, filled_row, rows_in_frame, rows_in_slot, slot_rows}
use Rattle.a429_documents.proofs.Among.{at_head, from_each, from_head, from_some, in_each, in_some, nothing_there}

module _ (e : TableRecord) (p : PlanTable) (group : Option ℕ) (row : List Field) where
  -- the row of a cell, without those of empty cells
  from_cell : (f : ℕ → List Field) (o : Option ℕ) → IsAmong (option_map_or (λ o. f o ∷ []) o []) row → (n : ℕ) × (o ≡ Some n) × (row ≡ f n)
  from_cell f o h =
      let some = from_some row (λ o. f o ∷ []) o h in
      elim (from_head row (f some.0) [] some.2) [
        | inl is ↦ (some.0, some.1, is)
        | inr none ↦ absurd (nothing_there row none)
      ]

  in_cell : (f : ℕ → List Field) (o : Option ℕ) (n : ℕ) → o ≡ Some n → row ≡ f n → IsAmong (option_map_or (λ o. f o ∷ []) o []) row
  in_cell f o n there is = in_some row (λ o. f o ∷ []) o n there (at_head row (f n) [] is)

  of_cell : (g : PlannedGroup) (slot bus : ℕ) → IsAmong (cell_rows false g slot bus) row → (n : ℕ) × (cell_at g.table bus slot ≡ Some n) × (row ≡ filled_row slot bus (output_at g n))
  unfolding cell_rows
  of_cell g slot bus h = from_cell (λ n. filled_row slot bus (output_at g n)) (cell_at g.table bus slot) h

  has_cell : (g : PlannedGroup) (slot bus n : ℕ) → cell_at g.table bus slot ≡ Some n → row ≡ filled_row slot bus (output_at g n) → IsAmong (cell_rows false g slot bus) row
  unfolding cell_rows
  has_cell g slot bus n there is = in_cell (λ n. filled_row slot bus (output_at g n)) (cell_at g.table bus slot) n there is

  -- a group with a bus is one of the plan
  is_known : (n bus : ℕ) → bus < buses_of (group_at e p n).table → n < length (groups_of p)
  unfolding group_at
  is_known n bus some = elim (cases_lt n (length (groups_of p))) [
    | inl below ↦ below
    | inr past ↦ absurd (omega (arith, subst (λ (t : SlotTable). bus < buses_of t) (get_or-eq_default (groups_of p) no_table past) some))
  ]

  -- the groups that are asked for, by their numbers
  is_asked : (group : Option ℕ) (k : ℕ) → first_drawn group ≤ k → k < first_drawn group + groups_drawn group p → IsDrawn group k
  is_asked None k least most = tt
  is_asked (Some group) k least most = omega (arith, least, most)

  asked_within : (group : Option ℕ) (k : ℕ) → IsDrawn group k → k < length (groups_of p) → (first_drawn group ≤ k) × (k < first_drawn group + groups_drawn group p)
  asked_within None k asked below = (omega arith, omega (arith, below))
  asked_within (Some group) k asked below = (omega (arith, asked), omega (arith, asked))

  is_cell : IsAmong (slot_rows e p group false) row → IsRowOfCell e p group row
  is_cell h =
      let number = from_each row (λ n. rows_in_frame false (group_at e p n)) (first_drawn group) (groups_drawn group p) h in
      let g : PlannedGroup = group_at e p number.0 in
      let slot = from_each row (rows_in_slot false g) 0 (frame_of g.table) number.3 in
      let bus = from_each row (cell_rows false g slot.0) 0 (buses_of g.table) slot.3 in
      let cell = of_cell g slot.0 bus.0 bus.3 in
      let in_group : bus.0 < buses_of g.table = omega (arith, bus.2) in
      record {
        number = number.0;
        asked = is_asked group number.0 number.1 number.2;
        known = is_known number.0 bus.0 in_group;
        slot = slot.0;
        in_frame = omega (arith, slot.2);
        bus = bus.0;
        in_group = in_group;
        output = cell.0;
        filled = cell.1;
        is = cell.2;
      }

  is_listed : IsRowOfCell e p group row → IsAmong (slot_rows e p group false) row
  is_listed c =
      let g : PlannedGroup = group_at e p c.number in
      let within = asked_within group c.number c.asked c.known in
      let here : IsAmong (cell_rows false g c.slot c.bus) row = has_cell g c.slot c.bus c.output c.filled c.is in
      let slot : IsAmong (rows_in_slot false g c.slot) row = in_each row (cell_rows false g c.slot) 0 (buses_of g.table) c.bus (omega arith) (omega (arith, c.in_group)) here in
      let frame : IsAmong (rows_in_frame false g) row = in_each row (rows_in_slot false g) 0 (frame_of g.table) c.slot (omega arith) (omega (arith, c.in_frame)) slot in
      in_each row (λ n. rows_in_frame false (group_at e p n)) (first_drawn group) (groups_drawn group p) c.number within.0 within.1 frame

pub slot_rows_are_cells : SlotRowsAreCells
slot_rows_are_cells e p group row = (is_cell e p group row, is_listed e p group row)
