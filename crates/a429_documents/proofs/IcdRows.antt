-- The rows of `icd`, along the rows of the table and the outputs of the slot tables.
use Rattle.std.proofs.Common.{◌≡◌, ◌∙◌, ℕ, zero, suc, ◌+◌, Bool, List, [], ◌∷◌, ◌++◌, ap, ap₂, arith, get_or, length, map, refl}
use Rattle.std.specs.List.{AllZip, flat_map, range_with_len, zip}
use Rattle.a429_text.specs.Fields.{Field}
use Rattle.a429_equipment.specs.TableRecord.{TableRecord}
use Rattle.a429_equipment.specs.declared.rows.GroupRow.{GroupRow}
use Rattle.a429_equipment.specs.declared.rows.OutputRow.{OutputRow}
use Rattle.a429_slots.specs.Planned.{IsPlanOf, IsPlannedAt, IsServed}
use Rattle.a429_slots.specs.Tables.{Placed, SlotTable, PlanTable, groups_of, no_table, outputs_of, unplaced}
use Rattle.a429_documents.specs.Document.{group_rows, icd_row, icd_rows}
use Rattle.a429_documents.specs.PlannedGroups.{PlannedGroup, group_at, no_group, no_output, no_source, output_at}

-- the row of an output, by its row of the table and by what the slot table says of it
abbrev pub output_row : Bool → TableRecord → GroupRow → OutputRow → Placed → List Field
output_row keeps_zeros e g row placed = icd_row keeps_zeros e.receivers g (get_or e.sources row.source no_source) row placed.place placed.limits

abbrev pub output_rows : Bool → TableRecord → GroupRow → List OutputRow → List Placed → List (List Field)
output_rows keeps_zeros e g [] placed = []
output_rows keeps_zeros e g (row ∷ rows) [] = []
output_rows keeps_zeros e g (row ∷ rows) (placed ∷ others) = output_row keeps_zeros e g row placed ∷ output_rows keeps_zeros e g rows others

abbrev pub groups_rows : Bool → TableRecord → List GroupRow → List (List OutputRow) → List SlotTable → List (List Field)
groups_rows keeps_zeros e [] outputs ts = []
groups_rows keeps_zeros e (g ∷ groups) [] ts = []
groups_rows keeps_zeros e (g ∷ groups) (rows ∷ outputs) [] = []
groups_rows keeps_zeros e (g ∷ groups) (rows ∷ outputs) (t ∷ ts) = output_rows keeps_zeros e g rows (outputs_of t) ++ groups_rows keeps_zeros e groups outputs ts

shifted : {X : Type 0} (f : ℕ → List X) (s n : ℕ) → flat_map f (range_with_len (s + 1) n) ≡ flat_map (λ k. f (suc k)) (range_with_len s n)
shifted f s zero = refl
shifted f s (suc n) = let same : s + 1 ≡ suc s = omega arith in ap₂ (λ x xs. x ++ xs) (ap f same) (shifted f (s + 1) n)

module _ (keeps_zeros : Bool) (e : TableRecord) where
  abbrev row_at : GroupRow → List OutputRow → List Placed → ℕ → List Field
  row_at g rows placed o =
      icd_row keeps_zeros e.receivers g (get_or e.sources (get_or placed o unplaced).source no_source) (get_or rows o no_output) (get_or placed o unplaced).place (get_or placed o unplaced).limits

  outputs_are : (g : GroupRow) (rate : ℕ) (rows : List OutputRow) (placed : List Placed) → AllZip (IsServed rate) rows placed
      → flat_map (λ o. row_at g rows placed o ∷ []) (range_with_len 0 (length placed)) ≡ output_rows keeps_zeros e g rows placed
  outputs_are g rate [] [] served = refl
  outputs_are g rate [] (p ∷ placed) served = absurd served
  outputs_are g rate (row ∷ rows) [] served = refl
  outputs_are g rate (row ∷ rows) (p ∷ placed) served =
      ap₂ (λ (x : List Field) (xs : List (List Field)). x ∷ xs)
      (ap (λ (n : ℕ). icd_row keeps_zeros e.receivers g (get_or e.sources n no_source) row p.place p.limits) served.0.0)
      (shifted (λ o. row_at g (row ∷ rows) (p ∷ placed) o ∷ []) 0 (length placed) ∙ outputs_are g rate rows placed served.1)

  abbrev group_in : List GroupRow → List (List OutputRow) → List SlotTable → ℕ → PlannedGroup
  group_in groups outputs ts n = record { station = e; row = get_or groups n no_group; rows = get_or outputs n []; table = get_or ts n no_table }

  groups_are : (groups : List GroupRow) (outputs : List (List OutputRow)) (ts : List SlotTable) → AllZip (IsPlannedAt e.sources) (zip (map (λ (g : GroupRow). g.rate) groups) outputs) ts
      → flat_map (λ n. group_rows keeps_zeros (group_in groups outputs ts n)) (range_with_len 0 (length ts)) ≡ groups_rows keeps_zeros e groups outputs ts
  unfolding output_at
  groups_are [] outputs [] planned = refl
  groups_are [] outputs (t ∷ ts) planned = absurd planned
  groups_are (g ∷ groups) [] [] planned = refl
  groups_are (g ∷ groups) [] (t ∷ ts) planned = absurd planned
  groups_are (g ∷ groups) (rows ∷ outputs) [] planned = refl
  groups_are (g ∷ groups) (rows ∷ outputs) (t ∷ ts) planned =
      ap₂ (λ x xs. x ++ xs) (outputs_are g g.rate rows (outputs_of t) planned.0.served)
      (shifted (λ n. group_rows keeps_zeros (group_in (g ∷ groups) (rows ∷ outputs) (t ∷ ts) n)) 0 (length ts) ∙ groups_are groups outputs ts planned.1)

  pub icd_rows_are : (p : PlanTable) → IsPlanOf e p → icd_rows keeps_zeros e p ≡ groups_rows keeps_zeros e e.groups e.outputs (groups_of p)
  unfolding group_at
  icd_rows_are p planned = groups_are e.groups e.outputs (groups_of p) planned.groups
