-- The first frames of a plan.
use Rattle.std.proofs.Common.{◌≡◌, ◌+◌, ◌^◌, ◌≤◌, ◌∷◌, [], ℕ, List, true, arith, refl}
use Rattle.std.specs.Prelude.{nat_lt}
use Rattle.std.specs.List.{AllZip}
use Rattle.std.proofs.lemmas.Bool.{lt-ltb}
use Rattle.a429_equipment.specs.TableRecord.{TableRecord}
use Rattle.a429_equipment.specs.declared.rows.OutputRow.{OutputRow}
use Rattle.a429_equipment.specs.declared.rows.SourceRow.{SourceRow}
use Rattle.a429_slots.specs.Planned.{IsPlanOf, IsPlannedAt, rated_outputs}
use Rattle.a429_slots.specs.Tables.{SlotTable, PlanTable, frame_of, groups_of}
use Rattle.a429_slots.specs.FrameStates.{all_fit}

fits_from_0 : (slots : ℕ) → slots ≤ 8192 → nat_lt (0 + slots) (2 ^ 64) ≡ true
fits_from_0 slots few = lt-ltb (0 + slots) (2 ^ 64) (omega (arith, few))

groups_fit : (sources : List SourceRow) (rated : List (ℕ × List OutputRow)) (groups : List SlotTable) → AllZip (IsPlannedAt sources) rated groups → all_fit 0 groups ≡ true
groups_fit sources [] [] planned = refl
groups_fit sources [] (t ∷ ts) planned = absurd planned
groups_fit sources (rows ∷ rated) [] planned = absurd planned
groups_fit sources (rows ∷ rated) (t ∷ ts) (one, later) = rw (fits_from_0 (frame_of t) one.few_slots) (groups_fit sources rated ts later)

-- they have few slots
pub plan_fits : (e : TableRecord) (p : PlanTable) → IsPlanOf e p → all_fit 0 (groups_of p) ≡ true
plan_fits e p planned = groups_fit e.sources (rated_outputs e) (groups_of p) planned.groups
