-- A planned group sends no other sources than its rows name, and a plan none but those of its table.
use Rattle.std.proofs.Common.{◌≡◌, ℕ, zero, suc, ◌<◌, List, [], ◌∷◌, arith, length, map, subst}
use Rattle.std.specs.Prelude.{Some, slice_get}
use Rattle.std.specs.List.{AllByRecursion, AllZip, zip}
use Rattle.a429_equipment.specs.declared.rows.GroupRow.{GroupRow}
use Rattle.a429_equipment.specs.declared.rows.OutputRow.{OutputRow}
use Rattle.a429_equipment.specs.declared.rows.SourceRow.{SourceRow}
use Rattle.a429_equipment.specs.Sound.{IsSound}
use Rattle.a429_equipment.specs.TableRecord.{TableRecord}
use Rattle.a429_slots.specs.Tables.{Placed, SlotTable, PlanTable, groups_of, outputs_of}
use Rattle.a429_slots.specs.Planned.{IsServed, IsPlannedAt, IsPlanOf}

pub served_known : (n rate : ℕ) (rows : List OutputRow) (ps : List Placed) → AllZip (IsServed rate) rows ps → AllByRecursion (λ o. o.source < n) rows → AllByRecursion (λ p. p.source < n) ps
served_known n rate [] [] served known = tt
served_known n rate [] (p ∷ ps) served known = absurd served
served_known n rate (r ∷ rows) [] served known = absurd served
served_known n rate (r ∷ rows) (p ∷ ps) served known = (omega (arith, served.0.0, known.0), served_known n rate rows ps served.1 known.1)

known_in_group : (n i : ℕ) (sources : List SourceRow) (rates : List ℕ) (rowss : List (List OutputRow)) (ts : List SlotTable) (t : SlotTable) → AllZip (IsPlannedAt sources) (zip rates rowss) ts
    → AllByRecursion (AllByRecursion (λ o. o.source < n)) rowss → slice_get ts i ≡ Some t → AllByRecursion (λ p. p.source < n) (outputs_of t)
known_in_group n i sources rates rowss [] t planned known e = absurd cc
known_in_group n i sources [] rowss (u ∷ ts) t planned known e = absurd planned
known_in_group n i sources (rate ∷ rates) [] (u ∷ ts) t planned known e = absurd planned
known_in_group n zero sources (rate ∷ rates) (rows ∷ rowss) (u ∷ ts) t planned known e =
    let same : u ≡ t = cc in
    subst (λ (v : SlotTable). AllByRecursion (λ p. p.source < n) (outputs_of v)) same (served_known n rate rows (outputs_of u) planned.0.served known.0)
known_in_group n (suc i) sources (rate ∷ rates) (rows ∷ rowss) (u ∷ ts) t planned known e = known_in_group n i sources rates rowss ts t planned.1 known.1 e

pub sources_known : (e : TableRecord) (p : PlanTable) (i : ℕ) (t : SlotTable) → IsSound e → IsPlanOf e p → slice_get (groups_of p) i ≡ Some t → AllByRecursion (λ o. o.source < length e.sources) (outputs_of t)
sources_known e p i t sound planned there =
    known_in_group (length e.sources) i e.sources (map (λ (g : GroupRow). g.rate) e.groups) e.outputs (groups_of p) t planned.groups sound.known_sources there
