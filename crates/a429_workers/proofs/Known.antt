-- A plan of an equipment with as many sources sends no others.
use Rattle.std.proofs.Common.{◌≡◌, ℕ, ◌<◌, List, [], ◌∷◌, length, map, sym, subst}
use Rattle.std.specs.List.{AllByRecursion, AllZip, zip}
use Rattle.a429_equipment.specs.TableRecord.{TableRecord}
use Rattle.a429_equipment.specs.Sound.{IsSound}
use Rattle.a429_equipment.specs.declared.rows.OutputRow.{OutputRow}
use Rattle.a429_equipment.specs.declared.rows.SourceRow.{SourceRow}
use Rattle.a429_equipment.specs.declared.rows.GroupRow.{GroupRow}
use Rattle.a429_slots.specs.Tables.{SlotTable, PlanTable, groups_of, outputs_of}
use Rattle.a429_slots.specs.Planned.{IsPlannedAt, IsPlanOf}
use Rattle.a429_slots.proofs.Known.{served_known}
use Rattle.a429_workers.specs.Transmitting.{IsKnownPlan, IsKnownTable}

tables_known : (t : TableRecord) (sources : List SourceRow) (rates : List ℕ) (rowss : List (List OutputRow)) (ts : List SlotTable) → AllZip (IsPlannedAt sources) (zip rates rowss) ts
    → AllByRecursion (AllByRecursion (λ o. o.source < length t.sources)) rowss → AllByRecursion (IsKnownTable t) ts
tables_known t sources [] rowss [] planned known = tt
tables_known t sources [] rowss (u ∷ ts) planned known = absurd planned
tables_known t sources (rate ∷ rates) [] [] planned known = tt
tables_known t sources (rate ∷ rates) [] (u ∷ ts) planned known = absurd planned
tables_known t sources (rate ∷ rates) (rows ∷ rowss) [] planned known = absurd planned
tables_known t sources (rate ∷ rates) (rows ∷ rowss) (u ∷ ts) planned known =
    (served_known (length t.sources) rate rows (outputs_of u) planned.0.served known.0, tables_known t sources rates rowss ts planned.1 known.1)

pub plan_known : (t e : TableRecord) (p : PlanTable) → length t.sources ≡ length e.sources → IsSound e → IsPlanOf e p → IsKnownPlan t p
plan_known t e p same sound planned =
    tables_known t e.sources (map (λ (g : GroupRow). g.rate) e.groups) e.outputs (groups_of p) planned.groups
    (subst (λ (n : ℕ). AllByRecursion (AllByRecursion (λ o. o.source < n)) e.outputs) (sym same) sound.known_sources)
