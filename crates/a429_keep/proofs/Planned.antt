-- An output of a plan has a period.
use Rattle.std.proofs.Common.{◌≡◌, ◌^◌, ℕ, zero, suc, List, [], ◌∷◌, subst}
use Rattle.std.specs.Prelude.{Some, slice_get}
use Rattle.std.specs.List.{AllZip}
use Rattle.a429_equipment.specs.declared.rows.OutputRow.{OutputRow}
use Rattle.a429_equipment.specs.declared.rows.SourceRow.{SourceRow}
use Rattle.a429_equipment.specs.TableRecord.{TableRecord}
use Rattle.a429_grid.specs.Grid.{HasNoGridPeriod, IsGridPeriod}
use Rattle.a429_slots.specs.Tables.{Placed, PlanTable, SlotTable, groups_of, outputs_of}
use Rattle.a429_slots.specs.Planned.{IsFirstUnfit, IsPlanOf, IsPlannedAt, IsServed, rated_outputs}
use Rattle.a429_cert.specs.Due.{IsFirstUnfitOf}

served_has : (rate o : ℕ) (rows : List OutputRow) (ps : List Placed) (row : OutputRow) → AllZip (IsServed rate) rows ps → slice_get rows o ≡ Some row
    → HasNoGridPeriod row.min_us row.max_us rate → ⊥
served_has rate o [] ps row served there none = absurd cc
served_has rate o (r ∷ rows) [] row served there none = absurd served
served_has rate zero (r ∷ rows) (p ∷ ps) row served there none =
    let same : r ≡ row = cc in
    let has : IsGridPeriod row.min_us row.max_us rate (2 ^ p.place.period) = subst (λ (x : OutputRow). IsGridPeriod x.min_us x.max_us rate (2 ^ p.place.period)) same served.0.1 in
    none (2 ^ p.place.period) has.0 has.1
served_has rate (suc o) (r ∷ rows) (p ∷ ps) row served there none = served_has rate o rows ps row served.1 there none

group_has : (g o rate : ℕ) (sources : List SourceRow) (rated : List (ℕ × List OutputRow)) (ts : List SlotTable) (rows : List OutputRow) → AllZip (IsPlannedAt sources) rated ts
    → slice_get rated g ≡ Some (rate, rows) → IsFirstUnfit rate rows o → ⊥
group_has g o rate sources [] ts rows planned there unfit = absurd cc
group_has g o rate sources (r ∷ rated) [] rows planned there unfit = absurd planned
group_has zero o rate sources (r ∷ rated) (t ∷ ts) rows planned there unfit =
    let same : r ≡ (rate, rows) = cc in
    let served : AllZip (IsServed rate) rows (outputs_of t) = subst (λ (x : ℕ × List OutputRow). AllZip (IsServed x.0) x.1 (outputs_of t)) same planned.0.served in
    served_has rate o rows (outputs_of t) unfit.row served unfit.there unfit.unfit
group_has (suc g) o rate sources (r ∷ rated) (t ∷ ts) rows planned there unfit = group_has g o rate sources rated ts rows planned.1 there unfit

pub planned_fits : (e : TableRecord) (p : PlanTable) (g o : ℕ) → IsPlanOf e p → IsFirstUnfitOf e g o → ⊥
planned_fits e p g o planned unfit = group_has g o unfit.rate e.sources (rated_outputs e) (groups_of p) unfit.rows planned.groups unfit.there unfit.unfit
