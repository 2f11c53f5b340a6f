-- The groups of a plan are planned for their outputs.
use Rattle.std.proofs.Common.{◌≡◌, ◌∙◌, ℕ, zero, suc, ◌<◌, ◌≤◌, List, [], ◌∷◌, arith, ap, get_or, length, map, refl, subst, sym}
use Rattle.std.specs.List.{AllByRecursion, AllZip, zip}
use Rattle.std.specs.Prelude.{Some, option_map, slice_get}
use Rattle.std.proofs.lemmas.List.{get_or_default}
use Rattle.std.proofs.lemmas.Option.{get_or_from_slice_get, same_Some, slice_get-get_or}
use Rattle.a429_word.proofs.Lists.{all_at}
use Rattle.a429_equipment.specs.Sound.{IsGroupRow, IsInterval, IsSound}
use Rattle.a429_equipment.specs.TableRecord.{TableRecord, outputs_in}
use Rattle.a429_equipment.specs.declared.rows.GroupRow.{GroupRow}
use Rattle.a429_equipment.specs.declared.rows.OutputRow.{OutputRow}
use Rattle.a429_equipment.specs.declared.rows.ReceiverRow.{ReceiverRow}
use Rattle.a429_equipment.specs.declared.rows.SourceRow.{SourceRow}
use Rattle.a429_slots.specs.declared.group_plan.SendLimits.{SendLimits}
use Rattle.a429_slots.specs.declared.group_plan.SlotPlace.{SlotPlace}
use Rattle.a429_slots.specs.Planned.{IsPlanOf, IsPlannedAt, IsPlannedFor, IsServed}
use Rattle.a429_slots.specs.Tables.{Placed, SlotTable, PlanTable, groups_of, limits_of, no_table, outputs_of, place_of, placed_at, source_of}
use Rattle.a429_slots.proofs.Cells.{output_is}
use Rattle.a429_slots.proofs.Known.{served_known}
use Rattle.a429_documents.specs.PlannedGroups.{IsPlannedGroup, PlannedGroup, group_at, no_group, no_output, no_source, output_at}

-- as many outputs in the table as rows
pub served_length : (rate : ℕ) (rows : List OutputRow) (placed : List Placed) → AllZip (IsServed rate) rows placed → length rows ≡ length placed
served_length rate [] [] served = refl
served_length rate [] (p ∷ placed) served = absurd served
served_length rate (row ∷ rows) [] served = absurd served
served_length rate (row ∷ rows) (p ∷ placed) served = ap suc (served_length rate rows placed served.1)

-- a slot table is planned for its group
planned_in_group : (sources : List SourceRow) (i : ℕ) (groups : List GroupRow) (rowss : List (List OutputRow)) (ts : List SlotTable) (g : GroupRow) (rows : List OutputRow) (t : SlotTable) → AllZip (IsPlannedAt sources) (zip (map (λ (g : GroupRow). g.rate) groups) rowss) ts
    → slice_get groups i ≡ Some g → slice_get rowss i ≡ Some rows → slice_get ts i ≡ Some t → IsPlannedFor g.rate sources rows t
planned_in_group sources i groups rowss [] g rows t planned named listed there = absurd cc
planned_in_group sources i [] rowss (u ∷ ts) g rows t planned named listed there = absurd planned
planned_in_group sources i (h ∷ groups) [] (u ∷ ts) g rows t planned named listed there = absurd planned
planned_in_group sources zero (h ∷ groups) (those ∷ rowss) (u ∷ ts) g rows t planned named listed there =
    subst (λ (h : GroupRow). IsPlannedFor h.rate sources rows t) (same_Some _ _ named)
    (subst (λ (those : List OutputRow). IsPlannedFor h.rate sources those t) (same_Some _ _ listed) (subst (λ (u : SlotTable). IsPlannedFor h.rate sources those u) (same_Some _ _ there) planned.0))
planned_in_group sources (suc i) (h ∷ groups) (those ∷ rowss) (u ∷ ts) g rows t planned named listed there = planned_in_group sources i groups rowss ts g rows t planned.1 named listed there

pub planned_group : (e : TableRecord) (p : PlanTable) (i : ℕ) (g : GroupRow) (rows : List OutputRow) (t : SlotTable) → IsPlanOf e p → slice_get e.groups i ≡ Some g → slice_get e.outputs i ≡ Some rows → slice_get (groups_of p) i ≡ Some t
    → IsPlannedFor g.rate e.sources rows t
planned_group e p i g rows t planned named listed there = planned_in_group e.sources i e.groups e.outputs (groups_of p) g rows t planned.groups named listed there

module _ (e : TableRecord) (p : PlanTable) (n : ℕ) (sound : IsSound e) (planned : IsPlanOf e p) (below : n < length (groups_of p)) where
  pub group_is_planned : IsPlannedGroup (group_at e p n)
  unfolding group_at
  group_is_planned =
      let row = slice_get-get_or e.groups n no_group (omega (arith, below, planned.count)) in
      let rows = slice_get-get_or e.outputs n [] (omega (arith, below, planned.count, sound.outputs_of_groups)) in
      let table = slice_get-get_or (groups_of p) n no_table below in
      let for_it = planned_group e p n (get_or e.groups n no_group) (outputs_in e n) (get_or (groups_of p) n no_table) planned row rows table in
      record {
        rate = (all_at IsGroupRow e.groups n (get_or e.groups n no_group) sound.group_rows row).1;
        some = (all_at (λ os. (1 ≤ length os) × (length os ≤ 128)) e.outputs n (outputs_in e n) sound.some_outputs rows).0;
        listed = served_length _ _ _ for_it.served;
        known = served_known (length e.sources) _ _ _ for_it.served (all_at _ e.outputs n (outputs_in e n) sound.known_sources rows);
        intervals = all_at (AllByRecursion IsInterval) e.outputs n (outputs_in e n) sound.intervals rows;
        planned = for_it;
      }

-- a group that is put together of what a proposal gives
pub group_is : (e own : TableRecord) (p plan : PlanTable) (n : ℕ) (groups : List GroupRow) (row : GroupRow) (rows : List OutputRow) (t : SlotTable)
    → own ≡ e → plan ≡ p → groups ≡ own.groups → n < length (groups_of p) → length (groups_of p) ≡ length e.groups
    → row ≡ get_or groups n row → slice_get own.outputs n ≡ Some rows → slice_get (groups_of plan) n ≡ Some t
    → record { station = own; row = row; rows = rows; table = t } ≡ group_at e p n
unfolding group_at
group_is e own p plan n groups row rows t same same_plan of below count is listed there =
    let inside : n < length groups = omega (arith, below, count, ap length of, ap (λ (e : TableRecord). length e.groups) same) in
    let named : row ≡ get_or groups n no_group = is ∙ get_or_default groups n row no_group inside in
    let outputs : get_or own.outputs n [] ≡ rows = get_or_from_slice_get own.outputs n rows [] listed in
    let table : get_or (groups_of plan) n no_table ≡ t = get_or_from_slice_get (groups_of plan) n t no_table there in
    cc

-- ---- what a slot table says of an output

module _ (t : SlotTable) (o : ℕ) (below : o < length (outputs_of t)) where
  part_is : {X : Type 0} (f : Placed → X) (x : X) → option_map f (slice_get (outputs_of t) o) ≡ Some x → x ≡ f (placed_at t o)
  part_is f x told = same_Some _ _ (sym told ∙ ap (option_map f) (output_is t o below))

  pub placed_there : (place : SlotPlace) → place_of t o ≡ Some place → place ≡ (placed_at t o).place
  placed_there place told = part_is (λ p. p.place) place told

  pub sent_there : (source : ℕ) → source_of t o ≡ Some source → source ≡ (placed_at t o).source
  sent_there source told = part_is (λ p. p.source) source told

  pub limited_there : (limits : SendLimits) → limits_of t o ≡ Some limits → limits ≡ (placed_at t o).limits
  limited_there limits told = part_is (λ p. p.limits) limits told

-- an output that is put together of what a slot table gives
pub output_is_there : (g : PlannedGroup) (n o number : ℕ) (receivers : List ReceiverRow) (sources : List SourceRow) (source : SourceRow) (place : SlotPlace) (limits : SendLimits)
    → n < length (outputs_of g.table) → AllByRecursion (λ o. o.source < length g.station.sources) (outputs_of g.table) → o ≡ n → receivers ≡ g.station.receivers → sources ≡ g.station.sources
    → source_of g.table o ≡ Some number → source ≡ get_or sources number source → place_of g.table o ≡ Some place → limits_of g.table o ≡ Some limits
    → record { receivers = receivers; group = g.row; source = source; row = get_or g.rows n no_output; place = place; limits = limits } ≡ output_at g n
unfolding output_at
output_is_there g n o number receivers sources source place limits below known same of_receivers of_sources sent is at limited =
    let sent_is : number ≡ (placed_at g.table n).source = sent_there g.table n below number (subst (λ (o : ℕ). source_of g.table o ≡ Some number) same sent) in
    let at_is : place ≡ (placed_at g.table n).place = placed_there g.table n below place (subst (λ (o : ℕ). place_of g.table o ≡ Some place) same at) in
    let limited_is : limits ≡ (placed_at g.table n).limits = limited_there g.table n below limits (subst (λ (o : ℕ). limits_of g.table o ≡ Some limits) same limited) in
    let inside : (placed_at g.table n).source < length g.station.sources = all_at (λ o. o.source < length g.station.sources) (outputs_of g.table) n (placed_at g.table n) known (output_is g.table n below) in
    let listed : number < length sources = omega (arith, sent_is, inside, ap length of_sources) in
    let named : source ≡ get_or sources number no_source = is ∙ get_or_default sources number source no_source listed in
    cc
