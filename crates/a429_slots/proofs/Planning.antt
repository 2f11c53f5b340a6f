-- The groups of a station, one after another.
use Rattle.std.proofs.Common.{◌≡◌, ℕ, ◌+◌, ◌<◌, ◌≤◌, ◌∷◌, [], ◌++◌, List, length, map, take, arith, ap, ◌∙◌, sym, subst, inl, inr}
use Rattle.std.specs.Prelude.{Some, slice_get, option_map}
use Rattle.std.specs.List.{AllZip, AllByRecursion}
use Rattle.std.proofs.lemmas.List.{length-map, length-take, take_all}
use Rattle.std.proofs.lemmas.Slice.Zip.{AllZip-long, length-zip}
use Rattle.std.proofs.lemmas.Option.{slice_get-map}
use Rattle.a429_word.proofs.Lists.{all_at, all_push, take_next, zip_at, zip_next}
use Rattle.a429_equipment.specs.declared.rows.GroupRow.{GroupRow}
use Rattle.a429_equipment.specs.declared.rows.OutputRow.{OutputRow}
use Rattle.a429_equipment.specs.declared.rows.SourceRow.{SourceRow}
use Rattle.a429_equipment.specs.Sound.{IsRate, IsGroupRow, IsSound}
use Rattle.a429_equipment.specs.TableRecord.{TableRecord}
use Rattle.a429_pack.specs.declared.demands.PackFault.{PackFault}
use Rattle.a429_pack.specs.declared.demands.PackFault.TheVariants as group
use Rattle.a429_slots.specs.Planned.{IsPlannedFor, CanBePlanned, CanBePlannedAt, IsPlannedAt, IsPlanOf, rated_outputs}
use Rattle.a429_slots.specs.Tables.{SlotTable, PlanTable, buses_of, groups_of}
use Rattle.a429_slots.specs.Faults.{IsFaultOf, IsGroupFault, of_group}

rate_within : (rate : ℕ) → IsRate rate → (1 ≤ rate) × (rate ≤ 100000)
rate_within rate (inl high) = (omega (arith, high), omega (arith, high))
rate_within rate (inr low) = (omega (arith, low.0), omega (arith, low.1))

rates_within : (rows : List GroupRow) → AllByRecursion IsGroupRow rows → AllByRecursion (λ r. (1 ≤ r) × (r ≤ 100000)) (map (λ row. row.rate) rows)
rates_within [] all = all
rates_within (row ∷ rows) all = (rate_within row.rate all.0.1, rates_within rows all.1)

pub all_next : {X : Type 0} (P : X → Type 0) (xs : List X) (i : ℕ) (x : X) → slice_get xs i ≡ Some x → AllByRecursion P (take i xs) → P x → AllByRecursion P (take (i + 1) xs)
all_next P xs i x h all p = subst (AllByRecursion P) (sym (take_next xs i x h)) (all_push P (take i xs) x all p)

pub length-zipped : {A B : Type 0} (R : A → B → Type 0) (xs : List A) (ys : List B) (i : ℕ) → i ≤ length xs → AllZip R (take i xs) ys → length ys ≡ i
length-zipped R xs ys i h z = AllZip-long R (take i xs) ys z ∙ omega (arith, length-take i xs)

-- a group that has a plan can be planned
pub could_be : (rate : ℕ) (sources : List SourceRow) (rows : List OutputRow) (t : SlotTable) → IsPlannedFor rate sources rows t → CanBePlanned rate rows
could_be rate sources rows t p = (buses_of t, p.fewest, p.few_buses)

-- the fault of a group, as that of the station
pub fault_in : (e : TableRecord) (g rate : ℕ) (rows : List OutputRow) (fault : PackFault) → slice_get (rated_outputs e) g ≡ Some (rate, rows) → AllByRecursion CanBePlannedAt (take g (rated_outputs e))
    → IsGroupFault rate rows fault → IsFaultOf e (of_group g fault)
fault_in e g rate rows (group.Unfit o) there earlier fault = record { rate = rate; rows = rows; there = there; fault = fault; earlier = earlier }
fault_in e g rate rows (group.TooManyBuses n) there earlier fault = record { rate = rate; rows = rows; there = there; fault = fault; earlier = earlier }
fault_in e g rate rows group.NoMemory there earlier fault = tt

-- ---- outputs with their bit rates

pub length-rated : (e : TableRecord) → length e.outputs ≡ length e.groups → length (rated_outputs e) ≡ length e.outputs
length-rated e same = omega (arith, length-zip (map (λ (g : GroupRow). g.rate) e.groups) e.outputs, length-map e.groups (λ (g : GroupRow). g.rate), same)

pub rated_at : (e : TableRecord) (g rate : ℕ) (rows : List OutputRow) → option_map (λ row. row.rate) (slice_get e.groups g) ≡ Some rate → slice_get e.outputs g ≡ Some rows
    → slice_get (rated_outputs e) g ≡ Some (rate, rows)
rated_at e g rate rows here there = zip_at (map (λ row. row.rate) e.groups) e.outputs g rate rows (slice_get-map (λ row. row.rate) e.groups g ∙ here) there

-- the rate of a group, in bit/s
pub rate_in_group : (e : TableRecord) (g rate : ℕ) → IsSound e → option_map (λ row. row.rate) (slice_get e.groups g) ≡ Some rate → (1 ≤ rate) × (rate ≤ 100000)
rate_in_group e g rate sound here =
    all_at (λ r. (1 ≤ r) × (r ≤ 100000)) (map (λ row. row.rate) e.groups) g rate (rates_within e.groups sound.group_rows) (slice_get-map (λ row. row.rate) e.groups g ∙ here)

-- one group more is planned
pub planned_next : (e : TableRecord) (sources : List SourceRow) (g rate : ℕ) (rows : List OutputRow) (ts us : List SlotTable) (t : SlotTable) → us ≡ ts ++ t ∷ []
    → option_map (λ row. row.rate) (slice_get e.groups g) ≡ Some rate → slice_get e.outputs g ≡ Some rows → AllZip (IsPlannedAt sources) (take g (rated_outputs e)) ts → IsPlannedFor rate sources rows t
    → AllZip (IsPlannedAt sources) (take (g + 1) (rated_outputs e)) us
planned_next e sources g rate rows ts us t more here there planned new =
    subst (λ (us : List SlotTable). AllZip (IsPlannedAt sources) (take (g + 1) (rated_outputs e)) us) (sym more)
    (zip_next (IsPlannedAt sources) (rated_outputs e) ts g (rate, rows) t (rated_at e g rate rows here there) planned new)

pub could_next : (e : TableRecord) (sources : List SourceRow) (g rate : ℕ) (rows : List OutputRow) (t : SlotTable)
    → option_map (λ row. row.rate) (slice_get e.groups g) ≡ Some rate → slice_get e.outputs g ≡ Some rows → AllByRecursion CanBePlannedAt (take g (rated_outputs e)) → IsPlannedFor rate sources rows t
    → AllByRecursion CanBePlannedAt (take (g + 1) (rated_outputs e))
could_next e sources g rate rows t here there could new =
    all_next CanBePlannedAt (rated_outputs e) g (rate, rows) (rated_at e g rate rows here there) could (could_be rate sources rows t new)

-- and all of them, once as many are planned as the station has groups
-- the plan of a station's first groups has room for the next
pub room_for : (e : TableRecord) (sources : List SourceRow) (g : ℕ) (tables : List SlotTable) → IsSound e → g < length e.groups
    → AllZip (IsPlannedAt sources) (take g (rated_outputs e)) tables → length tables < 8
room_for e sources g tables sound below planned =
    let few : length e.groups ≤ 8 = sound.few_groups in
    let groups : length e.outputs ≡ length e.groups = sound.outputs_of_groups in
    let rated : length (rated_outputs e) ≡ length e.outputs = length-rated e groups in
    let long : length tables ≡ g = length-zipped (IsPlannedAt sources) (rated_outputs e) tables g (omega arith) planned in omega arith

pub all_planned : (e : TableRecord) (sources : List SourceRow) (rows : List GroupRow) (g : ℕ) (p : PlanTable) → IsSound e → sources ≡ e.sources → rows ≡ e.groups → length rows ≤ g → p.number ≡ 0
    → AllZip (IsPlannedAt sources) (take g (rated_outputs e)) (groups_of p) → IsPlanOf e p
all_planned e sources rows g p sound same-sources same-rows ended number planned =
    let long : length (rated_outputs e) ≡ length e.outputs = length-rated e sound.outputs_of_groups in
    let all : take g (rated_outputs e) ≡ rated_outputs e = take_all g (rated_outputs e) (omega (arith, long, sound.outputs_of_groups, ended, ap length same-rows)) in
    let zipped : AllZip (IsPlannedAt e.sources) (rated_outputs e) (groups_of p) =
    subst (λ (ss : List SourceRow). AllZip (IsPlannedAt ss) (rated_outputs e) (groups_of p)) same-sources
    (subst (λ (os : List (ℕ × List OutputRow)). AllZip (IsPlannedAt sources) os (groups_of p)) all planned) in
    record {
      number = number;
      count = AllZip-long (IsPlannedAt e.sources) (rated_outputs e) (groups_of p) zipped ∙ (long ∙ sound.outputs_of_groups);
      groups = zipped;
    }
