-- The groups of a table that is due: few outputs, each with a power of two for its period.
use Rattle.std.proofs.Common.{◌≡◌, ℕ, ◌+◌, ◌-◌, ◌*◌, ◌/◌, ◌^◌, ◌<◌, ◌≤◌, max, Bool, true, false, cond, List, [], ◌∷◌, length, map, Option, Some, arith, sym, ap, subst, ◌∙◌, inl, inr, All}
use Rattle.std.specs.Prelude.{option_map}
use Rattle.std.specs.List.{AllZip, AllByRecursion, fold, find, zip}
use Rattle.std.specs.Str.{bytes_eq}
use Rattle.std.proofs.lemmas.Bool.{cases_lt}
use Rattle.std.proofs.lemmas.List.Elements.{All-from_recursion}
use Rattle.std.proofs.lemmas.List.Sums.{sum_by-le}
use Rattle.std.proofs.lemmas.Slice.Zip.{AllZip-long, length-zip}
use Rattle.std.proofs.lemmas.Option.{same_Some, none-some}
use Rattle.std.proofs.lemmas.Nat.{pow_pos, pow_below, pow-add}
use Rattle.std.proofs.Math.Nat.{div-le_self}
use Rattle.a429_grid.specs.Grid.{IsPeriod}
use Rattle.a429_pack.specs.Demanded.{AreFewestBuses, IsBusCount}
use Rattle.a429_equipment.specs.TableRecord.{TableRecord}
use Rattle.a429_equipment.specs.Sound.{HaveOwn, HaveOwnSources, IsSound}
use Rattle.a429_equipment.specs.declared.rows.GroupRow.{GroupRow}
use Rattle.a429_equipment.specs.declared.rows.OutputRow.{OutputRow}
use Rattle.a429_slots.specs.Planned.{rated_outputs}
use Rattle.a429_cert.specs.declared.due.DueOutput.{DueOutput}
use Rattle.a429_cert.specs.declared.due.DueGroup.{DueGroup}
use Rattle.a429_cert.specs.declared.due.DueTable.{DueTable}
use Rattle.a429_cert.specs.Due.{IsDueOutput, IsDueGroup, IsDue}
use Rattle.a429_cert.specs.Faults.{IsModest, frame, demand, due}
use Rattle.a429_cert.proofs.DueOutputs.{own_sources}
use Rattle.a429_cert.proofs.DuePlans.{PeriodsNest}
use Rattle.a429_grid.proofs.Reversing.{pow_few}

abbrev pub HavePeriods : List DueOutput → Type 0
HavePeriods = AllByRecursion (λ o. IsPeriod o.period)

pub record IsOnGrid (g : DueGroup) : Type 0 where
  pub periods : HavePeriods g.outputs.items
  pub some : 1 ≤ length g.outputs.items
  pub few : length g.outputs.items ≤ 128

-- ---- every table that is due has such groups

have_periods : (e : TableRecord) (rate : ℕ) (rows : List OutputRow) (os : List DueOutput) → AllZip (IsDueOutput e rate) rows os → HavePeriods os
have_periods e rate [] [] h = tt
have_periods e rate [] (o ∷ os) h = absurd h
have_periods e rate (r ∷ rs) [] h = absurd h
have_periods e rate (r ∷ rs) (o ∷ os) h = (h.0.period.0, have_periods e rate rs os h.1)

abbrev pub IsShortList : List OutputRow → Type 0
IsShortList os = (1 ≤ length os) × (length os ≤ 128)

pub group_on_grid : (e : TableRecord) (rate : ℕ) (rows : List OutputRow) (g : DueGroup) → IsShortList rows → IsDueGroup e (rate, rows) g → IsOnGrid g
group_on_grid e rate rows g short d =
    let long : length g.outputs.items ≡ length rows = AllZip-long (IsDueOutput e rate) rows g.outputs.items d.outputs in
    record { periods = have_periods e rate rows g.outputs.items d.outputs; some = omega (arith, short.0, long); few = omega (arith, short.1, long) }

groups_on_grid : (e : TableRecord) (rates : List ℕ) (rows : List (List OutputRow)) (gs : List DueGroup) → AllByRecursion IsShortList rows → AllZip (IsDueGroup e) (zip rates rows) gs
    → AllByRecursion IsOnGrid gs
groups_on_grid e [] rs [] short d = tt
groups_on_grid e [] rs (g ∷ gs) short d = absurd d
groups_on_grid e (n ∷ ns) [] [] short d = tt
groups_on_grid e (n ∷ ns) [] (g ∷ gs) short d = absurd d
groups_on_grid e (n ∷ ns) (r ∷ rs) [] short d = absurd d
groups_on_grid e (n ∷ ns) (r ∷ rs) (g ∷ gs) short d = (group_on_grid e n r g short.0 d.0, groups_on_grid e ns rs gs short.1 d.1)

pub on_grid : (e : TableRecord) (t : DueTable) → IsSound e → IsDue e t → AllByRecursion IsOnGrid t.groups.items
on_grid e t sound d = groups_on_grid e (map (λ (g : GroupRow). g.rate) e.groups) e.outputs t.groups.items sound.some_outputs d.groups

-- ---- no two outputs of a group have one source

abbrev pub HasOwnSources : DueGroup → Type 0
HasOwnSources g = HaveOwn (λ o. o.source) g.outputs.items

groups_own : (e : TableRecord) (rates : List ℕ) (rows : List (List OutputRow)) (gs : List DueGroup) → HaveOwn (λ s. s.name) e.sources → AllByRecursion HaveOwnSources rows
    → AllZip (IsDueGroup e) (zip rates rows) gs → AllByRecursion HasOwnSources gs
groups_own e [] rs [] names own d = tt
groups_own e [] rs (g ∷ gs) names own d = absurd d
groups_own e (n ∷ ns) [] [] names own d = tt
groups_own e (n ∷ ns) [] (g ∷ gs) names own d = absurd d
groups_own e (n ∷ ns) (r ∷ rs) [] names own d = absurd d
groups_own e (n ∷ ns) (r ∷ rs) (g ∷ gs) names own d = (own_sources e n r g.outputs.items names own.0 d.0.outputs, groups_own e ns rs gs names own.1 d.1)

-- ---- no sum of a check leaves 64 bits

period_few : (p : ℕ) → IsPeriod p → p ≤ 8192
period_few p h = subst (λ (q : ℕ). q ≤ 8192) (sym h.2) (pow_few h.0 h.1)

pub period_some : (p : ℕ) → IsPeriod p → 0 < p
period_some p h = subst (λ (q : ℕ). 0 < q) (sym h.2) (pow_pos h.0)

all_some : (os : List DueOutput) → HavePeriods os → AllByRecursion (λ o. 0 < o.period) os
all_some [] h = tt
all_some (o ∷ os) h = (period_some o.period h.0, all_some os h.1)

fold_few : (os : List DueOutput) (a : ℕ) → a ≤ 8192 → HavePeriods os → fold (λ a o. max a o.period) a os ≤ 8192
fold_few [] a few h = few
fold_few (o ∷ os) a few h = let here = period_few o.period h.0 in fold_few os (max a o.period) (omega arith) h.1

shares_few : (h : ℕ) (os : List DueOutput) → h ≤ 8192 → AllByRecursion (λ o. h / o.period ≤ 8192) os
shares_few h [] few = tt
shares_few h (o ∷ os) few = (omega (arith, div-le_self h o.period), shares_few h os few)

few_cells : (s n : ℕ) → s ≤ n * 8192 → n ≤ 128 → s < 2 ^ 64
few_cells s n cells few = omega arith

modest : (g : DueGroup) → HasOwnSources g → IsOnGrid g → IsModest g
modest g own on =
    let os : List DueOutput = g.outputs.items in
    let top : frame g ≤ 8192 = fold_few os 0 (omega arith) on.periods in
    let cells : demand g ≤ length os * 8192 = sum_by-le (λ o. frame g / o.period) 8192 os (All-from_recursion (λ o. frame g / o.period ≤ 8192) os (shares_few (frame g) os top)) in
    record {
      own = own;
      periods = All-from_recursion (λ o. 0 < o.period) os (all_some os on.periods);
      frame_fits = omega (arith, top);
      demand_fits = few_cells (demand g) (length os) cells on.few;
    }

all_modest_by : (gs : List DueGroup) → AllByRecursion HasOwnSources gs → AllByRecursion IsOnGrid gs → AllByRecursion IsModest gs
all_modest_by [] own on = tt
all_modest_by (g ∷ gs) own on = (modest g own.0 on.0, all_modest_by gs own.1 on.1)

pub all_modest : (e : TableRecord) (t : DueTable) → IsSound e → IsDue e t → All IsModest t.groups.items
all_modest e t sound d =
    let own = groups_own e (map (λ (g : GroupRow). g.rate) e.groups) e.outputs t.groups.items sound.own_names sound.own_sources d.groups in
    All-from_recursion IsModest t.groups.items (all_modest_by t.groups.items own (on_grid e t sound d))

lines_few : (gs : List DueGroup) → AllByRecursion IsOnGrid gs → AllByRecursion (λ g. length g.outputs.items + 2 ≤ 130) gs
lines_few [] on = tt
lines_few (g ∷ gs) on = (omega (arith, on.0.few), lines_few gs on.1)

pub due_few : (e : TableRecord) (t : DueTable) → IsSound e → IsDue e t → due t.groups.items < 2 ^ 63
due_few e t sound d =
    let gs : List DueGroup = t.groups.items in
    let long : length gs ≡ length (rated_outputs e) = AllZip-long (IsDueGroup e) (rated_outputs e) gs d.groups in
    let few : length (rated_outputs e) ≤ length e.outputs = omega (arith, length-zip (map (λ (g : GroupRow). g.rate) e.groups) e.outputs) in
    let lines : due gs ≤ length gs * 130 = sum_by-le (λ g. length g.outputs.items + 2) 130 gs (All-from_recursion (λ g. length g.outputs.items + 2 ≤ 130) gs (lines_few gs (on_grid e t sound d))) in
    omega (arith, lines, long, few, sound.few_groups, sound.outputs_of_groups)

-- ---- of two powers of two the smaller divides the greater

found_or : (b : Bool) (o : DueOutput) (rest : Option DueOutput) (p : ℕ) → IsPeriod o.period → (option_map (λ o. o.period) rest ≡ Some p → IsPeriod p)
    → option_map (λ o. o.period) (cond b (Some o) rest) ≡ Some p → IsPeriod p
found_or true o rest p here later e = subst IsPeriod (same_Some o.period p e) here
found_or false o rest p here later e = later e

found_period : (test : DueOutput → Bool) (os : List DueOutput) (p : ℕ) → HavePeriods os → option_map (λ o. o.period) (find test os) ≡ Some p → IsPeriod p
found_period test [] p h e = absurd (none-some p e)
found_period test (o ∷ os) p h e = found_or (test o) o (find test os) p h.0 (found_period test os p h.1) e

divides : (i j : ℕ) → 2 ^ i ≤ 2 ^ j → (c : ℕ) × (2 ^ j ≡ 2 ^ i * c)
divides i j le =
    elim (cases_lt j i) [
      | inl lt ↦ absurd (omega (arith, pow_below j i lt, le))
      | inr within ↦ let split : j ≡ i + (j - i) = omega arith in (2 ^ (j - i), ap (λ (k : ℕ). 2 ^ k) split ∙ pow-add 2 i (j - i))
    ]

periods_divide : (p q : ℕ) → IsPeriod p → IsPeriod q → p ≤ q → (c : ℕ) × (q ≡ p * c)
periods_divide p q hp hq le =
    let (i, _, is) = hp in
    let (j, _, js) = hq in
    let (c, times) = divides i j (subst (λ (n : ℕ). 2 ^ i ≤ n) js (subst (λ (n : ℕ). n ≤ q) is le)) in
    (c, js ∙ times ∙ ap (λ (n : ℕ). n * c) (sym is))

nest : (g : DueGroup) → IsOnGrid g → PeriodsNest g
nest g on s t p q at-s at-t le =
    periods_divide p q (found_period (λ o. bytes_eq o.source s) g.outputs.items p on.periods at-s) (found_period (λ o. bytes_eq o.source t) g.outputs.items q on.periods at-t) le

pub all_nest : (gs : List DueGroup) → AllByRecursion IsOnGrid gs → AllByRecursion PeriodsNest gs
all_nest [] on = tt
all_nest (g ∷ gs) on = (nest g on.0, all_nest gs on.1)

-- ---- the fewest buses

-- a number of buses is the fewest if it carries the demand and one bus less does not
abbrev pub FewestByDemand : Type 0
FewestByDemand = (exponents : List ℕ) (buses : ℕ) → 1 ≤ length exponents → IsBusCount exponents buses → AreFewestBuses exponents buses
