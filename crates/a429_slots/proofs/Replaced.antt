-- A plan in which the outputs of a group have other places.
use Rattle.std.proofs.Common.{◌≡◌, ℕ, zero, suc, ◌-◌, ◌^◌, ◌<◌, ◌≤◌, List, [], ◌∷◌, ◌++◌, length, get_or, map, replicate, take, refl, sym, ap, ◌∙◌, subst, arith}
use Rattle.std.specs.Prelude.{Some, slice_get}
use Rattle.std.specs.List.{AllZip}
use Rattle.std.proofs.Math.ListN.{set}
use Rattle.std.proofs.lemmas.List.{get_or-map, length-map}
use Rattle.std.proofs.lemmas.Option.{none-some, same_Some}
use Rattle.std.proofs.lemmas.Slice.Zip.{AllZip-long}
use Rattle.a429_word.proofs.Lists.{zipped_at}
use Rattle.a429_equipment.specs.declared.rows.OutputRow.{OutputRow}
use Rattle.a429_equipment.specs.declared.rows.SourceRow.{SourceRow}
use Rattle.a429_grid.specs.Grid.{IsLeastSpacing}
use Rattle.a429_pack.specs.Kept.{padded}
use Rattle.a429_pack.specs.Demands.{exponents_of, greatest}
use Rattle.a429_pack.specs.declared.demands.Demand.{Demand}
use Rattle.a429_slots.specs.declared.group_plan.SendLimits.{SendLimits}
use Rattle.a429_slots.specs.declared.group_plan.SlotPlace.{SlotPlace}
use Rattle.a429_slots.specs.Kept.{IsTable}
use Rattle.a429_slots.specs.Moves.{IsMoved}
use Rattle.a429_slots.specs.Planned.{AreFewestBusesFor, HasPeriod, IsPlannedFor, IsServed}
use Rattle.a429_slots.specs.Tables.{Placed, SlotTable, outputs_of, placed_at, unplaced}
use Rattle.a429_slots.proofs.Cells.{AreApart, HasEach, stands_just_at}
use Rattle.a429_slots.proofs.Columns.{mapped_at}
use Rattle.a429_slots.proofs.OnePlan.{same_asked}
use Rattle.a429_slots.proofs.Planned.{zip_by}
use Rattle.a429_slots.proofs.Rows.{blank}

-- ---- a group

-- what is known of a table with the outputs of another at other places
pub record IsAgain (n rate : ℕ) (sources : List SourceRow) (rows : List OutputRow) (t u : SlotTable) (places : List SlotPlace) : Type 0 where
  pub planned : IsPlannedFor rate sources rows t
  pub moved : IsMoved t u places
  pub periods : map (λ (q : SlotPlace). q.period) places ≡ map (λ (o : Placed). o.place.period) t.outputs
  pub sound : IsTable n u
  pub each : HasEach u
  pub apart : AreApart u

module _ (n rate : ℕ) (sources : List SourceRow) (rows : List OutputRow) (t u : SlotTable) (places : List SlotPlace) (A : IsAgain n rate sources rows t u places) where
  count : length u.outputs ≡ length t.outputs
  count = sym (length-map u.outputs (λ (x : Placed). x.source)) ∙ ap length A.moved.sources ∙ length-map t.outputs (λ (x : Placed). x.source)

  count_places : length u.outputs ≡ length places
  count_places = sym (length-map u.outputs (λ (x : Placed). x.place)) ∙ ap length A.moved.at

  rows_long : length t.outputs ≡ length rows
  rows_long = AllZip-long (IsServed rate) rows t.outputs A.planned.served

  served_at : (i : ℕ) → i < length rows → IsServed rate (get_or rows i blank) (placed_at u i)
  served_at i below =
      let old : IsServed rate (get_or rows i blank) (placed_at t i) = zipped_at (IsServed rate) rows t.outputs i blank unplaced below A.planned.served in
      let here : i < length u.outputs = omega (arith, below, count, rows_long) in
      let there : i < length t.outputs = omega (arith, below, rows_long) in
      let source : (placed_at u i).source ≡ (placed_at t i).source = mapped_at (λ (x : Placed). x.source) (λ (x : Placed). x.source) u.outputs t.outputs i unplaced unplaced A.moved.sources here there in
      let limits : (placed_at u i).limits ≡ (placed_at t i).limits = mapped_at (λ (x : Placed). x.limits) (λ (x : Placed). x.limits) u.outputs t.outputs i unplaced unplaced A.moved.limits here there in
      let place : (placed_at u i).place ≡ get_or places i unplaced.place =
      sym (get_or-map (λ (x : Placed). x.place) u.outputs i unplaced unplaced.place here) ∙ ap (λ (qs : List SlotPlace). get_or qs i unplaced.place) A.moved.at in
      let period : (placed_at u i).place.period ≡ (placed_at t i).place.period =
      ap (λ (q : SlotPlace). q.period) place
      ∙ mapped_at (λ (q : SlotPlace). q.period) (λ (x : Placed). x.place.period) places t.outputs i unplaced.place unplaced A.periods (omega (arith, here, count_places)) there in (
        source ∙ old.0,
        subst (HasPeriod rate (get_or rows i blank)) (sym period) old.1,
        ap (λ (l : SendLimits). l.hold) limits ∙ old.2,
        subst (λ (l : SendLimits). IsLeastSpacing (get_or rows i blank).min_us rate l.spacing) (sym limits) old.3,
      )

  served : AllZip (IsServed rate) rows (outputs_of u)
  served = zip_by (IsServed rate) rows u.outputs blank unplaced (count ∙ rows_long) served_at

  pub planned_again : IsPlannedFor rate sources rows u
  planned_again = record {
    served = served;
    frame = A.moved.frame ∙ A.planned.frame ∙ ap (λ (ds : List Demand). greatest (exponents_of ds)) (same_asked rate sources rows t.outputs u.outputs A.planned.served served);
    order = A.sound.order;
    follow = A.sound.follow;
    on_bus = A.sound.on_bus;
    periodic = λ o below. stands_just_at n u A.sound A.each A.apart o below;
    fewest = subst (AreFewestBusesFor rate rows) (sym A.moved.buses) A.planned.fewest;
    few_buses = subst (λ (m : ℕ). m ≤ 16) (sym A.moved.buses) A.planned.few_buses;
    few_slots = subst (λ (f : ℕ). 2 ^ f ≤ 8192) (sym A.moved.frame) A.planned.few_slots;
  }

-- ---- the groups

-- one of the second list is replaced by another that does as well
pub zip_set : {A B : Type 0} (R : A → B → Type 0) (xs : List A) (ys : List B) (i : ℕ) (y z : B) → AllZip R xs ys → slice_get ys i ≡ Some y → ((x : A) → R x y → R x z) → AllZip R xs (set ys i z)
zip_set R [] [] i y z all there as_well = absurd (none-some y there)
zip_set R [] (w ∷ ys) i y z all there as_well = absurd all
zip_set R (x ∷ xs) [] i y z all there as_well = absurd (none-some y there)
zip_set {A} {B} R (x ∷ xs) (w ∷ ys) zero y z all there as_well = (as_well x (subst (R x) (same_Some w y there) all.0), all.1)
zip_set R (x ∷ xs) (w ∷ ys) (suc i) y z all there as_well = (all.0, zip_set R xs ys i y z all.1 there as_well)

pub length_set : {B : Type 0} (ys : List B) (i : ℕ) (z : B) → length (set ys i z) ≡ length ys
length_set [] i z = refl
length_set (y ∷ ys) zero z = refl
length_set (y ∷ ys) (suc i) z = ap suc (length_set ys i z)

-- ---- arrays

pub take_set : {B : Type 0} (ys : List B) (n i : ℕ) (z : B) → take n (set ys i z) ≡ set (take n ys) i z
take_set ys zero i z = refl
take_set [] (suc n) i z = refl
take_set (y ∷ ys) (suc n) zero z = refl
take_set {B} (y ∷ ys) (suc n) (suc i) z = ap (λ (zs : List B). y ∷ zs) (take_set ys n i z)

set_front : {B : Type 0} (xs ys : List B) (i : ℕ) (z : B) → i < length xs → set (xs ++ ys) i z ≡ set xs i z ++ ys
set_front [] ys i z below = absurd (omega arith)
set_front (x ∷ xs) ys zero z below = refl
set_front {B} (x ∷ xs) ys (suc i) z below = ap (λ (zs : List B). x ∷ zs) (set_front xs ys i z (omega arith))

pub padded_set : {B : Type 0} (d : B) (n : ℕ) (xs : List B) (i : ℕ) (z : B) → i < length xs → set (padded d n xs) i z ≡ padded d n (set xs i z)
padded_set {B} d n xs i z below = set_front xs (replicate (n - length xs) d) i z below ∙ ap (λ (k : ℕ). set xs i z ++ replicate (n - k) d) (sym (length_set xs i z))
