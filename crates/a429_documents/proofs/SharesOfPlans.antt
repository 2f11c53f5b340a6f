-- The cells that the outputs of a planned group fill.
use Rattle.std.proofs.Common.{◌≡◌, ℕ, zero, suc, ◌+◌, ◌-◌, ◌*◌, ◌/◌, ◌^◌, ◌<◌, ◌≤◌, List, [], ◌∷◌, length, map, refl, inl, inr, sym, ap, subst, arith, ◌∙◌}
use Rattle.std.specs.Prelude.{Some, nat_le, slice_get}
use Rattle.std.specs.List.{AllByRecursion, AllZip, list_all, zip}
use Rattle.std.proofs.lemmas.Bool.{cases_lt}
use Rattle.std.proofs.lemmas.Option.{same_Some}
use Rattle.std.proofs.lemmas.Nat.{pow-add, shl-shr}
use Rattle.std.proofs.lemmas.Simd.{map-map}
use Rattle.std.proofs.Math.Pow.{pow-lt}
use Rattle.a429_equipment.specs.declared.rows.GroupRow.{GroupRow}
use Rattle.a429_equipment.specs.declared.rows.OutputRow.{OutputRow}
use Rattle.a429_equipment.specs.declared.rows.SourceRow.{SourceRow}
use Rattle.a429_pack.specs.Demanded.{IsBusCount, demand_of}
use Rattle.a429_pack.specs.Demands.{exponent_of, greatest}
use Rattle.a429_slots.specs.Planned.{IsPlannedAt, IsPlannedFor, asked_by, asked_of}
use Rattle.a429_slots.specs.Tables.{Placed, SlotTable, buses_of, outputs_of}
use Rattle.a429_cert.proofs.OwnGroups.{FewestCarry}
use Rattle.a429_documents.specs.Limits.{AreShares}
use Rattle.a429_documents.specs.Load.{NeededBusesAreFewest, shares_of}
use Rattle.a429_documents.specs.Margins.{periods_of}
use Rattle.a429_documents.proofs.MarginGroups.{buses_count}
use Rattle.a429_documents.proofs.Spreading.{answered}

share_is : (f p : ℕ) → p ≤ f → 2 ^ f / 2 ^ p ≡ 2 ^ (f - p)
share_is f p few =
    let digits : (f - p) + p ≡ f = omega arith in
    ap (λ z. z / 2 ^ p) (ap (λ z. 2 ^ z) (sym digits) ∙ pow-add 2 (f - p) p) ∙ shl-shr (2 ^ (f - p)) p

shares_below : (h : ℕ) (placed : List Placed) → h ≤ 13 → greatest (map (λ (o : Placed). o.place.period) placed) ≤ h → AreShares (map (λ (o : Placed). 2 ^ h / 2 ^ o.place.period) placed)
shares_below h [] few most = tt
shares_below h (o ∷ placed) few most =
    let here : o.place.period ≤ h = omega arith in
    ((h - o.place.period, omega arith, share_is h o.place.period here), shares_below h placed few (omega arith))

-- each is a power of two, and at most 2^13
pub are_shares : (rate : ℕ) (sources : List SourceRow) (rows : List OutputRow) (t : SlotTable) → IsPlannedFor rate sources rows t → AreShares (shares_of t)
are_shares rate sources rows t p =
    let same : map exponent_of (asked_of sources t) ≡ map (λ (o : Placed). o.place.period) (outputs_of t) = map-map exponent_of (asked_by sources) (outputs_of t) in
    let framed : t.frame ≡ greatest (map (λ (o : Placed). o.place.period) (outputs_of t)) = p.frame ∙ ap greatest same in
    let few : t.frame ≤ 13 = elim (cases_lt 13 t.frame) [
      | inl long ↦ let above : 2 ^ 13 < 2 ^ t.frame = pow-lt {i = 13} {j = t.frame} long in absurd (omega (arith, p.few_slots))
      | inr short ↦ short
    ] in
    shares_below t.frame (outputs_of t) few (omega arith)

pub needed_buses_are_fewest : NeededBusesAreFewest
needed_buses_are_fewest rate sources rows t p capacity =
    answered (shares_of t) capacity (list_all (λ d. nat_le d capacity) (shares_of t)) (are_shares rate sources rows t p) refl

-- ---- the groups of a plan

-- the table of a group with outputs
pub record IsSomeGroup (sources : List SourceRow) (t : SlotTable) : Type 0 where
  pub rate : ℕ
  pub rows : List OutputRow
  pub planned : IsPlannedFor rate sources rows t
  pub some : 1 ≤ length rows

pub some_group : (sources : List SourceRow) (i : ℕ) (groups : List GroupRow) (rowss : List (List OutputRow)) (ts : List SlotTable) (t : SlotTable) → AllZip (IsPlannedAt sources) (zip (map (λ (g : GroupRow). g.rate) groups) rowss) ts
    → AllByRecursion (λ os. (1 ≤ length os) × (length os ≤ 128)) rowss → slice_get ts i ≡ Some t → IsSomeGroup sources t
some_group sources i groups rowss [] t planned some there = absurd cc
some_group sources i [] rowss (u ∷ ts) t planned some there = absurd planned
some_group sources i (h ∷ groups) [] (u ∷ ts) t planned some there = absurd planned
some_group sources zero (h ∷ groups) (rows ∷ rowss) (u ∷ ts) t planned some there =
    subst (λ (u : SlotTable). IsSomeGroup sources u) (same_Some _ _ there) (record { rate = h.rate; rows = rows; planned = planned.0; some = some.0.0 })
some_group sources (suc i) (h ∷ groups) (rows ∷ rowss) (u ∷ ts) t planned some there = some_group sources i groups rowss ts t planned.1 some.1 there

-- it has a bus
one_at_least : (demand x buses : ℕ) → demand ≤ buses * x → (buses - 1) * x < demand → 1 ≤ buses
one_at_least demand x zero within above = absurd (omega arith)
one_at_least demand x (suc buses) within above = omega arith

pub some_bus : FewestCarry → (sources : List SourceRow) (t : SlotTable) → IsSomeGroup sources t → 1 ≤ buses_of t
some_bus law sources t g =
    let count : IsBusCount (periods_of t) (buses_of t) = buses_count g.rate sources g.rows t g.planned law g.some in
    one_at_least (demand_of (periods_of t)) (2 ^ greatest (periods_of t)) (buses_of t) count.within count.above
