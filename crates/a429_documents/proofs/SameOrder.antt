-- Outputs that are laid out one after the other have one order, which follows from their places.
use Rattle.std.proofs.Common.{◌≡◌, ℕ, zero, suc, ◌+◌, ◌*◌, ◌/◌, ◌^◌, ◌<◌, ◌≤◌, List, [], ◌∷◌, length, map, Some, ap, sym, subst, refl, arith, ◌∙◌}
use Rattle.std.specs.Prelude.{slice_get, slice_index}
use Rattle.std.specs.List.{AllZip}
use Rattle.std.proofs.lemmas.Option.{none-some, same_Some}
use Rattle.a429_equipment.specs.declared.rows.SourceRow.{SourceRow}
use Rattle.a429_grid.specs.Reversal.{reversed}
use Rattle.a429_slots.specs.declared.group_plan.SlotPlace.{SlotPlace}
use Rattle.a429_slots.specs.Kept.{begin_of, end_of}
use Rattle.a429_slots.specs.Tables.{Placed, SlotTable, placed_at, share_of}
use Rattle.a429_cert.specs.PlanText.{source_name}

abbrev pub share : ℕ → Placed → ℕ
share h x = 2 ^ h / 2 ^ x.place.period

-- the first place of an output, in a frame of this exponent
abbrev pub begins : ℕ → SlotPlace → ℕ
begins h p = p.bus * 2 ^ h + reversed h p.offset

-- these follow one another, from a place on
abbrev pub Laid : ℕ → ℕ → List Placed → Type 0
Laid h s [] = Unit {0}
Laid h s (x ∷ xs) = (s ≤ begins h x.place) × (1 ≤ share h x) × Laid h (begins h x.place + share h x) xs

-- outputs of sources with one name, with one place and one hold
pub record Same (own others : List SourceRow) (x y : Placed) : Type 0 where
  pub name : source_name own x.source ≡ source_name others y.source
  pub place : x.place ≡ y.place
  pub hold : x.limits.hold ≡ y.limits.hold

module _ (h : ℕ) where
  pub begins_later : (s : ℕ) (xs : List Placed) (i : ℕ) (x : Placed) → Laid h s xs → slice_get xs i ≡ Some x → s ≤ begins h x.place
  begins_later s [] i x laid there = absurd (none-some x there)
  begins_later s (y ∷ ys) zero x laid there = subst (λ (x : Placed). s ≤ begins h x.place) (same_Some y x there) laid.0
  begins_later s (y ∷ ys) (suc i) x laid there = omega (arith, laid.0, begins_later (begins h y.place + share h y) ys i x laid.2 there)

module _ (own others : List SourceRow) (h : ℕ) where
  -- each of the first has one of the second
  abbrev pub Finds : List Placed → List Placed → Type 0
  Finds xs ys = (i : ℕ) (x : Placed) → slice_get xs i ≡ Some x → (j : ℕ) × (y : Placed) × (slice_get ys j ≡ Some y) × Same own others x y

  abbrev pub Found : List Placed → List Placed → Type 0
  Found xs ys = (j : ℕ) (y : Placed) → slice_get ys j ≡ Some y → (i : ℕ) × (x : Placed) × (slice_get xs i ≡ Some x) × Same own others x y

  -- the first of the first has the first of the second
  heads : (s r : ℕ) (x y : Placed) (xs ys : List Placed) → Laid h s (x ∷ xs) → Laid h r (y ∷ ys) → Finds (x ∷ xs) (y ∷ ys) → Found (x ∷ xs) (y ∷ ys) → Same own others x y
  heads s r x y xs ys laid standing finds found = at (finds 0 x refl)
    where
      -- no output of the second begins before the first of the first
      least : (i : ℕ) × (w : Placed) × (slice_get (x ∷ xs) i ≡ Some w) × Same own others w y → begins h x.place ≤ begins h y.place
      least (zero, w, here, same) = let one : begins h w.place ≡ begins h y.place = ap (begins h) same.place in omega (arith, one, ap (λ (p : Placed). begins h p.place) (same_Some x w here))
      least (suc i, w, here, same) =
          let one : begins h w.place ≡ begins h y.place = ap (begins h) same.place in
          omega (arith, one, begins_later h (begins h x.place + share h x) xs i w laid.2 here)

      at : (j : ℕ) × (z : Placed) × (slice_get (y ∷ ys) j ≡ Some z) × Same own others x z → Same own others x y
      at (zero, z, there, same) = subst (Same own others x) (sym (same_Some y z there)) same
      at (suc j, z, there, same) =
          let one : begins h x.place ≡ begins h z.place = ap (begins h) same.place in
          absurd (omega (arith, one, begins_later h (begins h y.place + share h y) ys j z standing.2 there, standing.1, least (found 0 y refl)))

  finds_rest : (s r : ℕ) (x y : Placed) (xs ys : List Placed) → Laid h s (x ∷ xs) → Laid h r (y ∷ ys) → Same own others x y → Finds (x ∷ xs) (y ∷ ys) → Finds xs ys
  finds_rest s r x y xs ys laid standing head finds i z here = at (finds (suc i) z here)
    where
      at : (j : ℕ) × (w : Placed) × (slice_get (y ∷ ys) j ≡ Some w) × Same own others z w → (j : ℕ) × (w : Placed) × (slice_get ys j ≡ Some w) × Same own others z w
      at (zero, w, there, same) =
          let one : begins h z.place ≡ begins h w.place = ap (begins h) same.place in
          let first : begins h x.place ≡ begins h w.place = ap (begins h) head.place ∙ ap (λ (p : Placed). begins h p.place) (same_Some y w there) in
          absurd (omega (arith, one, first, begins_later h (begins h x.place + share h x) xs i z laid.2 here, laid.1))
      at (suc j, w, there, same) = (j, w, there, same)

  found_rest : (s r : ℕ) (x y : Placed) (xs ys : List Placed) → Laid h s (x ∷ xs) → Laid h r (y ∷ ys) → Same own others x y → Found (x ∷ xs) (y ∷ ys) → Found xs ys
  found_rest s r x y xs ys laid standing head found j z there = at (found (suc j) z there)
    where
      at : (i : ℕ) × (w : Placed) × (slice_get (x ∷ xs) i ≡ Some w) × Same own others w z → (i : ℕ) × (w : Placed) × (slice_get xs i ≡ Some w) × Same own others w z
      at (zero, w, here, same) =
          let one : begins h w.place ≡ begins h z.place = ap (begins h) same.place in
          let first : begins h w.place ≡ begins h y.place = ap (λ (p : Placed). begins h p.place) (sym (same_Some x w here)) ∙ ap (begins h) head.place in
          absurd (omega (arith, one, first, begins_later h (begins h y.place + share h y) ys j z standing.2 there, standing.1))
      at (suc i, w, here, same) = (i, w, here, same)

  pub same_order : (s r : ℕ) (xs ys : List Placed) → Laid h s xs → Laid h r ys → Finds xs ys → Found xs ys → AllZip (Same own others) xs ys
  same_order s r [] [] laid standing finds found = tt
  same_order s r [] (y ∷ ys) laid standing finds found = let none = found 0 y refl in absurd (none-some none.1 none.2)
  same_order s r (x ∷ xs) [] laid standing finds found = let none = finds 0 x refl in absurd (none-some none.1 none.2)
  same_order s r (x ∷ xs) (y ∷ ys) laid standing finds found =
      let head = heads s r x y xs ys laid standing finds found in
      let rest = same_order (begins h x.place + share h x) (begins h y.place + share h y) xs ys laid.2 standing.2 in
      (head, rest (finds_rest s r x y xs ys laid standing head finds) (found_rest s r x y xs ys laid standing head found))

-- ---- the outputs of a slot table in the order of their blocks

pub laid_from : (t : SlotTable) (s : ℕ) (order : List ℕ) → (1 ≤ length order → s ≤ begin_of t (slice_index order 0)) → ((k : ℕ) → k + 1 < length order → end_of t (slice_index order k) ≤ begin_of t (slice_index order (k + 1)))
    → ((k : ℕ) → k < length order → 1 ≤ share_of t (slice_index order k)) → Laid t.frame s (map (placed_at t) order)
laid_from t s [] first follow some = tt
laid_from t s (o ∷ []) first follow some = (first (omega arith), some 0 (omega arith), tt)
laid_from t s (o ∷ p ∷ order) first follow some = (
  first (omega arith),
  some 0 (omega arith),
  laid_from t (end_of t o) (p ∷ order) (λ none. follow 0 (omega arith))
      (λ k below. let next : suc k + 1 ≡ suc (k + 1) = omega arith in
      subst (λ (j : ℕ). end_of t (slice_index (p ∷ order) k) ≤ begin_of t (slice_index (o ∷ p ∷ order) j)) next (follow (suc k) (omega (arith, below))))
      (λ k below. some (suc k) (omega (arith, below))),
)
