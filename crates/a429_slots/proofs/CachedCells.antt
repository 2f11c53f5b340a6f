-- Tables whose columns have the same places.
use Rattle.std.proofs.Common.{◌≡◌, ℕ, ◌+◌, ◌%◌, ◌^◌, Bool, List, [], ◌∷◌, length, get_or, map, refl, ap, ap₂, ◌∙◌, sym, true, false, not}
use Rattle.std.specs.Prelude.{◌&&◌, Some, None, cond, nat_eq, nat_lt, position}
use Rattle.std.specs.List.{prefix_len, range_with_len}
use Rattle.std.proofs.lemmas.List.{length-map}
use Rattle.std.proofs.lemmas.Slice.Eq.{slice_eq-Decides}
use Rattle.std.specs.Cmp.{unsigned_Decides}
use Rattle.std.specs.Cmp.Lexicographic.{pointwise}
use Rattle.a429_word.proofs.Lists.{not_false}
use Rattle.a429_slots.specs.declared.group_plan.GroupPlan.TheInside.{Inside}
use Rattle.a429_slots.specs.Columns.{placed_in, table_in}
use Rattle.a429_slots.specs.Tables.{stands_in, cell_at}

-- the first of some values that passes
prefix-map : {A B : Type 0} (p : B → Bool) (f : A → B) (xs : List A) → prefix_len p (map f xs) ≡ prefix_len (λ x. p (f x)) xs
prefix-map p f [] = refl
prefix-map p f (x ∷ xs) = ap (λ n. cond (p (f x)) (1 + n) 0) (prefix-map p f xs)

position-map : {A B : Type 0} (p : B → Bool) (f : A → B) (xs : List A) → position p (map f xs) ≡ position (λ x. p (f x)) xs
position-map p f xs = ap₂ (λ n m. cond (nat_lt n m) (Some n) None) (prefix-map (λ x. not (p x)) f xs) (length-map xs f)

-- the columns of two tables have the same places
pub record StandAlike {n : ℕ} (p q : Inside n) : Type 0 where
  pub count : length p.sums ≡ length q.sums
  pub on_bus : p.on_bus ≡ q.on_bus
  pub offsets : p.offsets ≡ q.offsets
  pub periods : p.periods ≡ q.periods

-- whether the output of this number is in a cell
abbrev stands : ℕ → ℕ → List ℕ → List ℕ → List ℕ → ℕ → Bool
stands bus slot on_bus offsets periods o = nat_eq (get_or on_bus o 0) bus && nat_eq (slot % 2 ^ get_or periods o 0) (get_or offsets o 0)

-- so their outputs are in the same cells
pub same_cells : {n : ℕ} (p q : Inside n) → StandAlike p q → (bus slot : ℕ) → cell_at (table_in p) bus slot ≡ cell_at (table_in q) bus slot
unfolding cell_at
same_cells p q same bus slot =
    position-map (stands_in bus slot) (placed_in p) (range_with_len 0 (length p.sums))
    ∙ ap (λ (xs : List ℕ). position (stands bus slot xs p.offsets p.periods) (range_with_len 0 (length p.sums))) same.on_bus
    ∙ ap (λ (xs : List ℕ). position (stands bus slot q.on_bus xs p.periods) (range_with_len 0 (length p.sums))) same.offsets
    ∙ ap (λ (xs : List ℕ). position (stands bus slot q.on_bus q.offsets xs) (range_with_len 0 (length p.sums))) same.periods
    ∙ ap (λ (n : ℕ). position (stands bus slot q.on_bus q.offsets q.periods) (range_with_len 0 n)) same.count
    ∙ sym (position-map (stands_in bus slot) (placed_in q) (range_with_len 0 (length q.sums)))

-- what `==` and `!=` say of two arrays of numbers
pub arrays_same : (xs ys : List ℕ) (r : Bool) → r ≡ pointwise nat_eq xs ys → r ≡ true → xs ≡ ys
arrays_same xs ys r is told = (slice_eq-Decides unsigned_Decides xs ys r is).0 told

pub arrays_not_other : (xs ys : List ℕ) (r : Bool) → r ≡ not (pointwise nat_eq xs ys) → r ≡ false → xs ≡ ys
arrays_not_other xs ys r is told = arrays_same xs ys (pointwise nat_eq xs ys) refl (not_false (pointwise nat_eq xs ys) (sym is ∙ told))
