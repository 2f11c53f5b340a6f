-- What is among the items of a list that is joined of others.
use Rattle.std.proofs.Common.{◌≡◌, ℕ, zero, suc, ◌+◌, ◌<◌, ◌≤◌, List, [], ◌∷◌, ◌++◌, Option, Some, None, sym, refl, subst, arith, inl, inr, ◌⊎◌}
use Rattle.std.specs.List.{IsAmong, flat_map, range_with_len}
use Rattle.std.specs.Option.{option_map_or}
use Rattle.std.proofs.lemmas.Bool.{cases_lt}

module _ {X : Type 0} (v : X) where
  pub from_head : (x : X) (xs : List X) → IsAmong (x ∷ xs) v → (v ≡ x) ⊎ IsAmong xs v
  from_head x xs (zero, (below, is)) = inl is
  from_head x xs (suc i, (below, is)) = inr (i, (omega (arith, below), is))

  pub at_head : (x : X) (xs : List X) → v ≡ x → IsAmong (x ∷ xs) v
  at_head x xs is = (0, (omega arith, is))

  pub below_head : (x : X) (xs : List X) → IsAmong xs v → IsAmong (x ∷ xs) v
  below_head x xs h = (suc h.0, (omega (arith, h.1.0), h.1.1))

  pub nothing_there : IsAmong [] v → ⊥
  nothing_there h = omega (arith, h.1.0)

  -- two lists, one after the other
  pub from_both : (xs ys : List X) → IsAmong (xs ++ ys) v → IsAmong xs v ⊎ IsAmong ys v
  from_both [] ys h = inr h
  from_both (x ∷ xs) ys h = elim (from_head x (xs ++ ys) h) [
    | inl is ↦ inl (at_head x xs is)
    | inr rest ↦ elim (from_both xs ys rest) [
      | inl one ↦ inl (below_head x xs one)
      | inr other ↦ inr other
    ]
  ]

  pub in_first : (xs ys : List X) → IsAmong xs v → IsAmong (xs ++ ys) v
  in_first [] ys h = absurd (nothing_there h)
  in_first (x ∷ xs) ys h = elim (from_head x xs h) [
    | inl is ↦ at_head x (xs ++ ys) is
    | inr rest ↦ below_head x (xs ++ ys) (in_first xs ys rest)
  ]

  pub in_second : (xs ys : List X) → IsAmong ys v → IsAmong (xs ++ ys) v
  in_second [] ys h = h
  in_second (x ∷ xs) ys h = below_head x (xs ++ ys) (in_second xs ys h)

  -- what the numbers of a range give
  pub from_each : (f : ℕ → List X) (a n : ℕ) → IsAmong (flat_map f (range_with_len a n)) v → (k : ℕ) × (a ≤ k) × (k < a + n) × IsAmong (f k) v
  from_each f a zero h = absurd (nothing_there h)
  from_each f a (suc n) h = elim (from_both (f a) (flat_map f (range_with_len (a + 1) n)) h) [
    | inl one ↦ (a, omega arith, omega arith, one)
    | inr rest ↦ let later = from_each f (a + 1) n rest in (later.0, omega (arith, later.1), omega (arith, later.2), later.3)
  ]

  pub in_each : (f : ℕ → List X) (a n k : ℕ) → a ≤ k → k < a + n → IsAmong (f k) v → IsAmong (flat_map f (range_with_len a n)) v
  in_each f a zero k least most h = absurd (omega (arith, least, most))
  in_each f a (suc n) k least most h = elim (cases_lt a k) [
    | inl later ↦ in_second (f a) (flat_map f (range_with_len (a + 1) n)) (in_each f (a + 1) n k (omega (arith, later)) (omega (arith, most)) h)
    | inr first ↦ let same : k ≡ a = omega (arith, least, first) in in_first (f a) (flat_map f (range_with_len (a + 1) n)) (subst (λ (j : ℕ). IsAmong (f j) v) same h)
  ]

  -- what a value gives that may not be there
  pub from_some : {A : Type 0} (f : A → List X) (o : Option A) → IsAmong (option_map_or f o []) v → (a : A) × (o ≡ Some a) × IsAmong (f a) v
  from_some f None h = absurd (nothing_there h)
  from_some f (Some a) h = (a, refl, h)

  pub in_some : {A : Type 0} (f : A → List X) (o : Option A) (a : A) → o ≡ Some a → IsAmong (f a) v → IsAmong (option_map_or f o []) v
  in_some {A} f o a is h = subst (λ (o : Option A). IsAmong (option_map_or f o []) v) (sym is) h
