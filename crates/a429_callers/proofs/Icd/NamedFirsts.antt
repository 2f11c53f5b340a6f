-- The first rows of names: each has a name of its own, and no more are there than names.
use Rattle.std.proofs.Common.{◌≡◌, ◌∙◌, ℕ, zero, suc, ◌<◌, ◌≤◌, cond, Bool, true, false, List, [], ◌∷◌, ◌++◌, ap, sym, subst, refl, arith, inl, inr, ◌⊎◌}
use Rattle.std.specs.Prelude.{◌||◌, Some, slice_get}
use Rattle.std.specs.List.{AllByRecursion, list_any}
use Rattle.std.proofs.lemmas.Bool.{cases_lt}
use Rattle.std.proofs.lemmas.List.Folds.{list_any-append}
use Rattle.std.proofs.lemmas.Option.{none-some, same_Some}
use Rattle.a429_word.proofs.Lists.{all_at, clash}
use Rattle.a429_cert.proofs.Again.{same_again}
use Rattle.a429_import.specs.declared.firsts.Part.{Part}
use Rattle.a429_import.specs.declared.rows.ImportRow.{ImportRow}
use Rattle.a429_import.specs.ImportTables.{firsts, firsts_after, is_known, name_in, same_name}

-- ---- none has the name of an earlier row

or_none : (a b : Bool) → (a || b) ≡ false → (a ≡ false) × (b ≡ false)
or_none false b h = (refl, h)
or_none true b h = absurd (clash (sym h))

earlier_known : (part : Part) (earlier : List ImportRow) (row x : ImportRow) → is_known part (earlier ++ row ∷ []) x ≡ false → (is_known part earlier x ≡ false) × (same_name part row x ≡ false)
earlier_known part earlier row x h =
    let test : ImportRow → Bool = λ other. same_name part other x in
    let parts = or_none (list_any test earlier) (list_any test (row ∷ [])) (sym (list_any-append test earlier (row ∷ [])) ∙ h) in
    (parts.0, (or_none (test row) false parts.1).0)

-- each of the first rows is new after these
abbrev AreNew : Part → List ImportRow → List ImportRow → Type 0
AreNew part earlier xs = AllByRecursion (λ x. is_known part earlier x ≡ false) xs

new_before : (part : Part) (earlier : List ImportRow) (row : ImportRow) (xs : List ImportRow) → AreNew part (earlier ++ row ∷ []) xs → AreNew part earlier xs × AllByRecursion (λ x. same_name part row x ≡ false) xs
new_before part earlier row [] h = (tt, tt)
new_before part earlier row (x ∷ xs) h =
    let here = earlier_known part earlier row x h.0 in
    let rest = new_before part earlier row xs h.1 in
    ((here.0, rest.0), (here.1, rest.1))

new_or : (part : Part) (earlier : List ImportRow) (row : ImportRow) (xs : List ImportRow) (b : Bool) → is_known part earlier row ≡ b → AreNew part earlier xs → AreNew part earlier (cond b [] (row ∷ []) ++ xs)
new_or part earlier row xs true is rest = rest
new_or part earlier row xs false is rest = (is, rest)

firsts_new : (part : Part) (earlier rows : List ImportRow) → AreNew part earlier (firsts_after part earlier rows)
firsts_new part earlier [] = tt
firsts_new part earlier (row ∷ rows) =
    let later = firsts_after part (earlier ++ row ∷ []) rows in
    new_or part earlier row later (is_known part earlier row) refl (new_before part earlier row later (firsts_new part (earlier ++ row ∷ []) rows)).0

-- ---- two of them with one name are one

abbrev AreOwn : Part → List ImportRow → Type 0
AreOwn part xs = (i j : ℕ) (x y : ImportRow) → slice_get xs i ≡ Some x → slice_get xs j ≡ Some y → name_in part x ≡ name_in part y → i ≡ j

own_more : (part : Part) (row : ImportRow) (xs : List ImportRow) → AreOwn part xs → AllByRecursion (λ x. same_name part row x ≡ false) xs → AreOwn part (row ∷ xs)
own_more part row xs own other zero zero x y at_x at_y same = refl
own_more part row xs own other zero (suc j) x y at_x at_y same =
    let names : name_in part row ≡ name_in part y = ap (name_in part) (same_Some row x at_x) ∙ same in
    absurd (clash (sym (all_at (λ (x : ImportRow). same_name part row x ≡ false) xs j y other at_y) ∙ same_again (name_in part row) (name_in part y) names))
own_more part row xs own other (suc i) zero x y at_x at_y same =
    let names : name_in part row ≡ name_in part x = ap (name_in part) (same_Some row y at_y) ∙ sym same in
    absurd (clash (sym (all_at (λ (x : ImportRow). same_name part row x ≡ false) xs i x other at_x) ∙ same_again (name_in part row) (name_in part x) names))
own_more part row xs own other (suc i) (suc j) x y at_x at_y same = ap (λ (n : ℕ). suc n) (own i j x y at_x at_y same)

own_or : (part : Part) (row : ImportRow) (xs : List ImportRow) (b : Bool) → AreOwn part xs → AllByRecursion (λ x. same_name part row x ≡ false) xs → AreOwn part (cond b [] (row ∷ []) ++ xs)
own_or part row xs true own other = own
own_or part row xs false own other = own_more part row xs own other

own_after : (part : Part) (earlier rows : List ImportRow) → AreOwn part (firsts_after part earlier rows)
own_after part earlier [] = λ i j x y at_x at_y same. absurd (none-some x at_x)
own_after part earlier (row ∷ rows) =
    let later = firsts_after part (earlier ++ row ∷ []) rows in
    own_or part row later (is_known part earlier row) (own_after part (earlier ++ row ∷ []) rows) (new_before part earlier row later (firsts_new part (earlier ++ row ∷ []) rows)).1

pub own_firsts : (part : Part) (rows : List ImportRow) → AreOwn part (firsts part rows)
own_firsts part rows = own_after part [] rows

-- ---- no more than what they are for

module _ (n m : ℕ) (R : ℕ → ℕ → Type 0) (v : ℕ) (last : v < suc m) (at : R n v) (own : (i j k : ℕ) → i < suc n → j < suc n → R i k → R j k → i ≡ j) where
  -- what a number has of the others, and instead of the greatest what the last one has
  abbrev Fewer : ℕ → ℕ → Type 0
  Fewer i k = (R i k × (k < m)) ⊎ (R i m × (k ≡ v))

  fewer_of : (i k : ℕ) → i < n → k < suc m → R i k → (j : ℕ) × (j < m) × Fewer i j
  fewer_of i k below within here = elim (cases_lt k m) [
    | inl less ↦ (k, less, inl (here, less))
    | inr most ↦
        let is : k ≡ m = omega arith in
        let top : R i m = subst (R i) is here in
        elim (cases_lt v m) [
          | inl small ↦ (v, small, inr (top, refl))
          | inr great ↦
              let same : v ≡ m = omega arith in
              absurd (omega (arith, below, own i n m (omega (arith, below)) (omega arith) top (subst (R n) same at)))
        ]
  ]

  fewer_own : (i j k : ℕ) → i < n → j < n → Fewer i k → Fewer j k → i ≡ j
  fewer_own i j k low high (inl x) (inl y) = own i j k (omega (arith, low)) (omega (arith, high)) x.0 y.0
  fewer_own i j k low high (inl x) (inr y) = absurd (omega (arith, low, own i n k (omega (arith, low)) (omega arith) x.0 (subst (R n) (sym y.1) at)))
  fewer_own i j k low high (inr x) (inl y) = absurd (omega (arith, high, own j n k (omega (arith, high)) (omega arith) y.0 (subst (R n) (sym x.1) at)))
  fewer_own i j k low high (inr x) (inr y) = own i j m (omega (arith, low)) (omega (arith, high)) x.0 y.0

-- If each number below n has one below m, and no two have the same, n is not above m.
pub no_more : (n m : ℕ) (R : ℕ → ℕ → Type 0) → ((i : ℕ) → i < n → (k : ℕ) × (k < m) × R i k) → ((i j k : ℕ) → i < n → j < n → R i k → R j k → i ≡ j) → n ≤ m
no_more zero m R has own = omega arith
no_more (suc n) zero R has own = let none = has n (omega arith) in absurd (omega (arith, none.1))
no_more (suc n) (suc m) R has own =
    let last = has n (omega arith) in
    let fewer : n ≤ m =
    no_more n m (Fewer n m R last.0 last.1 last.2 own)
    (λ i below. let one = has i (omega (arith, below)) in fewer_of n m R last.0 last.1 last.2 own i one.0 below one.1 one.2)
    (fewer_own n m R last.0 last.1 last.2 own) in
    omega (arith, fewer)
