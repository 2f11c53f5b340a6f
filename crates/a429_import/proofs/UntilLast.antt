-- The elements up to the last one that passes, after one more element.
use Rattle.std.proofs.Common.{◌≡◌, ◌∙◌, Bool, true, false, cond, List, [], ◌∷◌, ◌++◌, ap, ap₂, append-nil, refl, sym}
use Rattle.std.specs.Prelude.{◌||◌}
use Rattle.std.specs.List.{list_any}
use Rattle.a429_import.specs.ImportRows.{until_last, until_last_or_all}

or_last : (a b : Bool) → b ≡ true → (a || b) ≡ true
or_last true b h = refl
or_last false b h = h

rest_by : {X : Type 0} (x : X) (xs kept : List X) (b : Bool) → ((rest : List X) × (xs ≡ kept ++ rest)) → (rest : List X) × (x ∷ xs ≡ cond b (x ∷ kept) [] ++ rest)
rest_by x xs kept true more = (more.0, ap (λ ys. x ∷ ys) more.1)
rest_by x xs kept false more = (x ∷ xs, refl)

until_rest : {X : Type 0} (p : X → Bool) (xs : List X) → (rest : List X) × (xs ≡ until_last p xs ++ rest)
until_rest p [] = ([], refl)
until_rest p (x ∷ xs) = rest_by x xs (until_last p xs) (list_any p (x ∷ xs)) (until_rest p xs)

or_none : (b : Bool) → b ≡ (b || false)
or_none true = refl
or_none false = refl

rest_of : {X : Type 0} (xs kept : List X) (b : Bool) → ((rest : List X) × (xs ≡ kept ++ rest)) → (rest : List X) × (xs ≡ cond b kept xs ++ rest)
rest_of xs kept true more = more
rest_of xs kept false more = ([], sym (append-nil xs))

-- what is left is at the end
pub all_rest : {X : Type 0} (p : X → Bool) (xs : List X) → (rest : List X) × (xs ≡ until_last_or_all p xs ++ rest)
all_rest p xs = rest_of xs (until_last p xs) (list_any p xs) (until_rest p xs)

module _ {X : Type 0} (p : X → Bool) (y : X) where
  any_last : (xs : List X) → p y ≡ true → list_any p (xs ++ y ∷ []) ≡ true
  any_last [] is = rw is refl
  any_last (x ∷ xs) is = or_last (p x) (list_any p (xs ++ y ∷ [])) (any_last xs is)

  any_same : (xs : List X) → p y ≡ false → list_any p (xs ++ y ∷ []) ≡ list_any p xs
  any_same [] is = rw is refl
  any_same (x ∷ xs) is = ap (λ (b : Bool). p x || b) (any_same xs is)

  until_passes : (xs : List X) → p y ≡ true → until_last p (xs ++ y ∷ []) ≡ xs ++ y ∷ []
  until_passes [] is = rw is refl
  until_passes (x ∷ xs) is =
      ap (λ (b : Bool). cond b (x ∷ until_last p (xs ++ y ∷ [])) []) (any_last (x ∷ xs) is) ∙ ap (λ (ys : List X). x ∷ ys) (until_passes xs is)

  until_same : (xs : List X) → p y ≡ false → until_last p (xs ++ y ∷ []) ≡ until_last p xs
  until_same [] is = rw is refl
  until_same (x ∷ xs) is = ap₂ (λ (b : Bool) (ys : List X). cond b (x ∷ ys) []) (any_same (x ∷ xs) is) (until_same xs is)

  -- it passes, so all elements are left
  pub all_passes : (xs : List X) → p y ≡ true → until_last_or_all p (xs ++ y ∷ []) ≡ xs ++ y ∷ []
  all_passes xs is = ap (λ (b : Bool). cond b (until_last p (xs ++ y ∷ [])) (xs ++ y ∷ [])) (any_last xs is) ∙ until_passes xs is

  -- none passes
  pub all_none : (xs : List X) → list_any p xs ≡ false → p y ≡ false → until_last_or_all p (xs ++ y ∷ []) ≡ xs ++ y ∷ []
  all_none xs none is = ap (λ (b : Bool). cond b (until_last p (xs ++ y ∷ [])) (xs ++ y ∷ [])) (any_same xs is ∙ none)

  -- one before it passes, but it does not
  pub all_same : (xs : List X) → list_any p xs ≡ true → p y ≡ false → until_last_or_all p (xs ++ y ∷ []) ≡ until_last_or_all p xs
  all_same xs some is =
      ap₂ (λ (b : Bool) (ys : List X). cond b ys (xs ++ y ∷ [])) (any_same xs is ∙ some) (until_same xs is)
      ∙ ap (λ (b : Bool). cond b (until_last p xs) xs) (sym some)

  -- whether one passes
  pub any_more : (xs : List X) → list_any p (xs ++ y ∷ []) ≡ (list_any p xs || p y)
  any_more xs = by (p y) refl
    where
      by : (b : Bool) → p y ≡ b → list_any p (xs ++ y ∷ []) ≡ (list_any p xs || b)
      by true is = any_last xs is ∙ sym (or_last (list_any p xs) true refl)
      by false is = any_same xs is ∙ or_none (list_any p xs)
