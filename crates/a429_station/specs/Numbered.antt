-- What is true of the items of lists by their places, which are counted from 0 (vocabulary of contracts).
use Rattle.std.specs.Prelude.{ℕ, suc, ⊤, List, [], ◌∷◌}

-- P of each place and the item there
abbrev pub AllNumbered : {X : Type 0} → (ℕ → X → Type 0) → List X → Type 0
AllNumbered P [] = ⊤
AllNumbered P (x ∷ xs) = P 0 x × AllNumbered (λ k. P (suc k)) xs

-- P of each place and the items there of two lists, which are as long as one another
abbrev pub AllOfTwo : {X Y : Type 0} → (ℕ → X → Y → Type 0) → List X → List Y → Type 0
AllOfTwo P [] [] = ⊤
AllOfTwo P (x ∷ xs) (y ∷ ys) = P 0 x y × AllOfTwo (λ k. P (suc k)) xs ys
AllOfTwo P _ _ = ⊥

-- P of each place and the items there of three lists, which are as long as one another
abbrev pub AllOfThree : {X Y Z : Type 0} → (ℕ → X → Y → Z → Type 0) → List X → List Y → List Z → Type 0
AllOfThree P [] [] [] = ⊤
AllOfThree P (x ∷ xs) (y ∷ ys) (z ∷ zs) = P 0 x y z × AllOfThree (λ k. P (suc k)) xs ys zs
AllOfThree P _ _ _ = ⊥
