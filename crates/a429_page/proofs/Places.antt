-- The place of a name among names by reference.
use Rattle.std.proofs.Common.{◌≡◌, ◌+◌, Bool, cond, List, map, [], ◌∷◌, refl, ap}
use Rattle.std.proofs.lemmas.List.{length-map}
use Rattle.std.specs.Prelude.{not, position}
use Rattle.std.specs.List.{prefix_len}

prefix_len-map : {X Y : Type 0} (f : X → Y) (test : Y → Bool) (xs : List X) → prefix_len test (map f xs) ≡ prefix_len (λ x. test (f x)) xs
prefix_len-map f test [] = refl
prefix_len-map f test (x ∷ xs) = ap (λ n. cond (test (f x)) (1 + n) 0) (prefix_len-map f test xs)

-- the place among what f makes of a list
pub position-map : {X Y : Type 0} (f : X → Y) (test : Y → Bool) (xs : List X) → position test (map f xs) ≡ position (λ x. test (f x)) xs
position-map f test xs = rw (prefix_len-map f (λ y. not (test y)) xs, length-map xs f) refl
