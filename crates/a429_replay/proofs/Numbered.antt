-- Places in a list that is made element by element.
use Rattle.std.proofs.Common.{◌≡◌, ◌+◌, Bool, cond, List, map, [], ◌∷◌, refl, ap}
use Rattle.std.proofs.lemmas.List.{length-map}
use Rattle.std.specs.Prelude.{not, position}
use Rattle.std.specs.List.{prefix_len}

prefix_len-map : {X Y : Type 0} (f : X → Y) (p : Y → Bool) (xs : List X) → prefix_len p (map f xs) ≡ prefix_len (λ x. p (f x)) xs
prefix_len-map f p [] = refl
prefix_len-map f p (x ∷ xs) = ap (λ n. cond (p (f x)) (1 + n) 0) (prefix_len-map f p xs)

pub position-map : {X Y : Type 0} (f : X → Y) (p : Y → Bool) (xs : List X) → position p (map f xs) ≡ position (λ x. p (f x)) xs
position-map f p xs = rw (prefix_len-map f (λ y. not (p y)) xs, length-map xs f) refl
