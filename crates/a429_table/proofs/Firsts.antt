-- The first of a list of faults.
use Rattle.std.proofs.Common.{◌≡◌, ℕ, ◌+◌, ◌<◌, length, drop, get_or, Bool, true, false, cond, List, [], ◌∷◌, ◌++◌, map, filter, refl, Option, Some, None, option_map}
use Rattle.std.proofs.lemmas.List.{drop_more}
use Rattle.std.specs.List.{find, flat_map}
use Rattle.std.specs.Option.{option_or}
use Rattle.a429_table.specs.declared.fault.FaultKind.{FaultKind}
use Rattle.a429_table.specs.declared.fault.TablePlace.{TablePlace}
use Rattle.a429_table.specs.Walk.{Stop}
use Rattle.a429_table.specs.Faults.{first}
use Rattle.a429_table.specs.Repeats.{found}

first_map : {X Y : Type 0} (h : X → Y) (xs : List X) → first (map h xs) ≡ option_map h (first xs)
first_map h [] = refl
first_map h (x ∷ xs) = refl

pub first_append : {X : Type 0} (xs ys : List X) → first (xs ++ ys) ≡ option_or (first xs) (first ys)
first_append [] ys = refl
first_append (x ∷ xs) ys = refl

kept : {X : Type 0} (b : Bool) (x : X) (xs : List X) (o : Option X) → first xs ≡ o → first (cond b (x ∷ xs) xs) ≡ cond b (Some x) o
kept true x xs o e = refl
kept false x xs o e = e

first_filter : {X : Type 0} (p : X → Bool) (xs : List X) → first (filter p xs) ≡ find p xs
first_filter p [] = refl
first_filter p (x ∷ xs) = kept (p x) x (filter p xs) (find p xs) (first_filter p xs)

with_kind : (kind : FaultKind) (o : Option Stop) → option_map {U = FaultKind × TablePlace} (λ s. (kind, s.0)) o ≡ option_map (λ p. (kind, p)) (option_map (λ s. s.0) o)
with_kind kind None = refl
with_kind kind (Some s) = refl

-- the first place of a kind; otherwise the first fault of the later kinds
pub first_of_two : (test : FaultKind → Stop → Bool) (stops : List Stop) (kind : FaultKind) (later : List FaultKind) (place : Option TablePlace) → place ≡ option_map (λ s. s.0) (find (test kind) stops)
    → first (flat_map (found test stops) (kind ∷ later)) ≡ option_or (option_map (λ p. (kind, p)) place) (first (flat_map (found test stops) later))
first_of_two test stops kind later place e =
    rw (first_append, first_map, first_filter, with_kind kind, ← e)

-- a kind that is found at a place, and one that is found nowhere
pub found_here : (test : FaultKind → Stop → Bool) (stops : List Stop) (kinds : List FaultKind) (i : ℕ) (d : FaultKind) (place : Option TablePlace) (p : TablePlace) → i < length kinds
    → place ≡ option_map (λ s. s.0) (find (test (get_or kinds i d)) stops) → place ≡ Some p
    → first (flat_map (found test stops) (drop i kinds)) ≡ Some (get_or kinds i d, p)
found_here test stops kinds i d place p h e some =
    rw (drop_more kinds i d h, first_of_two test stops (get_or kinds i d) (drop (i + 1) kinds) place e, some)

pub found_later : (test : FaultKind → Stop → Bool) (stops : List Stop) (kinds : List FaultKind) (i : ℕ) (d : FaultKind) (place : Option TablePlace) → i < length kinds
    → place ≡ option_map (λ s. s.0) (find (test (get_or kinds i d)) stops) → place ≡ None
    → first (flat_map (found test stops) (drop i kinds)) ≡ first (flat_map (found test stops) (drop (i + 1) kinds))
found_later test stops kinds i d place h e none =
    rw (drop_more kinds i d h, first_of_two test stops (get_or kinds i d) (drop (i + 1) kinds) place e, none)
