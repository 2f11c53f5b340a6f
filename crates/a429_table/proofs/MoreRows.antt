-- Lists that a loop makes of the rows of a table: what is made so far, and what is made of the rest.
use Rattle.std.proofs.Common.{◌≡◌, ◌∙◌, ◌+◌, ◌∷◌, [], ◌++◌, ◌<◌, ◌≤◌, ℕ, List, ap, append-nil, append_assoc, drop, get_or, length, map, sym}
use Rattle.std.proofs.lemmas.List.{at_drop_all, at_drop_more, map-append}

pub none_so_far : {A B : Type 0} (f : List A → List B) (xs : List A) (rows : List B) → rows ≡ [] → rows ++ f xs ≡ f xs
none_so_far f xs rows none = ap (λ r. r ++ f xs) none

pub one_more : {A B : Type 0} (f : List A → List B) (xs : List A) (i : ℕ) (x : A) (b : B) (rows more all : List B) → i < length xs → x ≡ get_or xs i x → f (x ∷ drop (i + 1) xs) ≡ b ∷ f (drop (i + 1) xs)
    → rows ++ f (drop i xs) ≡ all → more ≡ rows ++ b ∷ [] → more ++ f (drop (i + 1) xs) ≡ all
one_more f xs i x b rows more all below is step before pushed =
    ap (λ r. r ++ f (drop (i + 1) xs)) pushed
    ∙ append_assoc rows (b ∷ []) (f (drop (i + 1) xs))
    ∙ ap (λ r. rows ++ r) (sym step)
    ∙ ap (λ y. rows ++ f (y ∷ drop (i + 1) xs)) is
    ∙ sym (at_drop_more (λ ys. rows ++ f ys) xs i x below)
    ∙ before

-- the same of a vector of vectors
pub one_more_list : {A B V : Type 0} (items : V → List B) (f : List A → List (List B)) (xs : List A) (i : ℕ) (x : A) (v : V) (rows more : List V) (all : List (List B)) → i < length xs → x ≡ get_or xs i x
    → f (x ∷ drop (i + 1) xs) ≡ items v ∷ f (drop (i + 1) xs) → map items rows ++ f (drop i xs) ≡ all → more ≡ rows ++ v ∷ [] → map items more ++ f (drop (i + 1) xs) ≡ all
one_more_list items f xs i x v rows more all below is step before pushed =
    one_more f xs i x (items v) (map items rows) (map items more) all below is step before (ap (map items) pushed ∙ map-append items rows (v ∷ []))

pub none_left : {A B : Type 0} (f : List A → List B) (xs : List A) (i : ℕ) (rows all : List B) → f [] ≡ [] → length xs ≤ i → rows ++ f (drop i xs) ≡ all → rows ≡ all
none_left f xs i rows all none past before =
    sym (append-nil rows) ∙ ap (λ r. rows ++ r) (sym none) ∙ sym (at_drop_all (λ ys. rows ++ f ys) xs i past) ∙ before
