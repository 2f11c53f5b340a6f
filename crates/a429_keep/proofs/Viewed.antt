-- A view of the elements may come before a test.
use Rattle.std.proofs.Common.{Bool, true, false, cond, ◌≡◌, ◌+◌, ◌++◌, ◌∙◌, ℕ, List, [], ◌∷◌, Option, None, Some, refl, ap, map, sym, take}
use Rattle.std.specs.Prelude.{◌||◌, count_by, filter_map, find, option_map, option_to_list, slice_get}
use Rattle.std.specs.List.{cons_option, list_any}
use Rattle.std.proofs.lemmas.List.Elements.{filter_map-append}
use Rattle.std.proofs.lemmas.List.Sums.{sum_by-cons}
use Rattle.a429_word.proofs.Lists.{take_next}

find_more : {X Y : Type 0} (t : Bool) (v : X → Y) (x : X) (xs : List X) (p : Y → Bool) → find p (map v xs) ≡ option_map v (find (λ y. p (v y)) xs)
    → cond t (Some (v x)) (find p (map v xs)) ≡ option_map v (cond t (Some x) (find (λ y. p (v y)) xs))
find_more true v x xs p rest = refl
find_more false v x xs p rest = rest

pub find_viewed : {X Y : Type 0} (p : Y → Bool) (v : X → Y) (xs : List X) → find p (map v xs) ≡ option_map v (find (λ x. p (v x)) xs)
find_viewed p v [] = refl
find_viewed p v (x ∷ xs) = find_more (p (v x)) v x xs p (find_viewed p v xs)

pub any_viewed : {X Y : Type 0} (p : Y → Bool) (v : X → Y) (xs : List X) → list_any p (map v xs) ≡ list_any (λ x. p (v x)) xs
any_viewed p v [] = refl
any_viewed p v (x ∷ xs) = ap (λ rest. p (v x) || rest) (any_viewed p v xs)

pub filter_viewed : {X Y Z : Type 0} (f : Y → Option Z) (v : X → Y) (xs : List X) → filter_map f (map v xs) ≡ filter_map (λ x. f (v x)) xs
filter_viewed f v [] = refl
filter_viewed f v (x ∷ xs) = ap (λ ys. cons_option (f (v x)) ys) (filter_viewed f v xs)

one_given : {Y : Type 0} (m : Option Y) → cons_option m [] ≡ option_to_list m
one_given None = refl
one_given (Some y) = refl

-- one more element of a list
pub filter_next : {X Y : Type 0} (f : X → Option Y) (xs : List X) (i : ℕ) (x : X) → slice_get xs i ≡ Some x
    → filter_map f (take (i + 1) xs) ≡ filter_map f (take i xs) ++ option_to_list (f x)
filter_next f xs i x there =
    ap (filter_map f) (take_next xs i x there) ∙ filter_map-append f (take i xs) (x ∷ []) ∙ ap (λ ys. filter_map f (take i xs) ++ ys) (one_given (f x))

pub count_viewed : {X Y : Type 0} (p : Y → Bool) (v : X → Y) (xs : List X) → count_by p (map v xs) ≡ count_by (λ x. p (v x)) xs
count_viewed p v [] = refl
count_viewed p v (x ∷ xs) =
    sum_by-cons (λ y. cond (p y) 1 0) (v x) (map v xs) ∙ ap (λ n. cond (p (v x)) 1 0 + n) (count_viewed p v xs) ∙ sym (sum_by-cons (λ y. cond (p (v y)) 1 0) x xs)
