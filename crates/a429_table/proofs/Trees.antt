-- A value, and the data that it stands for.
use Rattle.std.proofs.Common.{◌≡◌, ℕ, zero, suc, ◌+◌, ◌≤◌, ltb, arith, Bool, ◌||◌, cond, true, false, List, [], ◌∷◌, map, take, refl, ap, String, Global, string_bytes, Option, Some, None, option_map}
use Rattle.std.proofs.lemmas.Bool.{ltb-false}
use Rattle.std.specs.List.{list_any, find, prefix_len}
use Rattle.std.specs.Map.{keys_of}
use Rattle.toml.specs.Data.{Data}
use Rattle.toml.specs.View.{items_of, members_view}
use Rattle.toml.specs.declared.value.Value.{Value}
use Rattle.a429_table.specs.Tree.{elements, member_keys}

pub elements-items_of : (ds : List Data) → elements (items_of ds) ≡ ds
elements-items_of [] = refl
elements-items_of (d ∷ ds) = ap (λ es. d ∷ es) (elements-items_of ds)

pub member_keys-members_view : (es : List (String Global × Value)) → member_keys (members_view es) ≡ map string_bytes (keys_of es)
member_keys-members_view [] = refl
member_keys-members_view (e ∷ es) = ap (λ ks. string_bytes e.0 ∷ ks) (member_keys-members_view es)

pub list_any_map : {X Y : Type 0} (p : X → Bool) (h : Y → X) (ys : List Y) → list_any p (map h ys) ≡ list_any (λ y. p (h y)) ys
list_any_map p h [] = refl
list_any_map p h (y ∷ ys) = ap (λ b. p (h y) || b) (list_any_map p h ys)

pub map_take : {X Y : Type 0} (h : X → Y) (n : ℕ) (xs : List X) → map h (take n xs) ≡ take n (map h xs)
map_take h zero xs = refl
map_take h (suc n) [] = refl
map_take h (suc n) (x ∷ xs) = ap (λ ys. h x ∷ ys) (map_take h n xs)

found_in : {X Y : Type 0} (h : X → Y) (b : Bool) (x : X) (rest : Option X) (others : Option Y) → others ≡ option_map h rest
    → cond b (Some (h x)) others ≡ option_map h (cond b (Some x) rest)
found_in h true x rest others e = refl
found_in h false x rest others e = e

pub find_map : {X Y : Type 0} (p : Y → Bool) (h : X → Y) (xs : List X) → find p (map h xs) ≡ option_map h (find (λ x. p (h x)) xs)
find_map p h [] = refl
find_map p h (x ∷ xs) = found_in h (p (h x)) x _ _ (find_map p h xs)

pub prefix_len_map : {X Y : Type 0} (p : Y → Bool) (h : X → Y) (xs : List X) → prefix_len p (map h xs) ≡ prefix_len (λ x. p (h x)) xs
prefix_len_map p h [] = refl
prefix_len_map p h (x ∷ xs) = ap (λ n. cond (p (h x)) (1 + n) 0) (prefix_len_map p h xs)

-- a position that was found
pub position_found : (b : Bool) (n k : ℕ) (r : Option ℕ) → r ≡ cond b (Some n) None → r ≡ Some k → k ≡ n
position_found true n k r e f = cc
position_found false n k r e f = cc

none_found : (b : Bool) (n : ℕ) (r : Option ℕ) → r ≡ cond b (Some n) None → r ≡ None → b ≡ false
none_found true n r e f = cc
none_found false n r e f = refl

-- no position was found, so the search ran to the end
pub position_missing : (n len : ℕ) (r : Option ℕ) → n ≤ len → r ≡ cond (ltb n len) (Some n) None → r ≡ None → len ≡ n
position_missing n len r below e f = omega (arith, ltb-false n len (none_found (ltb n len) n r e f))
