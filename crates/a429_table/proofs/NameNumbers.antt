-- The numbers of names.
use Rattle.std.proofs.Common.{◌≡◌, ℕ, zero, suc, ◌+◌, ◌≤◌, ◌||◌, ltb, Bool, true, false, cond, List, [], ◌∷◌, take, Option, Some, None, is_some, refl, sym, ap, arith}
use Rattle.std.specs.Option.{option_or, option_map_or}
use Rattle.std.specs.List.{list_any, position_from}
use Rattle.std.proofs.lemmas.Bool.Decides.{nat_tests}
use Rattle.toml.specs.Data.{Data}
use Rattle.a429_table.specs.Names.{name_of, number_named, is_below}
use Rattle.std.specs.Str.{bytes_eq}
use Rattle.std.proofs.lemmas.Slice.Eq.{bytes_eq-Decides}

-- one more number before the rest
pub option_or-cond : {X : Type 0} (o : Option X) (b : Bool) (x : X) (rest : Option X) → option_or (option_or o (cond b (Some x) None)) rest ≡ option_or o (cond b (Some x) rest)
option_or-cond None true x rest = refl
option_or-cond None false x rest = refl
option_or-cond (Some y) b x rest = refl

kept : (old : List ℕ → Option ℕ) (name q : List ℕ) (n : ℕ) (b : Bool) (o : Option ℕ) → bytes_eq q name ≡ b → old name ≡ o → is_some o ≡ true → old q ≡ option_or (old q) (cond b (Some n) None)
kept old name q n true (Some m) e f some = rw (ap old ((bytes_eq-Decides q name).0 e), f)
kept old name q n true None e f some = cc
kept old name q n false o e f some = none_after (old q)
  where
    none_after : (o : Option ℕ) → o ≡ option_or o None
    none_after None = refl
    none_after (Some x) = refl

-- a name that has a number keeps it
pub numbers_kept : (old : List ℕ → Option ℕ) (name q : List ℕ) (n : ℕ) → is_some (old name) ≡ true → old q ≡ option_or (old q) (cond (bytes_eq q name) (Some n) None)
numbers_kept old name q n some = kept old name q n (bytes_eq q name) (old name) refl refl some

given : (old : List ℕ → Option ℕ) (name q : List ℕ) (n : ℕ) (b c : Bool) (o : Option ℕ) → bytes_eq q name ≡ b → bytes_eq name q ≡ c → old q ≡ o → is_some (old name) ≡ false
    → cond c (Some n) o ≡ option_or o (cond b (Some n) None)
given old name q n true true None e f g none = refl
given old name q n true true (Some x) e f g none = let same = ap old ((bytes_eq-Decides q name).0 e) in cc
given old name q n true false o e f g none = let same = (bytes_eq-Decides name q).1 (sym ((bytes_eq-Decides q name).0 e)) in cc
given old name q n false true o e f g none = let same = (bytes_eq-Decides q name).1 (sym ((bytes_eq-Decides name q).0 f)) in cc
given old name q n false false None e f g none = refl
given old name q n false false (Some x) e f g none = refl

-- a name that has none gets the number
pub numbers_given : (old : List ℕ → Option ℕ) (name q : List ℕ) (n : ℕ) → is_some (old name) ≡ false → cond (bytes_eq name q) (Some n) (old q) ≡ option_or (old q) (cond (bytes_eq q name) (Some n) None)
numbers_given old name q n none = given old name q n (bytes_eq q name) (bytes_eq name q) (old q) refl refl refl none

-- whether the first place at which the test passes is below m
abbrev first_below : {X : Type 0} → (X → Bool) → ℕ → ℕ → List X → Bool
first_below p m n xs = option_map_or (λ k. ltb k m) (position_from p n xs) false

none_below_at : {X : Type 0} (p : X → Bool) (x : X) (n m : ℕ) (xs : List X) (b : Bool) → p x ≡ b → m ≤ n → first_below p m (n + 1) xs ≡ false → first_below p m n (x ∷ xs) ≡ false
none_below_at p x n m xs true e h rest = rw e (grind (arith, nat_tests))
none_below_at p x n m xs false e h rest = rw e rest

none_below : {X : Type 0} (p : X → Bool) (n m : ℕ) (xs : List X) → m ≤ n → first_below p m n xs ≡ false
none_below p n m [] h = refl
none_below p n m (x ∷ xs) h = none_below_at p x n m xs (p x) refl h (none_below p (n + 1) m xs (omega arith))

any_below_at : {X : Type 0} (p : X → Bool) (x : X) (n m i : ℕ) (xs : List X) (b : Bool) → p x ≡ b → m ≡ n + suc i → first_below p m (n + 1) xs ≡ list_any p (take i xs)
    → first_below p m n (x ∷ xs) ≡ (p x || list_any p (take i xs))
any_below_at p x n m i xs true e h rest = rw e (grind (arith, nat_tests))
any_below_at p x n m i xs false e h rest = rw e rest

any_below : {X : Type 0} (p : X → Bool) (n m i : ℕ) (xs : List X) → m ≡ n + i → first_below p m n xs ≡ list_any p (take i xs)
any_below p n m zero xs h = none_below p n m xs (omega arith)
any_below p n m (suc i) [] h = refl
any_below p n m (suc i) (x ∷ xs) h = any_below_at p x n m i xs (p x) refl h (any_below p (n + 1) m i xs (omega arith))

-- the name's first table is below a row: one of the tables before the row has the name
pub named_before : (name : List ℕ) (row : ℕ) (ds : List Data) → is_below row (number_named name ds) ≡ list_any (λ d. bytes_eq name (name_of d)) (take row ds)
unfolding number_named
named_before name row ds = any_below (λ d. bytes_eq name (name_of d)) 0 row row ds (omega arith)
