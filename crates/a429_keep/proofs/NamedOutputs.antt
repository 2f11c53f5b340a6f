-- Lines that name as many things as there are, each once, name them all.
use Rattle.std.proofs.Common.{◌≡◌, ◌≢◌, ◌∙◌, ℕ, zero, suc, ◌<◌, ◌≤◌, List, [], ◌∷◌, ap, arith, get_or, length, map, refl, set, subst, sym}
use Rattle.std.specs.Prelude.{Contains, Option, Some, None, slice_get}
use Rattle.std.specs.List.{AllByRecursion, cons_option, filter_map, remove}
use Rattle.std.proofs.lemmas.List.Sorted.{Contains-permutation, IsPermutation-remove, length_permutation}
use Rattle.std.proofs.lemmas.Option.{none-some, same_Some}
use Rattle.std.specs.List.Sorted.{IsPermutation}
use Rattle.a429_cert.specs.Checked.{EachPair}
use Rattle.a429_cert.specs.Spelling.{Listing}
use Rattle.a429_word.proofs.Lists.{all_at}

-- one of the things is named by the line
abbrev pub Names : {X : Type 0} → (X → Listing → Type 0) → List X → Listing → Type 0
Names {X} R xs l = (x : X) × Contains xs x × R x l

-- a line names the thing
abbrev pub IsNamedIn : {X : Type 0} → (X → Listing → Type 0) → List Listing → X → Type 0
IsNamedIn {X} R ls x = (l : Listing) × Contains ls l × R x l

still_named : {X : Type 0} (R : X → Listing → Type 0) → ((x : X) (k l : Listing) → R x k → R x l → k.source ≡ l.source) → (xs rest : List X) (x : X) (k : Listing) (ls : List Listing)
    → IsPermutation xs (x ∷ rest) → R x k → AllByRecursion (λ l. k.source ≢ l.source) ls → AllByRecursion (Names R xs) ls → AllByRecursion (Names R rest) ls
still_named R own xs rest x k [] moved here apart named = tt
still_named {X} R own xs rest x k (l ∷ ls) moved here apart named =
    let (y, there, related) = named.0 in
    (left (Contains-permutation xs (x ∷ rest) y moved there) related, still_named R own xs rest x k ls moved here apart.1 named.1)
  where
    left : {y : X} → Contains (x ∷ rest) y → R y l → Names R rest l
    left {y} (zero, below, at) related = absurd (apart.0 (own y k l (subst (λ (z : X). R z k) at here) related))
    left {y} (suc j, below, at) related = (y, (j, omega arith, at), related)

pub all_named : {X : Type 0} (R : X → Listing → Type 0) → ((x : X) (k l : Listing) → R x k → R x l → k.source ≡ l.source) → (xs : List X) (ls : List Listing) → length xs ≤ length ls
    → AllByRecursion (Names R xs) ls → EachPair (λ k l. k.source ≢ l.source) ls → (x : X) → Contains xs x → IsNamedIn R ls x
all_named R own xs [] many named once x (k, below, at) = absurd (omega (arith, below, many))
all_named {X} R own xs (l ∷ ls) many named once x there =
    let (y, (k, below, at), related) = named.0 in
    let first : IsPermutation xs (y ∷ remove xs k) = IsPermutation-remove xs k y below (sym at) in
    let long : suc (length (remove xs k)) ≡ length xs = length_permutation xs (y ∷ remove xs k) first in
    let left : AllByRecursion (Names R (remove xs k)) ls = still_named R own xs (remove xs k) y l ls first related once.0 named.1 in
    later y (remove xs k) related (λ within. all_named R own (remove xs k) ls (omega (arith, many, long)) left once.1 x within) (Contains-permutation xs (y ∷ remove xs k) x first there)
  where
    later : (y : X) (rest : List X) → R y l → (Contains rest x → IsNamedIn R ls x) → Contains (y ∷ rest) x → IsNamedIn R (l ∷ ls) x
    later y rest related more (zero, below, at) = (l, (0, omega arith, refl), subst (λ (z : X). R z l) at related)
    later y rest related more (suc j, below, at) = let (m, (i, low, is), has) = more (j, omega arith, at) in (m, (suc i, omega arith, is), has)

-- ---- pairs by their places

pub pair_at : (R : Listing → Listing → Type 0) (ls : List Listing) (i j : ℕ) (k l : Listing) → EachPair R ls → i < j → slice_get ls i ≡ Some k → slice_get ls j ≡ Some l → R k l
pair_at R [] i j k l each less here there = absurd (none-some k here)
pair_at R (m ∷ ls) zero zero k l each less here there = absurd (omega arith)
pair_at R (m ∷ ls) zero (suc j) k l each less here there = subst (λ (z : Listing). R z l) (same_Some m k here) (all_at (R m) ls j l each.0 there)
pair_at R (m ∷ ls) (suc i) zero k l each less here there = absurd (omega arith)
pair_at R (m ∷ ls) (suc i) (suc j) k l each less here there = pair_at R ls i j k l each.1 (omega arith) here there

-- ---- what is read of each element

read_few : {X Y : Type 0} (f : X → Option Y) (xs : List X) → length (filter_map f xs) ≤ length xs
read_few f [] = omega arith
read_few {X} {Y} f (x ∷ xs) = by_first (f x) (filter_map f xs) (read_few f xs)
  where
    by_first : (m : Option Y) (ys : List Y) → length ys ≤ length xs → length (cons_option m ys) ≤ suc (length xs)
    by_first None ys few = omega (arith, few)
    by_first (Some y) ys few = omega (arith, few)

pub record IsReadOf {X Y : Type 0} (f : X → Option Y) (xs : List X) (i : ℕ) (y : Y) : Type 0 where
  pub from : X
  pub there : slice_get xs i ≡ Some from
  pub read : f from ≡ Some y

-- if as many are read as there are, each is read
pub each_read : {X Y : Type 0} (f : X → Option Y) (xs : List X) (i : ℕ) (y : Y) → length xs ≤ length (filter_map f xs) → slice_get (filter_map f xs) i ≡ Some y → IsReadOf f xs i y
each_read f [] i y many there = absurd (none-some y there)
each_read {X} {Y} f (x ∷ xs) i y many there = by_first (λ k few later. each_read f xs k y few later) (f x) refl i many there
  where
    by_first : ((k : ℕ) → length xs ≤ length (filter_map f xs) → slice_get (filter_map f xs) k ≡ Some y → IsReadOf f xs k y) → (m : Option Y) → f x ≡ m → (i : ℕ)
        → suc (length xs) ≤ length (cons_option m (filter_map f xs)) → slice_get (cons_option m (filter_map f xs)) i ≡ Some y → IsReadOf f (x ∷ xs) i y
    by_first later None is i many there = absurd (omega (arith, many, read_few f xs))
    by_first later (Some z) is zero many there = record { from = x; there = refl; read = is ∙ there }
    by_first later (Some z) is (suc i) many there =
        let r : IsReadOf f xs i y = later i (omega (arith, many)) there in
        record { from = r.from; there = r.there; read = r.read }

-- ---- a write that keeps what is looked at

pub kept_by_set : {X Y : Type 0} (f : X → Y) (xs : List X) (j : ℕ) (x d : X) → f x ≡ f (get_or xs j d) → map f (set xs j x) ≡ map f xs
kept_by_set f [] j x d same = refl
kept_by_set f (y ∷ xs) zero x d same = ap (λ z. z ∷ map f xs) same
kept_by_set f (y ∷ xs) (suc j) x d same = ap (λ zs. f y ∷ zs) (kept_by_set f xs j x d same)
