-- How arrays keep lists (vocabulary of contracts).
use Rattle.std.specs.Prelude.{◌≡◌, ◌+◌, ◌-◌, ◌≤◌, ◌++◌, [], ◌∷◌, ℕ, List, length, replicate, sum, take}
use Rattle.std.specs.List.{All}
use Rattle.std.proofs.Common.{ap, arith, length-append}
use Rattle.std.proofs.lemmas.List.{length-replicate, length-take-le}
use Rattle.a429_pack.specs.Layout.{Layout}

-- a list in an array of n, followed by one value in all other places
abbrev pub padded : {A : Type 0} → A → ℕ → List A → List A
padded d n xs = xs ++ replicate (n - length xs) d

-- the beginning of each stretch, the first one at s
abbrev pub starts_from : ℕ → List ℕ → List ℕ
starts_from s [] = []
starts_from s (d ∷ demands) = s ∷ starts_from (s + d) demands

-- two arrays of n keep the first `count` demands and their starts, followed by zeros
pub record AreKept (n : ℕ) (first second : List ℕ) (count end : ℕ) : Type 0 where
  pub room : count ≤ n
  pub demands : first ≡ padded 0 n (take count first)
  pub starts : second ≡ padded 0 n (starts_from 0 (take count first))
  pub total : end ≡ sum (take count first)
  pub some : All (λ d. 1 ≤ d) (take count first)

-- the layout that is kept as these demands and an array of inputs: as many inputs as there are demands
abbrev pub kept_layout : ℕ → ℕ → List ℕ → List ℕ → Layout
kept_layout frame buses demands inputs = record { frame = frame; buses = buses; inputs = take (length demands) inputs; demands = demands }

pub length-padded : {A : Type 0} (d : A) (n : ℕ) (xs : List A) → n ≤ length (padded d n xs)
length-padded {A} d n xs = omega (arith, length-append xs (replicate (n - length xs) d), length-replicate {A = A} (n - length xs) d)

-- an array that is kept so has the count's length
pub length-kept : {A : Type 0} (d : A) (n : ℕ) (xs : List A) (count : ℕ) → count ≤ n → xs ≡ padded d n (take count xs) → length (take count xs) ≡ count
length-kept d n xs count room kept = length-take-le count xs (omega (arith, ap length kept, length-padded d n (take count xs)))
