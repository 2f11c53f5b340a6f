-- The raw bound of a group's windows is a lower bound for every endless schedule.
use Rattle.std.proofs.Common.{◌≡◌, ℕ, suc, ◌+◌, ◌*◌, ◌/◌, ◌%◌, ◌^◌, ◌≤◌, ◌<◌, List, [], ◌∷◌, sym, ap, ◌∙◌, arith, inl, inr, length, map, sum}
use Rattle.std.specs.Prelude.{slice_index, min}
use Rattle.std.proofs.lemmas.Grind.{div_ceil_times}
use Rattle.std.proofs.lemmas.Nat.{pow_pos}
use Rattle.std.proofs.lemmas.List.Sums.{sum_by-cons}
use Rattle.std.proofs.lemmas.Bool.{cases_lt}
use Rattle.std.proofs.Math.Nat.{mul-le-mul_right}
use Rattle.a429_pack.specs.Windows.{Endless, ServesEndlessly, begun, cells_asked, raw_bound}
use Rattle.a429_pack.proofs.Counting.{total, total-zero, total-suc, total-append, total-ext, wholes_fit}

one_more : (i : ℕ) → 1 + i ≡ suc i
one_more i = omega arith

-- the sum of a list is the total over its places
total_of : (f : ℕ → ℕ) (xs : List ℕ) → total (length xs) (λ i. f (slice_index xs i)) ≡ sum (map f xs)
total_of f [] = total-zero (λ i. f (slice_index [] i))
total_of f (x ∷ xs) =
    let g : ℕ → ℕ = λ i. f (slice_index (x ∷ xs) i) in
    let rest : ℕ = total (length xs) (λ i. f (slice_index xs i)) in
    let later : (i : ℕ) → g (1 + i) ≡ f (slice_index xs i) = λ i. ap g (one_more i) in
    let split : total (1 + length xs) g ≡ total 1 g + total (length xs) (λ i. g (1 + i)) = total-append 1 (length xs) g in
    let behind : total (length xs) (λ i. g (1 + i)) ≡ rest = total-ext (length xs) (λ i. g (1 + i)) (λ i. f (slice_index xs i)) (λ i below. later i) in
    let one : total 1 g ≡ total 0 g + f x = total-suc 0 g in
    let sum_rest : rest ≡ sum (map f xs) = total_of f xs in
    let parts : total (1 + length xs) g ≡ f x + sum (map f xs) = omega (arith, split, behind, one, total-zero g, sum_rest) in
    ap (λ n. total n g) (sym (one_more (length xs))) ∙ parts ∙ sym (sum_by-cons (λ z. z) (f x) (map f xs))

pub cells_are_asked : (windows : List ℕ) (e : Endless) → ServesEndlessly windows e → (slots : ℕ) → cells_asked slots windows ≤ slots * e.rows
cells_are_asked windows e serves slots =
    omega (arith, total_of (λ w. slots / w) windows, wholes_fit slots windows (begun slots e) (serves slots))

below_ceiling : (a b r : ℕ) → 0 < b → a ≤ b * r → a / b + min 1 (a % b) ≤ r
below_ceiling a b r some low =
    let q : ℕ = a / b + min 1 (a % b) in
    let (above, tight) = div_ceil_times a b some in
    elim (cases_lt r q) [
      | inl less ↦
          let more : (r + 1) * b ≤ q * b = mul-le-mul_right {m = r + 1} {n = q} b (omega arith) in
          absurd (omega arith)
      | inr fine ↦ fine
    ]

pub bound_holds : (windows : List ℕ) (e : Endless) → ServesEndlessly windows e → raw_bound windows ≤ e.rows
bound_holds windows e serves =
    below_ceiling (cells_asked (2 ^ 32) windows) (2 ^ 32) e.rows (pow_pos 32) (cells_are_asked windows e serves (2 ^ 32))
