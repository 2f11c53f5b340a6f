-- The number of buses that carry the demand of a frame.
use Rattle.std.proofs.Common.{ℕ, ◌+◌, ◌-◌, ◌*◌, ◌/◌, ◌^◌, ◌<◌, ◌≤◌, List, [], ◌∷◌, length, map, refl, arith}
use Rattle.std.specs.Int.{div_ceil}
use Rattle.std.proofs.Math.Nat.{le-max_left}
use Rattle.std.proofs.lemmas.List.Sums.{sum_by-cons}
use Rattle.std.proofs.lemmas.Nat.{pow_pos}
use Rattle.a429_pack.specs.Demanded.{IsBusCount, demand_of}
use Rattle.a429_pack.specs.Demands.{greatest}
use Rattle.a429_pack.proofs.Packings.{all_but_last, ceil_fits, demand_over}
use Rattle.a429_documents.specs.Lint.{bus_count}

some_cell : (exponents : List ℕ) → 1 ≤ length exponents → 1 ≤ demand_of exponents
some_cell [] some = absurd (omega (arith, some))
some_cell (k ∷ exponents) some =
    let h : ℕ = greatest (k ∷ exponents) in
    omega (arith, sum_by-cons (λ x. x) (2 ^ h / 2 ^ k) (map (λ j. 2 ^ h / 2 ^ j) exponents), demand_over h k (le-max_left k (greatest exponents)), pow_pos (h - k))

pub counted : (exponents : List ℕ) → 1 ≤ length exponents → IsBusCount exponents (bus_count exponents)
counted exponents some =
    let x : ℕ = 2 ^ greatest exponents in
    let total : ℕ = demand_of exponents in
    let fits : (total ≤ div_ceil total x * x) × (div_ceil total x * x < total + x) = ceil_fits (greatest exponents) total x (div_ceil total x) refl refl in
    record { within = fits.0; above = all_but_last (div_ceil total x) x total fits.1 (some_cell exponents some) }
