-- The least spacing of an interval.
use Rattle.std.proofs.Common.{ℕ, ◌*◌, ◌≤◌, arith}
use Rattle.a429_grid.specs.Grid.{IsGridPeriod, IsLeastSpacing, least_spacing}

pub is_least : (min_us rate : ℕ) → IsLeastSpacing min_us rate (least_spacing min_us rate)
is_least min_us rate =
    let n : ℕ = min_us * rate in
    (omega arith, λ r enough. omega (arith, enough))

pub within_period : (min_us max_us rate p : ℕ) → IsGridPeriod min_us max_us rate p → least_spacing min_us rate ≤ p
within_period min_us max_us rate p grid = (is_least min_us rate).1 p grid.1.0
