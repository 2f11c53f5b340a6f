-- Intervals that contain the next longer grid period.
use Rattle.std.proofs.Common.{ℕ, ◌*◌, ◌≤◌, arith}
use Rattle.std.proofs.lemmas.Grind.{div_ceil_times}
use Rattle.a429_grid.specs.Grid.{IsGridPeriod, IsPeriod}
use Rattle.a429_slots.specs.Times.{slots_us}

pub next_period : (min_us max_us rate p : ℕ) → 1 ≤ rate → rate ≤ 100000 → IsPeriod (2 * p) → IsGridPeriod min_us max_us rate p
    → IsGridPeriod min_us (slots_us rate (2 * p)) rate (2 * p)
next_period min_us max_us rate p some few next (period, within, greatest) =
    let bounds = div_ceil_times (36000000 * (2 * p)) rate some in
    (next, (omega (arith, within.0), bounds.0), λ q q_period q_within. omega (arith, q_within.1, bounds.1, few))
