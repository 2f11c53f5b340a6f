-- What a group asks of its buses, by its outputs' periods alone (profile: layout).
use Rattle.std.specs.Prelude.{ℕ, ◌-◌, ◌*◌, ◌/◌, ◌^◌, ◌<◌, ◌≤◌, List, map, sum}
use Rattle.a429_pack.specs.Demands.{greatest}
use Rattle.a429_pack.specs.Schedules.{IsFewest}

-- how many cells of a frame the outputs of these periods' exponents fill
abbrev pub demand_of : List ℕ → ℕ
demand_of exponents = sum (map (λ k. 2 ^ greatest exponents / 2 ^ k) exponents)

-- this number of buses carries the demand in one frame, and one bus less does not
pub record IsBusCount (exponents : List ℕ) (buses : ℕ) : Type 0 where
  pub within : demand_of exponents ≤ buses * 2 ^ greatest exponents
  pub above : (buses - 1) * 2 ^ greatest exponents < demand_of exponents

-- The number of buses is the fewest for outputs of these periods' exponents, of all schedules that are at least as long
-- as the greatest of the periods. In some schedule with that number of rows each output recurs within its period, and
-- in none with fewer rows.
abbrev pub AreFewestBuses : List ℕ → ℕ → Type 0
AreFewestBuses exponents buses = IsFewest (2 ^ greatest exponents) (map (λ k. 2 ^ k) exponents) buses
