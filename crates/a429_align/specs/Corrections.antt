-- Times of a clock that is fast or slow (profile: log).
use Rattle.std.specs.Prelude.{◌+◌, ◌-◌, ◌*◌, ◌/◌, ℕ, Option}
use Rattle.a429_logs.specs.Calendars.{in_64_bits}
use Rattle.a429_arguments.specs.declared.times.Drift.{Drift}
use Rattle.a429_arguments.specs.declared.times.Drift.TheVariants as drift

-- this many parts in 10^9 of a time, rounded down
abbrev pub part_of : ℕ → ℕ → ℕ
part_of time parts = time * parts / 1000000000

-- how many parts a drift has
abbrev pub parts_of : Drift → ℕ
parts_of (drift.Fast parts) = parts
parts_of (drift.Slow parts) = parts

-- a time without what its clock is fast, or with what it is slow
abbrev pub corrected : Drift → ℕ → Option ℕ
corrected (drift.Fast parts) time = in_64_bits (time - part_of time parts)
corrected (drift.Slow parts) time = in_64_bits (time + part_of time parts)
