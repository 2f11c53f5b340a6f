-- The tolerance if none is given (profile: docs/FORMATS.md, Output of `judge`).
use Rattle.std.specs.Prelude.{◌*◌, ◌/◌, ℕ, min}
use Rattle.std.specs.Int.{div_ceil}

-- two slots of 36 bit times, in microseconds, rounded up
abbrev pub two_slots : ℕ → ℕ
two_slots rate = div_ceil 72000000 rate

-- half a period, which is in slots, in microseconds, rounded down
abbrev pub half_period : ℕ → ℕ → ℕ
half_period rate period = 18000000 * period / rate

-- the lesser of two slots and half the shortest period of a group
abbrev pub default_tolerance : ℕ → ℕ → ℕ
default_tolerance rate shortest = min (two_slots rate) (half_period rate shortest)
