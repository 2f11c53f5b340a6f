-- How long slots last (profile: docs/RULES.md, The slot grid).
use Rattle.std.specs.Prelude.{ℕ, ◌+◌, ◌*◌}
use Rattle.std.specs.Int.{div_ceil}
use Rattle.a429_grid.specs.Grid.{slot_time}

-- how long a number of slots is at a bit rate in bit/s: in microseconds, rounded up. A slot is 36 bit times
-- (ARINC 429 Part 1: a word has 32 bits, and the inter-word gap is at least 4 bit times).
abbrev pub slots_us : ℕ → ℕ → ℕ
slots_us rate slots = div_ceil (slot_time * slots) rate

-- The longest time in microseconds, within one plan, from the acceptance of a word until it, or a later word of its source, was sent completely.
-- The output has a period of this number of slots: one of its cells begins within one period, and lasts one slot.
abbrev pub latency_us : ℕ → ℕ → ℕ
latency_us rate period = slots_us rate (period + 1)
