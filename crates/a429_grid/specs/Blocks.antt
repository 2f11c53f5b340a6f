-- Blocks of places, and the slots that stand for them (profile: layout).
use Rattle.std.specs.Prelude.{◌≡◌, ℕ, ◌+◌, ◌-◌, ◌*◌, ◌/◌, ◌%◌, ◌^◌, ◌<◌, ◌≤◌, ◌↔◌}
use Rattle.a429_grid.specs.Reversal.{reversed}

-- the place of a slot among all: bus by bus, 2^digits on each, and on a bus by the slot with its digits in reverse
abbrev pub place_in : ℕ → ℕ → ℕ → ℕ
place_in digits bus slot = bus * 2 ^ digits + reversed digits (slot % 2 ^ digits)

-- the place is in block q, if each block has 2^size places
abbrev pub IsInBlock : ℕ → ℕ → ℕ → Type 0
IsInBlock size q place = (q * 2 ^ size ≤ place) × (place < q * 2 ^ size + 2 ^ size)

-- a block has the slots of one bus that leave one offset by 2^(digits - size), and no others
pub record HasPeriodicBlocks (digits : ℕ) : Type 0 where
  pub slots : (size q bus slot : ℕ) → size ≤ digits
      → IsInBlock size q (place_in digits bus slot)
      ↔ ((bus ≡ q * 2 ^ size / 2 ^ digits) × (slot % 2 ^ (digits - size) ≡ reversed digits (q * 2 ^ size % 2 ^ digits)))
  pub offset : (size q : ℕ) → size ≤ digits → reversed digits (q * 2 ^ size % 2 ^ digits) < 2 ^ (digits - size)
