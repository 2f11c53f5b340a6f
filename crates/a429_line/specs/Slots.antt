-- The symbols of a slot (ARINC 429 Part 1: a gap of four bit times, bit 1 first; profile: the slot).
use Rattle.std.specs.Prelude.{ℕ, zero, suc, List, [], ◌∷◌, ◌++◌, Option, Some, None, ◌+◌, ◌==◌, if◌then◌else◌, replicate}
use Rattle.a429_word.specs.Bits.{bit}
use Rattle.a429_line.specs.declared.found.Symbol.{Symbol}
use Rattle.a429_line.specs.declared.found.Symbol.TheVariants.{Hi, Null, Lo}
use Rattle.a429_line.specs.declared.found.Found.{Found}
use Rattle.a429_line.specs.declared.found.Found.TheVariants as found

-- the level of a bit
abbrev pub symbol_of : ℕ → Symbol
symbol_of b = if b == 1 then Hi else Lo

-- this number of bits from bit n on
unfoldable pub bits_from : ℕ → ℕ → ℕ → List Symbol
bits_from n zero raw = []
bits_from n (suc count) raw = symbol_of (bit n raw) ∷ bits_from (n + 1) count raw

-- four Nulls and then bits 1 to 32, or 36 Nulls
unfoldable pub slot : Option ℕ → List Symbol
slot None = replicate 36 Null
slot (Some raw) = replicate 4 Null ++ bits_from 1 32 raw

-- what a reader reports of a slot
abbrev pub reports_of_slot : Option ℕ → List Found
reports_of_slot None = []
reports_of_slot (Some raw) = found.Word raw ∷ []
