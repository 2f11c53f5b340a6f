-- Times in ticks of a recorder's clock (profile: log).
use Rattle.std.specs.Prelude.{◌==◌, ◌&&◌, ◌||◌, ◌*◌, ◌/◌, ◌^◌, ◌∷◌, ℕ, List, Option, Some, None, if◌then◌else◌, length, nat_le, nat_lt, option_and_then}
use Rattle.a429_word.specs.Hexadecimal.{hex_onto}

-- hexadecimal digits may come after `0x`
abbrev pub without_prefix : List ℕ → List ℕ
without_prefix (a ∷ b ∷ digits) = if a == 48 && (b == 120 || b == 88) then digits else a ∷ b ∷ digits
without_prefix text = text

-- one to sixteen hexadecimal digits
unfoldable pub hex_count : List ℕ → Option ℕ
hex_count digits = if nat_le 1 (length digits) && nat_le (length digits) 16 then hex_onto 0 digits else None

-- how many ticks a text counts
abbrev pub tick_count : List ℕ → Option ℕ
tick_count text = hex_count (without_prefix text)

-- a time in microseconds, which has at most eighteen digits
abbrev pub in_18_digits : ℕ → Option ℕ
in_18_digits micros = if nat_lt micros (10 ^ 18) then Some micros else None

-- each tick lasts this number of nanoseconds; what is left below a microsecond is dropped
abbrev pub tick_micros : ℕ → ℕ → Option ℕ
tick_micros nanoseconds count = in_18_digits (count * nanoseconds / 1000)

-- the microseconds that a text states in ticks
unfoldable pub tick_time : ℕ → List ℕ → Option ℕ
tick_time nanoseconds text = option_and_then (tick_micros nanoseconds) (tick_count text)
