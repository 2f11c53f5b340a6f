-- Whole numbers as decimal digits (profile: numbers in texts).
use Rattle.std.specs.Prelude.{◌==◌, ◌&&◌, ◌||◌, ℕ, Bool, List, Option, Some, None, if◌then◌else◌, length, nat_le, nat_lt, not, slice_index}
use Rattle.std.specs.List.{list_all}
use Rattle.std.specs.Char.{is_ascii_digit}
use Rattle.std.specs.Str.Parse.{digits_value}

-- one to ten digits, of which the first is 0 only if it is alone
unfoldable pub is_numeral : List ℕ → Bool
is_numeral w = nat_lt 0 (length w) && nat_le (length w) 10 && (nat_le (length w) 1 || not (slice_index w 0 == 48)) && list_all is_ascii_digit w

-- the number that such digits state
unfoldable pub decimal_number : List ℕ → Option ℕ
decimal_number w = if is_numeral w then Some (digits_value 10 w) else None
