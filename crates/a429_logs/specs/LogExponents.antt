-- Times with an exponent in a log, such as 3.60e-04 (profile: log).
use Rattle.std.specs.Prelude.{◌==◌, ◌&&◌, ◌||◌, ◌+◌, ◌-◌, ◌++◌, ◌∷◌, [], ℕ, Bool, List, Option, Some, None, if◌then◌else◌, drop, length, nat_lt, option_and_then, option_map, position, take}
use Rattle.std.specs.List.{list_all}
use Rattle.std.specs.Char.{is_ascii_digit}
use Rattle.std.specs.Str.Parse.{digits_value}
use Rattle.a429_logs.specs.LogTicks.{in_18_digits}
use Rattle.a429_logs.specs.LogTimes.{decimals, first_digits, is_point, two_digits}
use Rattle.a429_logs.specs.declared.exponents.PointMove.{PointMove}
use Rattle.a429_logs.specs.declared.fields.Separator.{Separator}
use Rattle.a429_logs.specs.declared.times.TimeUnit.{TimeUnit}
use Rattle.a429_logs.specs.declared.times.TimeUnit.TheVariants.{Nanoseconds, Ticks}

-- an exponent comes after `e` or `E`
abbrev pub is_exponent_mark : ℕ → Bool
is_exponent_mark b = b == 101 || b == 69

-- an exponent moves the point by as many places to the right
abbrev pub to_the_right : ℕ → PointMove
to_the_right places = record { right = places; left = 0 }

-- one with a minus moves it to the left
abbrev pub to_the_left : ℕ → PointMove
to_the_left places = record { right = 0; left = places }

-- one digit or two, which may follow a sign
abbrev pub exponent_in : List ℕ → Option PointMove
exponent_in [] = None
exponent_in (c ∷ digits) =
    if c == 45 then option_map to_the_left (two_digits 99 digits)
    else if c == 43 then option_map to_the_right (two_digits 99 digits)
    else option_map to_the_right (two_digits 99 (c ∷ digits))

-- how many decimals of a microsecond this unit has
abbrev pub places_below : TimeUnit → ℕ
places_below Nanoseconds = 3
places_below _ = 0

-- how many digits are those of microseconds, if this many are before the point, and the point then moves
abbrev pub micros_count : TimeUnit → PointMove → ℕ → ℕ
micros_count unit move whole = (whole + decimals unit + move.right) - (places_below unit + move.left)

-- the microseconds of digits before and after the point, which then moves; zeros are filled in, and later digits dropped
unfoldable pub moved_time : TimeUnit → PointMove → List ℕ → List ℕ → Option ℕ
moved_time unit move whole fraction =
    in_18_digits (digits_value 10 (first_digits (micros_count unit move (length whole)) (whole ++ fraction)))

-- decimal digits, of which there is at least one
abbrev pub has_digits_only : List ℕ → Bool
has_digits_only text = nat_lt 0 (length text) && list_all is_ascii_digit text

-- the mantissa: digits, and perhaps a point and digits
abbrev pub mantissa_time : TimeUnit → PointMove → List ℕ → Option ℕ → Option ℕ
mantissa_time unit move text None = if has_digits_only text then moved_time unit move text [] else None
mantissa_time unit move text (Some k) =
    if has_digits_only (take k text) && has_digits_only (drop (k + 1) text) then moved_time unit move (take k text) (drop (k + 1) text) else None

-- a mantissa, and an exponent after the first `e` or `E`, at this place
abbrev pub exponent_by : TimeUnit → Separator → List ℕ → Option ℕ → Option ℕ
exponent_by unit separator text None = None
exponent_by unit separator text (Some k) =
    option_and_then (λ move. mantissa_time unit move (take k text) (position (is_point separator) (take k text))) (exponent_in (drop (k + 1) text))

-- the microseconds that a number with an exponent states in a unit; ticks have none
unfoldable pub exponent_time : TimeUnit → Separator → List ℕ → Option ℕ
exponent_time (Ticks nanoseconds) separator text = None
exponent_time unit separator text = exponent_by unit separator text (position is_exponent_mark text)
