-- The time of a word in a log, in microseconds (profile: log).
use Rattle.std.specs.Prelude.{◌==◌, ◌&&◌, ◌||◌, ◌+◌, ◌/◌, ◌++◌, ◌∷◌, [], ℕ, Bool, true, false, List, Option, Some, None, if◌then◌else◌, drop, is_some, length, nat_le, nat_lt, position, suc, take, zero}
use Rattle.std.specs.List.{list_all}
use Rattle.std.specs.Char.{is_ascii_digit}
use Rattle.std.specs.Str.Parse.{digits_value}
use Rattle.a429_logs.specs.LogTicks.{tick_count, tick_time}
use Rattle.a429_logs.specs.declared.fields.Separator.{Separator}
use Rattle.a429_logs.specs.declared.fields.Separator.TheVariants.{Semicolon}
use Rattle.a429_logs.specs.declared.times.TimeUnit.{TimeUnit}
use Rattle.a429_logs.specs.declared.times.TimeUnit.TheVariants.{Nanoseconds, Microseconds, Milliseconds, Seconds, Ticks}

-- decimal digits, of which there are at most eighteen
abbrev pub decimal_digits : List ℕ → Option ℕ
decimal_digits text =
    if (nat_lt 0 (length text) && nat_le (length text) 18) && list_all is_ascii_digit text then Some (digits_value 10 text) else None

-- a number from the least to the most
abbrev pub within : ℕ → ℕ → Option ℕ → Option ℕ
within least most None = None
within least most (Some n) = if nat_le least n && nat_le n most then Some n else None

-- a number of one digit or two, up to the most
abbrev pub two_digits : ℕ → List ℕ → Option ℕ
two_digits most text = if nat_le (length text) 2 then within 0 most (decimal_digits text) else None

-- how many decimals of a unit are microseconds
abbrev pub decimals : TimeUnit → ℕ
decimals Milliseconds = 3
decimals Seconds = 6
decimals _ = 0

-- what separates whole units from decimals: a point, and between semicolons a comma too
abbrev pub is_point : Separator → ℕ → Bool
is_point Semicolon b = b == 46 || b == 44
is_point _ b = b == 46

-- decimal digits, of which there is at least one; with those of microseconds below them at most eighteen
abbrev pub is_whole : TimeUnit → List ℕ → Bool
is_whole unit whole = (nat_lt 0 (length whole) && nat_le (length whole + decimals unit) 18) && list_all is_ascii_digit whole

-- microseconds are whole, and so are ticks
abbrev pub has_fractions : TimeUnit → Bool
has_fractions Microseconds = false
has_fractions (Ticks nanoseconds) = false
has_fractions _ = true

-- decimal digits, of which there is at least one, below a unit that is not the microsecond
abbrev pub is_fraction : TimeUnit → List ℕ → Bool
is_fraction unit fraction = (has_fractions unit && nat_lt 0 (length fraction)) && list_all is_ascii_digit fraction

-- the first digits of a fraction, as many as these; a digit that is not there is 0
abbrev pub first_digits : ℕ → List ℕ → List ℕ
first_digits zero fraction = []
first_digits (suc count) [] = 48 ∷ first_digits count []
first_digits (suc count) (digit ∷ digits) = digit ∷ first_digits count digits

-- the digits of microseconds: those of whole units, and then the decimals that are microseconds; later decimals are dropped
abbrev pub micros_digits : TimeUnit → List ℕ → List ℕ → List ℕ
micros_digits unit whole fraction = whole ++ first_digits (decimals unit) fraction

-- the microseconds of a number of such digits: 1000 nanoseconds are one
abbrev pub in_micros : TimeUnit → ℕ → ℕ
in_micros Nanoseconds n = n / 1000
in_micros _ n = n

unfoldable pub micros : TimeUnit → List ℕ → List ℕ → ℕ
micros unit whole fraction = in_micros unit (digits_value 10 (micros_digits unit whole fraction))

abbrev pub whole_time : TimeUnit → List ℕ → Option ℕ
whole_time unit whole = if is_whole unit whole then Some (micros unit whole []) else None

abbrev pub parted_time : TimeUnit → List ℕ → List ℕ → Option ℕ
parted_time unit whole fraction = if is_whole unit whole && is_fraction unit fraction then Some (micros unit whole fraction) else None

abbrev pub time_by : TimeUnit → List ℕ → Option ℕ → Option ℕ
time_by unit text None = whole_time unit text
time_by unit text (Some k) = parted_time unit (take k text) (drop (k + 1) text)

-- the microseconds that a decimal number of a unit states
unfoldable pub decimal_time : TimeUnit → Separator → List ℕ → Option ℕ
decimal_time unit separator text = time_by unit text (position (is_point separator) text)

-- the microseconds that a text states in a unit
abbrev pub time_of : TimeUnit → Separator → List ℕ → Option ℕ
time_of (Ticks nanoseconds) separator text = tick_time nanoseconds text
time_of unit separator text = decimal_time unit separator text

-- ---- what can be a time

-- a text has a digit first
abbrev pub begins_with_digit : List ℕ → Bool
begins_with_digit [] = false
begins_with_digit (c ∷ cs) = is_ascii_digit c

-- a time begins with a digit; a count of ticks may begin with a letter
abbrev pub can_be_time : TimeUnit → List ℕ → Bool
can_be_time (Ticks nanoseconds) field = begins_with_digit field || is_some (tick_count field)
can_be_time _ field = begins_with_digit field
