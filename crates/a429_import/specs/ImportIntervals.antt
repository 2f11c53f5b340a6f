-- Intervals in fields: microseconds, milliseconds or rates, and one limit or both in a field (profile: import).
use Rattle.std.specs.Prelude.{ℕ, ◌+◌, ◌/◌, ◌%◌, ◌^◌, ◌==◌, ◌&&◌, ◌||◌, Bool, false, not, List, Option, None, Some, codes, drop, if◌then◌else◌, is_some, nat_le, position, slice_index_or, take}
use Rattle.std.specs.Option.{option_and_then, option_or}
use Rattle.a429_import.specs.declared.fault.ImportColumn.{ImportColumn}
use Rattle.a429_import.specs.declared.fault.ImportColumn.TheVariants.{MinUs, MaxUs}
use Rattle.a429_import.specs.declared.intervals.IntervalForm.{IntervalForm}
use Rattle.a429_import.specs.declared.intervals.IntervalUnit.{IntervalUnit}
use Rattle.a429_import.specs.declared.intervals.IntervalUnit.TheVariants.{Micros, Millis, Hertz}
use Rattle.a429_import.specs.ImportFields.{millis_in, number_in}
use Rattle.a429_import.specs.ImportWords.{trimmed}
use Rattle.a429_import.specs.Letters.{same_heading}

-- ---- names

-- the unit in a name, of the names in microseconds, in milliseconds and in Hz
abbrev pub unit_among : List ℕ → List ℕ → List ℕ → List ℕ → Option IntervalUnit
unit_among micros millis hertz name =
    if same_heading micros name then Some Micros else if same_heading millis name then Some Millis else if same_heading hertz name then Some Hertz else None

-- of a column of one limit: the greatest rate gives the minimum interval, and the least rate the maximum
abbrev pub limit_unit : ImportColumn → List ℕ → Option IntervalUnit
limit_unit MinUs name = unit_among (codes "min_us") (codes "min_ms") (codes "max_hz") name
limit_unit MaxUs name = unit_among (codes "max_us") (codes "max_ms") (codes "min_hz") name
limit_unit _ name = None

-- of a column of both limits
abbrev pub both_unit : ImportColumn → List ℕ → Option IntervalUnit
both_unit MinUs name = unit_among (codes "interval_us") (codes "interval_ms") (codes "rate_hz") name
both_unit MaxUs name = unit_among (codes "interval_us") (codes "interval_ms") (codes "rate_hz") name
both_unit _ name = None

-- how the column with this name states an interval; in microseconds if the name is that of no interval
abbrev pub unit_or_micros : Option IntervalUnit → IntervalUnit
unit_or_micros None = Micros
unit_or_micros (Some unit) = unit

abbrev pub form_named : ImportColumn → List ℕ → IntervalForm
form_named column name = record { unit = unit_or_micros (option_or (limit_unit column name) (both_unit column name)); has_both = is_some (both_unit column name) }

abbrev pub in_micros : IntervalForm
in_micros = record { unit = Micros; has_both = false }

-- a name is that of a limit of intervals, or of both
abbrev pub states_interval : ImportColumn → List ℕ → Bool
states_interval column name = is_some (limit_unit column name) || is_some (both_unit column name)

-- ---- fields

-- a number of microseconds, or thousandths of a millisecond or of a hertz
abbrev pub value_in : IntervalUnit → ℕ → List ℕ → Option ℕ
value_in Micros separator field = number_in field
value_in Millis separator field = millis_in separator field
value_in Hertz separator field = millis_in separator field

-- the microseconds of a period at a rate in thousandths of a hertz, rounded up or down; none at 0 Hz
abbrev pub period_up : ℕ → Option ℕ
period_up rate = if rate == 0 then None else Some (10 ^ 9 / rate + (if 10 ^ 9 % rate == 0 then 0 else 1))

abbrev pub period_down : ℕ → Option ℕ
period_down rate = if rate == 0 then None else Some (10 ^ 9 / rate)

-- a limit in microseconds, the minimum if the flag is set: it is rounded up, and a maximum down, so that the interval is not left
abbrev pub limit_in : Bool → IntervalUnit → ℕ → Option ℕ
limit_in is_least Micros value = Some value
limit_in is_least Millis value = Some value
limit_in is_least Hertz value = if is_least then period_up value else period_down value

-- `/`, `-` or an en dash (U+2013) divides the two limits: its first byte, and its length
abbrev pub is_divider : ℕ → Bool
is_divider b = (b == 47) || ((b == 45) || (b == 226))

abbrev pub divider_len : List ℕ → ℕ
divider_len rest = if (slice_index_or rest 0 0 == 226) && ((slice_index_or rest 1 0 == 128) && (slice_index_or rest 2 0 == 147)) then 3 else 1

-- two numbers, the smaller first
abbrev pub ordered : Option ℕ → Option ℕ → Option (ℕ × ℕ)
ordered (Some a) (Some b) = if nat_le a b then Some (a, b) else None
ordered _ _ = None

abbrev pub parted : IntervalUnit → ℕ → List ℕ → ℕ → Option (ℕ × ℕ)
parted unit separator field place =
    ordered (value_in unit separator (trimmed (take place field))) (value_in unit separator (trimmed (drop (place + divider_len (drop place field)) field)))

-- the two numbers of a field
abbrev pub both_in : IntervalUnit → ℕ → List ℕ → Option (ℕ × ℕ)
both_in unit separator field = option_and_then (parted unit separator field) (position is_divider field)

-- the one of a limit: the minimum is the smaller interval, or the greater rate
abbrev pub takes_second : Bool → IntervalUnit → Bool
takes_second is_least Hertz = is_least
takes_second is_least _ = not is_least

abbrev pub limit_of_both : Bool → IntervalUnit → ℕ × ℕ → Option ℕ
limit_of_both is_least unit both = limit_in is_least unit (if takes_second is_least unit then both.1 else both.0)

-- a limit of an interval, in microseconds, from a column of this form
unfoldable pub interval_in : Bool → IntervalForm → ℕ → List ℕ → Option ℕ
interval_in is_least form separator field =
    if form.has_both then option_and_then (limit_of_both is_least form.unit) (both_in form.unit separator field) else option_and_then (limit_in is_least form.unit) (value_in form.unit separator field)
