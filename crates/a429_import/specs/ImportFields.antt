-- The values in the fields of rows of comma-separated values (profile: import).
use Rattle.std.specs.Prelude.{ℕ, ◌^◌, ◌+◌, ◌*◌, ◌-◌, ◌==◌, ◌&&◌, ◌||◌, List, [], ◌∷◌, Bool, true, false, not, Option, None, Some, codes, drop, if◌then◌else◌, is_some, length, nat_le, nat_lt, position, slice_get, slice_index_or, take}
use Rattle.std.specs.Char.{is_ascii_digit}
use Rattle.std.specs.List.{list_all, slice_split}
use Rattle.std.specs.Option.{option_and_then, option_map, option_or}
use Rattle.std.specs.Str.{bytes_eq, is_utf8}
use Rattle.a429_word.specs.Decimal.{decimal_number}
use Rattle.a429_word.specs.Texts.{label_value}
use Rattle.a429_filter.specs.FilterTexts.{filter_read}
use Rattle.a429_import.specs.ImportWords.{is_text, unwrapped}

-- the field of a row in a column; empty if there is no such field
abbrev pub field_in : ℕ → List (List ℕ) → List ℕ
field_in column row = slice_index_or row column []

-- a number, if it has 32 bits
abbrev pub in_32_bits : ℕ → Option ℕ
in_32_bits n = if nat_lt n (2 ^ 32) then Some n else None

-- one to ten decimal digits without leading zeros, below 2^32
unfoldable pub number_in : List ℕ → Option ℕ
number_in field = option_and_then in_32_bits (decimal_number field)

-- ---- milliseconds

-- what separates milliseconds from the digits below them: a point, and a comma if it does not separate fields
abbrev pub is_mark : ℕ → ℕ → Bool
is_mark separator b = (b == 46) || ((b == 44) && not (separator == 44))

-- a digit after the mark; 0 if there is none
abbrev pub digit_of : Option ℕ → ℕ
digit_of None = 0
digit_of (Some b) = if is_ascii_digit b then b - 48 else 0

-- digits after the mark: at least one, and only zeros from the fourth on
abbrev pub are_micros : List ℕ → Bool
are_micros digits = (nat_lt 0 (length digits) && list_all is_ascii_digit digits) && (nat_le (length digits) 3 || list_all (λ b. b == 48) (drop 3 digits))

-- the microseconds that they state
abbrev pub micros_in : List ℕ → Option ℕ
micros_in digits =
    if are_micros digits then Some ((digit_of (slice_get digits 0) * 100 + digit_of (slice_get digits 1) * 10) + digit_of (slice_get digits 2)) else None

-- the part before a point is not 0, and the part after it has three digits, as if the point separated thousands
abbrev pub has_thousands : List ℕ → Option ℕ → Bool
has_thousands field None = false
has_thousands field (Some place) = not (bytes_eq (take place field) (codes "0")) && (length (drop (place + 1) field) == 3)

-- Programs write semicolons if a comma comes before decimals. A point then separates thousands: 1.000 may be a thousand
abbrev pub may_be_thousands : ℕ → List ℕ → Bool
may_be_thousands separator field = (separator == 59) && has_thousands field (position (λ b. b == 46) field)

-- milliseconds below 4294967, and microseconds below them
abbrev pub together : Option ℕ → Option ℕ → Option ℕ
together (Some millis) (Some micros) = if nat_lt millis 4294967 && nat_lt micros 1000 then Some (millis * 1000 + micros) else None
together _ _ = None

abbrev pub parted_millis : List ℕ → Option ℕ → Option ℕ
parted_millis field None = together (decimal_number field) (Some 0)
parted_millis field (Some place) = together (decimal_number (take place field)) (micros_in (drop (place + 1) field))

-- the microseconds in a number of milliseconds, unless it may be a thousand times as much
unfoldable pub millis_in : ℕ → List ℕ → Option ℕ
millis_in separator field = if may_be_thousands separator field then None else parted_millis field (position (is_mark separator) field)

-- ---- bit rates

-- the words for the two usual bit rates
abbrev pub is_high : List ℕ → Bool
is_high field = is_text (codes "hs") field || (is_text (codes "high") field || is_text (codes "high speed") field)

abbrev pub is_low : List ℕ → Bool
is_low field = is_text (codes "ls") field || (is_text (codes "low") field || is_text (codes "low speed") field)

-- the bit rate in a word
abbrev pub worded_rate : List ℕ → Option ℕ
worded_rate field = if is_high field then Some 100000 else if is_low field then Some 12500 else None

-- a text without the space at its end, if it has one
abbrev pub without_space : List ℕ → List ℕ
without_space text = if slice_index_or text (length text - 1) 0 == 32 then take (length text - 1) text else text

-- a field ends with a unit, in any case
abbrev pub has_unit : List ℕ → List ℕ → Bool
has_unit unit field = nat_le (length unit) (length field) && is_text unit (drop (length field - length unit) field)

-- what comes before the unit of a field, and before a space above it
abbrev pub before_unit : List ℕ → List ℕ → Option (List ℕ)
before_unit unit field = if has_unit unit field then Some (without_space (take (length field - length unit) field)) else None

-- A number of kbit/s, in bit/s. Such a number has the form of one of milliseconds, whose thousandths are microseconds
abbrev pub kilobits_in : List ℕ → Option ℕ
kilobits_in field = option_and_then (millis_in 44) (option_or (before_unit (codes "kbit/s") field) (before_unit (codes "kbps") field))

-- a bit rate as a number of bit/s, in a word, or as a number of kbit/s
unfoldable pub rate_in : List ℕ → Option ℕ
rate_in field = option_or (number_in field) (option_or (worded_rate field) (kilobits_in field))

-- ---- labels and SDIs

-- three digits; leading zeros may be missing
abbrev pub padded : List ℕ → List ℕ
padded (low ∷ []) = 48 ∷ 48 ∷ low ∷ []
padded (middle ∷ low ∷ []) = 48 ∷ middle ∷ low ∷ []
padded digits = digits

-- the label in these digits, 000 to 377
unfoldable pub label_in : List ℕ → Option ℕ
label_in field = label_value (padded (unwrapped field))

abbrev pub is_bit : ℕ → Bool
is_bit digit = (digit == 48) || (digit == 49)

-- an SDI is 0 to 3, or two binary digits
abbrev pub sdi_digits : List ℕ → Option (Option ℕ)
sdi_digits (digit ∷ []) = if nat_le 48 digit && nat_le digit 51 then Some (Some (digit - 48)) else None
sdi_digits (high ∷ low ∷ []) = if is_bit high && is_bit low then Some (Some (2 * (high - 48) + (low - 48))) else None
sdi_digits _ = None

-- the words for any SDI, and an empty field
abbrev pub is_any : List ℕ → Bool
is_any field = ((length field == 0) || is_text (codes "any") field) || (is_text (codes "all") field || (is_text (codes "x") field || is_text (codes "-") field))

abbrev pub sdi_or_any : List ℕ → Option (Option ℕ)
sdi_or_any field = if is_any field then Some None else sdi_digits field

-- `Some None` for any SDI
unfoldable pub sdi_in : List ℕ → Option (Option ℕ)
sdi_in field = sdi_or_any (unwrapped field)

-- ---- texts

-- a number; `Some None` if the field is empty or `none`
unfoldable pub hold_in : List ℕ → Option (Option ℕ)
hold_in field = if (length field == 0) || bytes_eq field (codes "none") then Some None else option_map (λ n. Some n) (number_in field)

-- any text, if it is UTF-8
unfoldable pub utf8_in : List ℕ → Option (List ℕ)
utf8_in field = if is_utf8 field then Some field else None

-- the same, if it has at most 4096 bytes
unfoldable pub text_in : List ℕ → Option (List ℕ)
text_in field = if nat_le (length field) 4096 then utf8_in field else None

-- a part between spaces is a filter, or empty
abbrev pub is_filter_part : List ℕ → Bool
is_filter_part part = (length part == 0) || is_some (filter_read part)

abbrev pub are_filters : List ℕ → Bool
are_filters text = list_all is_filter_part (slice_split (λ b. b == 32) text)

abbrev pub if_filters : List ℕ → Option (List ℕ)
if_filters text = if are_filters text then Some text else None

-- filters, separated by spaces
unfoldable pub filters_in : List ℕ → Option (List ℕ)
filters_in field = option_and_then if_filters (text_in field)

-- ---- fields of an output

-- a row without a group has no output: such a field is empty
abbrev pub if_group : {A : Type 0} → Bool → (List ℕ → Option A) → A → List ℕ → Option A
if_group true read nothing field = read field
if_group false read nothing field = if length field == 0 then Some nothing else None
