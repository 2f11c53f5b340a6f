-- The rows of a log: a time, a name and a word (profile: log).
use Rattle.std.specs.Prelude.{◌==◌, ◌&&◌, ◌||◌, ◌+◌, ◌-◌, ◌*◌, ◌/◌, ◌^◌, ◌∷◌, [], ℕ, Bool, true, false, List, Option, Some, None, Result, Ok, Err, if◌then◌else◌, codes, get_or, length, nat_le, nat_lt, option_map}
use Rattle.a429_word.specs.Bits.{has_odd_parity, reversed_from}
use Rattle.a429_word.specs.Hexadecimal.{hex_number, raw_word}
use Rattle.a429_logs.specs.LateDates.{late_time}
use Rattle.a429_logs.specs.LogColumns.{and_then, fits, is_named, width_of}
use Rattle.a429_logs.specs.LogDates.{calendar_time, if_some, or_second}
use Rattle.a429_logs.specs.LogExponents.{exponent_time}
use Rattle.a429_logs.specs.LogTicks.{without_prefix}
use Rattle.a429_logs.specs.LogTimes.{decimal_digits, time_of}
use Rattle.a429_logs.specs.declared.columns.Base.{Base}
use Rattle.a429_logs.specs.declared.columns.Base.TheVariants.{Two, Eight, Ten, Sixteen}
use Rattle.a429_logs.specs.declared.columns.PartsPlaces.{PartsPlaces}
use Rattle.a429_logs.specs.declared.columns.Places.{Places}
use Rattle.a429_logs.specs.declared.columns.WordPlaces.{WordPlaces}
use Rattle.a429_logs.specs.declared.columns.WordPlaces.TheVariants.{Whole, Parts}
use Rattle.a429_logs.specs.declared.fields.Separator.{Separator}
use Rattle.a429_logs.specs.declared.rows.RowFault.{RowFault}
use Rattle.a429_logs.specs.declared.rows.RowFields.{RowFields}
use Rattle.a429_logs.specs.declared.rows.RowWord.{RowWord}
use Rattle.a429_logs.specs.declared.rows.StatedWord.{StatedWord}
use Rattle.a429_logs.specs.declared.rows.RowFault.TheVariants as fault
use Rattle.a429_logs.specs.declared.times.TimeUnit.{TimeUnit}
use Rattle.a429_logs.specs.declared.written.WrittenTime.{WrittenTime}
use Rattle.a429_logs.specs.declared.written.WrittenTime.TheVariants.{Micros}
use Rattle.a429_logs.specs.declared.parts.WrittenParity.{WrittenParity}
use Rattle.a429_logs.specs.declared.parts.WrittenParity.TheVariants.{Bit, Odd}
use Rattle.a429_logs.specs.declared.words.BitOrder.{BitOrder}
use Rattle.a429_logs.specs.declared.words.BitOrder.TheVariants.{AsWritten, LabelReversed, WordReversed}

-- ---- words

-- eight hexadecimal digits
unfoldable pub whole_word : List ℕ → Option ℕ
whole_word text = raw_word (without_prefix text)

-- The word that a recorder writes as these 32 bits. A recorder may write the label (bits 1 to 8; ARINC 429 Part 1, word format) with its
-- bits reversed, or all 32 bits.
abbrev pub unreversed : BitOrder → ℕ → ℕ
unreversed AsWritten raw = raw
unreversed LabelReversed raw = 256 * (raw / 256) + reversed_from 1 8 raw
unreversed WordReversed raw = reversed_from 1 32 raw

-- the word that eight hexadecimal digits write
abbrev pub written_word : BitOrder → List ℕ → Option ℕ
written_word order text = option_map (unreversed order) (whole_word text)

-- a number of 19 bits
abbrev pub as_value : Option ℕ → Option ℕ
as_value None = None
as_value (Some n) = if nat_lt n (2 ^ 19) then Some n else None

-- a number of eight bits
abbrev pub as_label : Option ℕ → Option ℕ
as_label None = None
as_label (Some n) = if nat_lt n 256 then Some n else None

-- the number below 2 ^ 19 that octal or binary digits state which follow those of n
abbrev pub radix : Base → ℕ
radix Two = 2
radix Eight = 8
radix Ten = 10
radix Sixteen = 16

abbrev pub is_digit_of : Base → ℕ → Bool
is_digit_of base c = nat_le 48 c && nat_lt c (48 + radix base)

abbrev pub next_value : Base → ℕ → ℕ → ℕ
next_value base n c = radix base * n + (c - 48)

abbrev pub value_after : Base → ℕ → ℕ → Option ℕ
value_after base n c = if is_digit_of base c && nat_lt (next_value base n c) (2 ^ 19) then Some (next_value base n c) else None

abbrev pub digits_onto : Base → ℕ → List ℕ → Option ℕ
digits_onto base n [] = Some n
digits_onto base n (c ∷ cs) = if_some (value_after base n c) (λ m. digits_onto base m cs)

abbrev pub small_number : Base → List ℕ → Option ℕ
small_number base text = if length text == 0 then None else digits_onto base 0 text

-- a number of 19 bits in this base
abbrev pub value_in : Base → List ℕ → Option ℕ
value_in Two text = small_number Two text
value_in Eight text = small_number Eight text
value_in Ten text = as_value (decimal_digits text)
value_in Sixteen text = as_value (hex_number (without_prefix text))

-- a label is a number of eight bits; the zeros before it may be left out
abbrev pub label_in : Base → List ℕ → Option ℕ
label_in base text = as_label (value_in base text)

abbrev pub is_bit : ℕ → Bool
is_bit c = c == 48 || c == 49

-- the SDI or the SSM: a digit from 0 to 3, or two binary digits
unfoldable pub two_bits : List ℕ → Option ℕ
two_bits (c ∷ []) = if nat_le 48 c && nat_le c 51 then Some (c - 48) else None
two_bits (b ∷ c ∷ []) = if is_bit b && is_bit c then Some (2 * (b - 48) + (c - 48)) else None
two_bits _ = None

-- The texts of the SSM of BNR words (ARINC 429 Part 1, sign/status matrix): normal operation, functional test, no computed data, failure
-- warning.
abbrev pub ssm_text : List ℕ → Option ℕ
ssm_text text =
    if is_named (codes "no") text || is_named (codes "normal") text then Some 3
    else if is_named (codes "ft") text || is_named (codes "test") text then Some 2
    else if is_named (codes "ncd") text then Some 1
    else if is_named (codes "fw") text || is_named (codes "fail") text then Some 0
    else None

abbrev pub ssm_in : List ℕ → Option ℕ
ssm_in text = or_second (two_bits text) (ssm_text text)

-- bit 32 as it is written, or whether the parity of the word is odd
abbrev pub parity_in : List ℕ → Option WrittenParity
parity_in text =
    if is_named (codes "0") text then Some (Bit false)
    else if is_named (codes "1") text then Some (Bit true)
    else if is_named (codes "odd") text || is_named (codes "ok") text then Some (Odd true)
    else if is_named (codes "even") text || is_named (codes "error") text then Some (Odd false)
    else None

-- bits 1 to 31 of a word (ARINC 429 Part 1, word format): the label with its bits reversed, and then the SDI, the data and the SSM
abbrev pub word_bits : ℕ → ℕ → ℕ → ℕ → ℕ
word_bits label sdi value ssm = reversed_from 1 8 label + 256 * sdi + 1024 * value + 2 ^ 29 * ssm

-- bit 32 makes the parity odd
unfoldable pub with_parity : ℕ → ℕ
with_parity bits = if has_odd_parity bits then bits else bits + 2 ^ 31

-- the other bit 32
unfoldable pub with_even_parity : ℕ → ℕ
with_even_parity bits = if has_odd_parity bits then bits + 2 ^ 31 else bits

-- the 31 bits of a word, and bit 32
abbrev pub with_written : WrittenParity → ℕ → ℕ
with_written (Odd true) bits = with_parity bits
with_written (Odd false) bits = with_even_parity bits
with_written (Bit true) bits = bits + 2 ^ 31
with_written (Bit false) bits = bits

-- ---- rows

-- what a row writes: when a word comes in, by which name, and its 32 bits
pub record Written : Type 0 where
  pub time : WrittenTime
  pub name : List ℕ
  pub raw : ℕ

-- what a row states: the same, with the time in microseconds
pub record Stated : Type 0 where
  pub time : ℕ
  pub name : List ℕ
  pub raw : ℕ

-- the field in a column
abbrev pub field_at : ℕ → List (List ℕ) → List ℕ
field_at place fields = get_or fields place []

abbrev pub or_fault : {A : Type 0} → RowFault → Option A → Result A RowFault
or_fault why None = Err why
or_fault why (Some a) = Ok a

-- the parity that a row states; without a column of parities it is odd
abbrev pub row_parity : Option ℕ → List (List ℕ) → Option WrittenParity
row_parity None fields = Some (Odd true)
row_parity (Some place) fields = parity_in (field_at place fields)

-- a word by its label, SDI, SSM and data
abbrev pub parts_word : PartsPlaces → List (List ℕ) → Result ℕ RowFault
parts_word places fields =
    and_then (or_fault fault.Label (label_in places.label.base (field_at places.label.place fields))) (λ label.
    and_then (or_fault fault.Sdi (two_bits (field_at places.sdi fields))) (λ sdi.
    and_then (or_fault fault.Ssm (ssm_in (field_at places.ssm fields))) (λ ssm.
    and_then (or_fault fault.Value (value_in places.value.base (field_at places.value.place fields))) (λ value.
    and_then (or_fault fault.Parity (row_parity places.parity fields)) (λ parity.
    Ok (with_written parity (word_bits label sdi value ssm)))))))

-- the word of a row
abbrev pub word_in : BitOrder → WordPlaces → List (List ℕ) → Result ℕ RowFault
word_in order (Whole place) fields = or_fault fault.Word (written_word order (field_at place fields))
word_in order (Parts places) fields = parts_word places fields

-- The time that a text writes: digits in the unit of the log, a time by a calendar with the year first or none, one with the year last,
-- or a number with an exponent. No text has two of these forms.
unfoldable pub written_time : TimeUnit → Separator → List ℕ → Option WrittenTime
written_time unit separator text =
    or_second (option_map Micros (time_of unit separator text))
    (or_second (calendar_time separator text) (or_second (late_time separator text) (option_map Micros (exponent_time unit separator text))))

abbrev pub row_in : TimeUnit → BitOrder → Separator → Places → List (List ℕ) → Result Written RowFault
row_in unit order separator places fields =
    and_then (or_fault fault.Time (written_time unit separator (field_at places.time fields))) (λ time. and_then (word_in order places.word fields) (λ raw.
    Ok (record { time = time; name = field_at places.name fields; raw = raw })))

-- what a row writes by its fields, one for each column; or the first fault of it
unfoldable pub row_of : TimeUnit → BitOrder → Separator → Places → List (List ℕ) → Result Written RowFault
row_of unit order separator places fields = if fits places (width_of fields) then row_in unit order separator places fields else Err fault.Fields

-- a word with a time in microseconds, as a row writes it
abbrev pub in_micros : Stated → Written
in_micros word = record { time = Micros word.time; name = word.name; raw = word.raw }

-- ---- steps

-- the fields of a row in three columns
pub record Caught : Type 0 where
  pub time : List ℕ
  pub name : List ℕ
  pub word : List ℕ

-- the column in which a word begins
abbrev pub word_place : WordPlaces → ℕ
word_place (Whole place) = place
word_place (Parts places) = places.label.place

-- the fields of a row in these columns, if it has this many fields
abbrev pub caught_in : ℕ → Places → List (List ℕ) → Option Caught
caught_in count places fields =
    if length fields == count then
    Some (record { time = field_at places.time fields; name = field_at places.name fields; word = field_at (word_place places.word) fields })
    else None

-- a field is caught if it is in the column
abbrev pub caught : ℕ → ℕ → List ℕ → List ℕ → List ℕ
caught column place field old = if column == place then field else old

-- what a struct of three fields shows
abbrev pub shown : RowFields → Caught
shown row = record { time = row.time.now; name = row.name.now; word = row.word.now }

-- what a row gives, in the same words
abbrev pub stated_by : StatedWord → Stated
stated_by w = record { time = w.time; name = w.name.now; raw = w.raw }

abbrev pub written_by : RowWord → Written
written_by w = record { time = w.time; name = w.name.now; raw = w.raw }

abbrev pub shown_written : Result RowWord RowFault → Result Written RowFault
shown_written (Ok w) = Ok (written_by w)
shown_written (Err why) = Err why

abbrev pub shown_row : Result StatedWord RowFault → Result Stated RowFault
shown_row (Ok w) = Ok (stated_by w)
shown_row (Err why) = Err why
