-- What is given of the options, and which of it goes together (profile: docs/FORMATS.md, Usage errors).
use denote.Enum.Declared.{tag_of}
use Rattle.std.specs.List.{list_all, list_any}
use Rattle.std.specs.Prelude.{Bool, List, None, Option, Some, [], codes, false, if◌then◌else◌, is_some, nat_eq, not, option_and_then, option_map, slice_get, true, unwrap_or, ℕ, ◌&&◌, ◌||◌, ◌∷◌}
use Rattle.std.specs.Str.{bytes_eq}
use Rattle.clap.specs.Lexer.{strip_byte}
use Rattle.clap.specs.Words.{Row, Text, all_of}
use Rattle.a429_arguments.specs.CommandLine.{id_of, kind_of, number_up_to}
use Rattle.a429_arguments.specs.Tolerances.{is_general_again, is_tolerance}
use Rattle.a429_arguments.specs.contracts.forms.Verb.{the_type}
use Rattle.a429_arguments.specs.declared.forms.Verb.{Verb}
use Rattle.a429_arguments.specs.declared.options.OptionKind.TheVariants as given
use Rattle.a429_arguments.specs.declared.options.OptionKind.{OptionKind}
use Rattle.a429_arguments.specs.declared.options.OptionName.TheVariants as option
use Rattle.a429_arguments.specs.declared.options.OptionName.{OptionName}
use Rattle.a429_arguments.specs.declared.options.TextForm.TheVariants as form
use Rattle.a429_arguments.specs.declared.options.TextForm.{TextForm}
use Rattle.a429_arguments.specs.declared.rules.Rule.TheVariants.{Apart, Excludes, Fits, Needs, OneGeneral, OneOf}
use Rattle.a429_arguments.specs.declared.rules.Rule.{Rule}
use Rattle.a429_arguments.specs.declared.rules.TheConstants.{RULES}
use Rattle.a429_arguments.specs.declared.times.Drift.TheVariants as drift
use Rattle.a429_arguments.specs.declared.times.Drift.{Drift}
use Rattle.a429_arguments.specs.declared.times.LogOrigin.TheVariants as origin
use Rattle.a429_arguments.specs.declared.times.LogOrigin.{LogOrigin}
use Rattle.a429_arguments.specs.declared.times.Shift.TheVariants as shift
use Rattle.a429_arguments.specs.declared.times.Shift.{Shift}
use Rattle.a429_logs.specs.LogDates.{or_second}
use Rattle.a429_logs.specs.declared.times.TimeUnit.TheVariants as unit
use Rattle.a429_logs.specs.declared.times.TimeUnit.{TimeUnit}
use Rattle.a429_logs.specs.declared.words.BitOrder.TheVariants as order
use Rattle.a429_logs.specs.declared.words.BitOrder.{BitOrder}
use Rattle.a429_logs.specs.declared.written.DateOrder.TheVariants as dates
use Rattle.a429_logs.specs.declared.written.DateOrder.{DateOrder}
use Rattle.a429_text.specs.Renames.{has_one_from_twice, is_rename}
use Rattle.a429_text.specs.declared.sheets.SheetForm.TheVariants as sheet
use Rattle.a429_text.specs.declared.sheets.SheetForm.{SheetForm}

-- the texts that are given with each option, in their order; with a flag the text `true`
abbrev pub Given : Type 0
Given = OptionName → List Text

-- nothing is given
abbrev pub nothing : Given
nothing _ = []

-- the text that is given with an option: the first of several
abbrev pub text_given : Given → OptionName → Option Text
text_given given name = slice_get (given name) 0

-- the option is given
abbrev pub has_given : Given → OptionName → Bool
has_given given name = is_some (text_given given name)

-- the number that is given with it, if its text is one of 32 bits
abbrev pub number_given : Given → OptionName → Option ℕ
number_given given name = option_and_then (number_up_to 4294967295) (text_given given name)

-- of 64 bits
abbrev pub long_number_given : Given → OptionName → Option ℕ
long_number_given given name = option_and_then (number_up_to 18446744073709551615) (text_given given name)

-- ---- what texts say

-- the unit of times that a text states
abbrev pub unit_in : Text → Option TimeUnit
unit_in text =
    if bytes_eq text (codes "us") then Some unit.Microseconds
    else (if bytes_eq text (codes "ms") then Some unit.Milliseconds else (if bytes_eq text (codes "s") then Some unit.Seconds
    else (if bytes_eq text (codes "ns") then Some unit.Nanoseconds else None)))

-- the order of bits that a text states
abbrev pub order_in : Text → Option BitOrder
order_in text =
    if bytes_eq text (codes "label") then Some order.LabelReversed
    else (if bytes_eq text (codes "word") then Some order.WordReversed else None)

-- the order of days and months that a text states
abbrev pub dates_in : Text → Option DateOrder
dates_in text =
    if bytes_eq text (codes "dmy") then Some dates.DayFirst else (if bytes_eq text (codes "mdy") then Some dates.MonthFirst else None)

-- the last microsecond from which times can be counted: eighteen digits
abbrev pub last_origin : ℕ
last_origin = 999999999999999999

-- from when on times are counted, by the text of that
abbrev pub origin_in : Text → Option LogOrigin
origin_in text = if bytes_eq text (codes "first") then Some origin.First else option_map origin.Time (number_up_to last_origin text)

-- the most microseconds by which times can be moved: fourteen digits
abbrev pub last_shift : ℕ
last_shift = 99999999999999

-- the most parts in 10^9 by which clocks may drift apart: six digits
abbrev pub last_drift : ℕ
last_drift = 999999

-- a whole number up to the last one, by a text and what follows its minus, if it begins with one
abbrev pub signed_by : {T : Type 0} → (ℕ → T) → (ℕ → T) → ℕ → Text → Option Text → Option T
signed_by minus plus last text (Some digits) = option_map minus (number_up_to last digits)
signed_by minus plus last text None = option_map plus (number_up_to last text)

-- by how much times are moved, by the text of that
abbrev pub shift_in : Text → Option Shift
shift_in text = signed_by shift.Earlier shift.Later last_shift text (strip_byte 45 text)

-- by how much a clock is fast, by the text of that
abbrev pub drift_in : Text → Option Drift
drift_in text = signed_by drift.Slow drift.Fast last_drift text (strip_byte 45 text)

-- a text has this form
abbrev pub fits : TextForm → Text → Bool
fits form.Any text = true
fits form.Width text = bytes_eq text (codes "64") || (bytes_eq text (codes "128") || bytes_eq text (codes "256"))
fits form.Unit text = is_some (unit_in text)
fits form.Origin text = is_some (origin_in text)
fits form.Order text = is_some (order_in text)
fits form.Dates text = is_some (dates_in text)
fits form.Rename text = is_rename text
fits form.Tolerance text = is_tolerance text
fits form.Shift text = is_some (shift_in text)
fits form.Drift text = is_some (drift_in text)

-- ---- what some options say, which are read with a usual value

-- the form of what is printed
abbrev pub form_of : Given → SheetForm
form_of given = if has_given given option.Csv then sheet.Csv else (if has_given given option.Json then sheet.Json else sheet.Columns)

-- the unit of the times in a log, if one is given: ticks of this number of nanoseconds, or one with a name
abbrev pub unit_of : Given → Option TimeUnit
unit_of given = or_second (option_map unit.Ticks (number_given given option.Tick)) (option_and_then unit_in (text_given given option.Time))

-- the order of days and months in dates, if one is given
abbrev pub dates_of : Given → Option DateOrder
dates_of given = option_and_then dates_in (text_given given option.Dates)

-- the order in which the bits of words in a log are written
abbrev pub order_of : Given → BitOrder
order_of given = unwrap_or (option_and_then order_in (text_given given option.Reversed)) order.AsWritten

-- from when on they are counted
abbrev pub origin_of : Given → LogOrigin
origin_of given = unwrap_or (option_and_then origin_in (text_given given option.From)) (origin.Time 0)

-- by how much the times of what was sent are moved
abbrev pub shift_of : Given → Shift
shift_of given = unwrap_or (option_and_then shift_in (text_given given option.Shift)) (shift.Later 0)

-- by how much their clock is fast
abbrev pub drift_of : Given → Drift
drift_of given = unwrap_or (option_and_then drift_in (text_given given option.Drift)) (drift.Fast 0)

-- ---- what was found

-- the values of an argument
abbrev pub values_of : Text → List Row → List Text
values_of id rows = unwrap_or (all_of id rows) []

-- the values are those of a flag that is not given
abbrev pub is_unset : OptionKind → List Text → Bool
is_unset given.Flag (text ∷ texts) = not (bytes_eq text (codes "true"))
is_unset _ values = false

-- what is given, by the values of an option
abbrev pub given_by : OptionKind → List Text → List Text
given_by kind values = if is_unset kind values then [] else values

-- what is given, by what was found of the arguments
abbrev pub given_in : List Row → Given
given_in rows name = given_by (kind_of name) (values_of (id_of name) rows)

-- ---- the rules between options, and of their texts, that the rules of the command line do not state: the rows of the program (`RULES`)

-- one of three, and no other
abbrev pub is_one_alone : Bool → Bool → Bool → Bool
is_one_alone true false false = true
is_one_alone false true false = true
is_one_alone false false true = true
is_one_alone _ _ _ = false

-- each of these texts has the form that an option of this kind takes
abbrev pub fit : OptionKind → List Text → Bool
fit (given.Text form) texts = list_all (fits form) texts
fit (given.Texts form) texts = list_all (fits form) texts
fit _ texts = true

-- what is given breaks a rule
abbrev pub is_broken : Given → Rule → Bool
is_broken given (Needs name needed) = has_given given name && not (has_given given needed)
is_broken given (Excludes name other) = has_given given name && has_given given other
is_broken given (OneOf a b c) = not (is_one_alone (has_given given a) (has_given given b) (has_given given c))
is_broken given (Fits name) = not (fit (kind_of name) (given name))
is_broken given (Apart name) = has_one_from_twice (given name)
is_broken given (OneGeneral name) = is_general_again false (given name)

-- a rule is for a command: for all, or for one alone
abbrev pub is_for : Option Verb → Verb → Bool
is_for None v = true
is_for (Some command) v = nat_eq (tag_of the_type command) (tag_of the_type v)

abbrev pub is_refusing : Verb → Given → Rule × Option Verb → Bool
is_refusing v given row = is_for row.1 v && is_broken given row.0

-- what is given to a command breaks one of the rules
abbrev pub are_refused : Verb → Given → Bool
are_refused v given = list_any (is_refusing v given) RULES.now
