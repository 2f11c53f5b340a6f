-- Times of day, times of the year and dates in a log (profile: log).
use Rattle.std.specs.Prelude.{◌==◌, ◌||◌, ◌+◌, ◌-◌, ◌*◌, ◌∷◌, [], ℕ, Bool, List, Option, Some, None, drop, get_or, if◌then◌else◌, length, option_map, position, take, unwrap_or}
use Rattle.a429_logs.specs.GregorianCalendar.{days_before, is_leap, month_length}
use Rattle.a429_logs.specs.LogFields.{parts_of}
use Rattle.a429_logs.specs.LogTimes.{decimal_digits, decimal_time, is_point, two_digits, within}
use Rattle.a429_logs.specs.declared.fields.Separator.{Separator}
use Rattle.a429_logs.specs.declared.fields.Separator.TheVariants.{Colon, Dash, Slash}
use Rattle.a429_logs.specs.declared.times.TimeUnit.TheVariants.{Seconds}
use Rattle.a429_logs.specs.declared.written.Date.{Date}
use Rattle.a429_logs.specs.declared.written.ThreeParts.{ThreeParts}
use Rattle.a429_logs.specs.declared.written.WrittenTime.{WrittenTime}
use Rattle.a429_logs.specs.declared.written.WrittenTime.TheVariants.{OfDay, OfYear, OfDate}

-- what follows if there is a value
abbrev pub if_some : {A B : Type 0} → Option A → (A → Option B) → Option B
if_some None next = None
if_some (Some a) next = next a

-- the first of two, if there is one
abbrev pub or_second : {A : Type 0} → Option A → Option A → Option A
or_second None second = second
or_second (Some a) second = Some a

-- ---- numbers

-- a number of this many decimal digits, from the least to the most
abbrev pub digits_within : ℕ → ℕ → ℕ → List ℕ → Option ℕ
digits_within count least most text = if length text == count then within least most (decimal_digits text) else None

-- three parts of a text, and no more
pub record Three : Type 0 where
  pub first : List ℕ
  pub second : List ℕ
  pub third : List ℕ

abbrev pub three_of : List (List ℕ) → Option Three
three_of (a ∷ b ∷ c ∷ []) = Some (record { first = a; second = b; third = c })
three_of _ = None

abbrev pub shown_three : ThreeParts → Three
shown_three t = record { first = t.first.now; second = t.second.now; third = t.third.now }

-- ---- times of day

-- microseconds
abbrev pub of_minute : ℕ
of_minute = 60000000

abbrev pub of_day : ℕ
of_day = 86400000000

-- an hour has one digit or two
abbrev pub hour_of : List ℕ → Option ℕ
hour_of text = two_digits 23 text

-- seconds have two digits, and decimals after them; no minute has more than 60 of them
abbrev pub seconds_of : Separator → List ℕ → Option ℕ
seconds_of separator text =
    if unwrap_or (position (is_point separator) text) (length text) == 2 then within 0 59999999 (decimal_time Seconds separator text) else None

abbrev pub time_of_day : Separator → Three → Option ℕ
time_of_day separator t =
    if_some (hour_of t.first) (λ hour. if_some (digits_within 2 0 59 t.second) (λ minute. if_some (seconds_of separator t.third) (λ seconds.
    Some (of_minute * (60 * hour + minute) + seconds))))

-- HH:MM:SS, in microseconds from midnight
unfoldable pub day_time : Separator → List (List ℕ) → Option ℕ
day_time separator parts = if_some (three_of parts) (λ three. time_of_day separator three)

-- ---- times of the year

-- DDD:HH:MM:SS, in microseconds from the beginning of the year, of which the first day is 001
abbrev pub year_time : Separator → List (List ℕ) → Option ℕ
year_time separator [] = None
year_time separator (day ∷ parts) =
    if_some (digits_within 3 1 366 day) (λ number. if_some (day_time separator parts) (λ time. Some (of_day * (number - 1) + time)))

-- a time of day, or a time of the year
unfoldable pub clock_time : Separator → List ℕ → Option WrittenTime
clock_time separator text = or_second (option_map OfDay (day_time separator (parts_of Colon text))) (option_map OfYear (year_time separator (parts_of Colon text)))

-- ---- dates

-- YYYY-MM-DD (ISO 8601) or YYYY/MM/DD, and the microseconds of the year before that day
abbrev pub day_of : Three → Option Date
day_of t =
    if_some (digits_within 4 0 9999 t.first) (λ year. if_some (digits_within 2 1 12 t.second) (λ month.
    if_some (digits_within 2 1 (month_length (is_leap year) (month - 1)) t.third) (λ day.
    Some (record { year = year; time = of_day * days_before year month day }))))

unfoldable pub date_of : List ℕ → Option Date
date_of text = if_some (or_second (three_of (parts_of Dash text)) (three_of (parts_of Slash text))) day_of

-- a time of day may end in `Z`
abbrev pub without_zone : List ℕ → List ℕ
without_zone text = if get_or text (length text - 1) 0 == 90 then take (length text - 1) text else text

abbrev pub at_time : Option Date → Option ℕ → Option WrittenTime
at_time date time = if_some date (λ d. option_map (λ t. OfDate (record d { time = d.time + t })) time)

unfoldable pub dated_time : Separator → List ℕ → List ℕ → Option WrittenTime
dated_time separator date time = at_time (date_of date) (day_time separator (parts_of Colon (without_zone time)))

-- a date and a time of day have a `T` or a space between them
abbrev pub is_date_end : ℕ → Bool
is_date_end b = b == 84 || b == 32

abbrev pub calendar_by : Separator → List ℕ → Option ℕ → Option WrittenTime
calendar_by separator text None = clock_time separator text
calendar_by separator text (Some k) = dated_time separator (take k text) (drop (k + 1) text)

unfoldable pub calendar_time : Separator → List ℕ → Option WrittenTime
calendar_time separator text = calendar_by separator text (position is_date_end text)
