-- Dates with the year last in a log, such as 13/02/2024 and 13-Feb-2024 (profile: log).
use Rattle.std.specs.Prelude.{◌+◌, ◌-◌, ◌*◌, ◌||◌, ℕ, zero, suc, Bool, List, Option, Some, None, codes, drop, get_or, if◌then◌else◌, length, option_map, take}
use Rattle.a429_logs.specs.GregorianCalendar.{days_before, is_leap, month_length}
use Rattle.a429_logs.specs.LogColumns.{is_named}
use Rattle.a429_logs.specs.LogDates.{Three, at_time, day_time, digits_within, if_some, is_date_end, of_day, or_second, three_of, without_zone}
use Rattle.a429_logs.specs.LogFields.{parts_of}
use Rattle.a429_logs.specs.LogTimes.{two_digits, within}
use Rattle.a429_logs.specs.declared.fields.Separator.{Separator}
use Rattle.a429_logs.specs.declared.fields.Separator.TheVariants.{Colon, Dash, Point, Slash}
use Rattle.a429_logs.specs.declared.written.Date.{Date}
use Rattle.a429_logs.specs.declared.written.NumberedDate.{NumberedDate}
use Rattle.a429_logs.specs.declared.written.WrittenTime.{WrittenTime}
use Rattle.a429_logs.specs.declared.written.WrittenTime.TheVariants.{OfNumbers}

-- the English name of a month, or its first three letters, in any case
unfoldable pub is_month : List ℕ → List ℕ → Bool
is_month name text = is_named name text || is_named (take 3 name) text

-- the number of the month with this name
unfoldable pub month_named : List ℕ → Option ℕ
month_named text =
    if is_month (codes "january") text then Some 1
    else if is_month (codes "february") text then Some 2
    else if is_month (codes "march") text then Some 3
    else if is_month (codes "april") text then Some 4
    else if is_month (codes "may") text then Some 5
    else if is_month (codes "june") text then Some 6
    else if is_month (codes "july") text then Some 7
    else if is_month (codes "august") text then Some 8
    else if is_month (codes "september") text then Some 9
    else if is_month (codes "october") text then Some 10
    else if is_month (codes "november") text then Some 11
    else if is_month (codes "december") text then Some 12
    else None

-- the beginning of a day, by its year, its month and its number in the month
unfoldable pub date_at : ℕ → ℕ → ℕ → Option Date
date_at year month day =
    if_some (within 1 12 (Some month)) (λ m. if_some (within 1 (month_length (is_leap year) (m - 1)) (Some day)) (λ d.
    Some (record { year = year; time = of_day * days_before year m d })))

-- a day of one digit or two, this month, and a year of four digits
abbrev pub day_in_month : Option ℕ → Three → Option Date
day_in_month month t =
    if_some month (λ m. if_some (two_digits 99 t.first) (λ day. if_some (digits_within 4 0 9999 t.third) (λ year. date_at year m day)))

-- two numbers of one digit or two, of which one is the day and one the month, and a year
abbrev pub numbered : ℕ → Three → Option NumberedDate
numbered time t =
    if_some (two_digits 99 t.first) (λ first. if_some (two_digits 99 t.second) (λ second. if_some (digits_within 4 0 9999 t.third) (λ year.
    Some (record { first = first; second = second; year = year; time = time }))))

-- between dashes or slashes: the month by its name, or two numbers
abbrev pub late_date : ℕ → Three → Option WrittenTime
late_date time t =
    or_second (at_time (day_in_month (month_named t.second) t) (Some time)) (option_map OfNumbers (numbered time t))

-- between points the day is first; the month has its name or its number
abbrev pub pointed_date : ℕ → Three → Option WrittenTime
pointed_date time t = at_time (day_in_month (or_second (month_named t.second) (two_digits 99 t.second)) t) (Some time)

-- a date with the year last at a time of day: between dashes or slashes, otherwise between points
unfoldable pub late_date_of : ℕ → List ℕ → Option WrittenTime
late_date_of time text =
    or_second (if_some (or_second (three_of (parts_of Dash text)) (three_of (parts_of Slash text))) (λ t. late_date time t))
    (if_some (three_of (parts_of Point text)) (λ t. pointed_date time t))

-- the place of a byte, if it is a `T` or a space; otherwise the place before
abbrev pub end_or : ℕ → ℕ → Option ℕ → Option ℕ
end_or b place before = if is_date_end b then Some place else before

-- the place of the last `T` or space of this many bytes; a `T` above it may be in the name of a month
unfoldable pub last_end : List ℕ → ℕ → Option ℕ
last_end text zero = None
last_end text (suc n) = end_or (get_or text n 0) n (last_end text n)

-- a date, a `T` or a space at this place, and a time of day, which may end in `Z`
abbrev pub late_by : Separator → List ℕ → ℕ → Option WrittenTime
late_by separator text k =
    if_some (day_time separator (parts_of Colon (without_zone (drop (k + 1) text)))) (λ time. late_date_of time (take k text))

-- a date with the year last, and a time of day
unfoldable pub late_time : Separator → List ℕ → Option WrittenTime
late_time separator text = if_some (last_end text (length text)) (λ k. late_by separator text k)
