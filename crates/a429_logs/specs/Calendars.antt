-- Times by a calendar, in microseconds: on over midnight and the end of a year (profile: log).
use Rattle.std.specs.Prelude.{◌==◌, ◌+◌, ◌-◌, ◌*◌, ◌^◌, ℕ, Bool, true, false, Option, Some, None, Result, Ok, Err, if◌then◌else◌, nat_le, nat_lt}
use Rattle.a429_logs.specs.GregorianCalendar.{days_of_years}
use Rattle.a429_logs.specs.LateDates.{date_at}
use Rattle.a429_logs.specs.LogColumns.{and_then}
use Rattle.a429_logs.specs.LogDates.{if_some, of_day, or_second}
use Rattle.a429_logs.specs.LogRows.{Stated, Written, or_fault, stated_by}
use Rattle.a429_logs.specs.declared.calendars.Calendar.{Calendar}
use Rattle.a429_logs.specs.declared.calendars.Calendar.TheVariants.{Open, Units, Days, Years, Dates, DayDates, MonthDates}
use Rattle.a429_logs.specs.declared.calendars.DateSpan.{DateSpan}
use Rattle.a429_logs.specs.declared.calendars.Moment.{Moment}
use Rattle.a429_logs.specs.declared.calendars.Span.{Span}
use Rattle.a429_logs.specs.declared.calendars.TimedWord.{TimedWord}
use Rattle.a429_logs.specs.declared.rows.RowFault.{RowFault}
use Rattle.a429_logs.specs.declared.rows.RowFault.TheVariants as fault
use Rattle.a429_logs.specs.declared.written.Date.{Date}
use Rattle.a429_logs.specs.declared.written.DateOrder.{DateOrder}
use Rattle.a429_logs.specs.declared.written.DateOrder.TheVariants.{DayFirst, MonthFirst}
use Rattle.a429_logs.specs.declared.written.NumberedDate.{NumberedDate}
use Rattle.a429_logs.specs.declared.written.WrittenTime.{WrittenTime}
use Rattle.a429_logs.specs.declared.written.WrittenTime.TheVariants.{Micros, OfDay, OfYear, OfDate, OfNumbers}

-- a number of 64 bits
abbrev pub in_64_bits : ℕ → Option ℕ
in_64_bits n = if nat_lt n (2 ^ 64) then Some n else None

-- When the day or the year of the next time begins, if the one before has this length. A time that is below the last one by more than
-- this is in the next.
abbrev pub next_start : ℕ → ℕ → Span → ℕ → ℕ
next_start limit length span time = if nat_lt limit (span.last - time) then span.start + length else span.start

-- a time that is counted from this start; every time has 64 bits
abbrev pub counted : ℕ → ℕ → Calendar → Result Moment RowFault
counted start time calendar = and_then (or_fault fault.Time (in_64_bits (start + time))) (λ all. Ok (record { time = all; calendar = calendar }))

-- more than 12 hours down: the next day
abbrev pub day_start : Span → ℕ → ℕ
day_start span time = next_start (12 * 3600000000) of_day span time

abbrev pub on_day : Span → ℕ → Result Moment RowFault
on_day span time =
    and_then (or_fault fault.Time (in_64_bits (day_start span time))) (λ start.
    counted start time (Days (record { start = start; last = time })))

-- more than 180 days down: the next year; the one before has 366 days if its last time is on day 366
abbrev pub span_length : Span → ℕ
span_length span = if nat_le (365 * of_day) span.last then 366 * of_day else 365 * of_day

abbrev pub year_start : Span → ℕ → ℕ
year_start span time = next_start (180 * of_day) (span_length span) span time

abbrev pub on_year : Span → ℕ → Result Moment RowFault
on_year span time =
    and_then (or_fault fault.Time (in_64_bits (year_start span time))) (λ start.
    counted start time (Years (record { start = start; last = time })))

-- a date is counted from the beginning of the first year
abbrev pub date_start : DateSpan → Date → ℕ
date_start span date = span.start + of_day * days_of_years span.year (date.year - span.year)

-- dates, of which a row showed this order
abbrev pub dated : Option DateOrder → DateSpan → Calendar
dated None span = Dates span
dated (Some DayFirst) span = DayDates span
dated (Some MonthFirst) span = MonthDates span

-- a date is counted from the beginning of the first year, and this order of dates is known
abbrev pub on_date : Option DateOrder → DateSpan → Date → Result Moment RowFault
on_date order span date =
    if nat_lt date.year span.year then Err fault.Falls
    else and_then (or_fault fault.Time (in_64_bits (date_start span date))) (λ start.
    counted start date.time (dated order (record { first = span.first; year = date.year; start = start })))

-- ---- the calendar of a log: all of its times have the form of the first

abbrev pub has_units : Calendar → Bool
has_units Open = true
has_units Units = true
has_units _ = false

abbrev pub beginning : Span
beginning = record { start = 0; last = 0 }

abbrev pub day_span : Calendar → Option Span
day_span Open = Some beginning
day_span (Days span) = Some span
day_span _ = None

abbrev pub year_span : Calendar → Option Span
year_span Open = Some beginning
year_span (Years span) = Some span
year_span _ = None

abbrev pub year_beginning : ℕ → DateSpan
year_beginning year = record { first = year; year = year; start = 0 }

abbrev pub date_span : Calendar → ℕ → Option DateSpan
date_span Open year = Some (year_beginning year)
date_span (Dates span) year = Some span
date_span (DayDates span) year = Some span
date_span (MonthDates span) year = Some span
date_span _ year = None

-- ---- dates of which the day or the month is first

-- a number above 12 is the day
abbrev pub shown_order : NumberedDate → Option DateOrder
shown_order n = if nat_lt 12 n.first then Some DayFirst else if nat_lt 12 n.second then Some MonthFirst else None

-- the order that a row before showed
abbrev pub row_order : Calendar → Option DateOrder
row_order (DayDates span) = Some DayFirst
row_order (MonthDates span) = Some MonthFirst
row_order _ = None

-- the order that is given, otherwise the one that a row before showed
abbrev pub known_order : Option DateOrder → Calendar → Option DateOrder
known_order given calendar = or_second given (row_order calendar)

-- a date must not show another order than the known one; one that shows none has the known one
abbrev pub agreed : Option DateOrder → Option DateOrder → Result DateOrder RowFault
agreed (Some DayFirst) (Some MonthFirst) = Err fault.Time
agreed (Some MonthFirst) (Some DayFirst) = Err fault.Time
agreed (Some shown) known = Ok shown
agreed None known = or_fault fault.DateOrder known

-- two equal numbers have both orders
abbrev pub order_of : Option DateOrder → NumberedDate → Result DateOrder RowFault
order_of known n = if n.first == n.second then Ok DayFirst else agreed (shown_order n) known

-- the day of two numbers, one of which is the day and one the month
abbrev pub day_by : NumberedDate → DateOrder → Option Date
day_by n DayFirst = date_at n.year n.second n.first
day_by n MonthFirst = date_at n.year n.first n.second

-- later on a day, as every time in 64 bits
abbrev pub later_on : ℕ → Date → Option Date
later_on time date = if_some (in_64_bits (date.time + time)) (λ all. Some (record { year = date.year; time = all }))

-- the date of two numbers in this order
abbrev pub date_by : NumberedDate → DateOrder → Option Date
date_by n order = if_some (day_by n order) (λ date. later_on n.time date)

-- a date that shows this order, which is known from then on
abbrev pub on_date_of : Calendar → Option DateOrder → Date → Result Moment RowFault
on_date_of calendar shown date =
    and_then (or_fault fault.Time (date_span calendar date.year))
    (λ span. on_date (or_second (row_order calendar) shown) span date)

-- the date of two numbers, in the order that they show or that is known
abbrev pub numbers_date : Option DateOrder → NumberedDate → Result Date RowFault
numbers_date known n = and_then (order_of known n) (λ order. or_fault fault.Time (date_by n order))

-- a date of two numbers, counted in the order that is known or shown
abbrev pub on_numbers : Option DateOrder → Calendar → NumberedDate → Result Moment RowFault
on_numbers given calendar n =
    and_then (numbers_date (known_order given calendar) n) (λ date. on_date_of calendar (shown_order n) date)

-- a time in microseconds, and the calendar after it
abbrev pub moment_of : Option DateOrder → Calendar → WrittenTime → Result Moment RowFault
moment_of given calendar (Micros time) = if has_units calendar then Ok (record { time = time; calendar = Units }) else Err fault.Time
moment_of given calendar (OfDay time) = and_then (or_fault fault.Time (day_span calendar)) (λ span. on_day span time)
moment_of given calendar (OfYear time) = and_then (or_fault fault.Time (year_span calendar)) (λ span. on_year span time)
moment_of given calendar (OfDate date) = and_then (or_fault fault.Time (date_span calendar date.year)) (λ span. on_date (row_order calendar) span date)
moment_of given calendar (OfNumbers n) = on_numbers given calendar n

-- from its beginning on, in the same form and the same order of dates
abbrev pub begun_again : Calendar → Calendar
begun_again (Days span) = Days beginning
begun_again (Years span) = Years beginning
begun_again (Dates span) = Dates (year_beginning span.first)
begun_again (DayDates span) = DayDates (year_beginning span.first)
begun_again (MonthDates span) = MonthDates (year_beginning span.first)
begun_again calendar = calendar

-- ---- words

-- a word with its time in microseconds, and the calendar after it
pub record Timed : Type 0 where
  pub word : Stated
  pub calendar : Calendar

abbrev pub timed_by : TimedWord → Timed
timed_by t = record { word = stated_by t.word; calendar = t.calendar }

abbrev pub shown_timed : Result TimedWord RowFault → Result Timed RowFault
shown_timed (Ok t) = Ok (timed_by t)
shown_timed (Err why) = Err why

abbrev pub timed : Option DateOrder → Calendar → Written → Result Timed RowFault
timed given calendar row =
    and_then (moment_of given calendar row.time) (λ moment.
    Ok (record { word = record { time = moment.time; name = row.name; raw = row.raw }; calendar = moment.calendar }))

abbrev pub timed_row : Option DateOrder → Calendar → Result Written RowFault → Result Timed RowFault
timed_row given calendar (Err why) = Err why
timed_row given calendar (Ok row) = timed given calendar row
