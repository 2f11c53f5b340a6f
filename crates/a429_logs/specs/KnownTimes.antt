-- Examples of times in a log (profile: log).
use Rattle.std.specs.Prelude.{◌≡◌, ◌+◌, ◌*◌, ◌^◌, Some, None, Ok, Err, codes}
use Rattle.a429_logs.specs.Calendars.{order_of}
use Rattle.a429_logs.specs.GregorianCalendar.{days_before}
use Rattle.a429_logs.specs.LateDates.{late_time}
use Rattle.a429_logs.specs.LogDates.{of_day}
use Rattle.a429_logs.specs.LogExponents.{exponent_time}
use Rattle.a429_logs.specs.LogTicks.{tick_time}
use Rattle.a429_logs.specs.declared.fields.Separator.TheVariants.{Blank}
use Rattle.a429_logs.specs.declared.rows.RowFault.TheVariants as fault
use Rattle.a429_logs.specs.declared.times.TimeUnit.TheVariants.{Nanoseconds, Microseconds, Seconds}
use Rattle.a429_logs.specs.declared.written.DateOrder.TheVariants.{DayFirst, MonthFirst}
use Rattle.a429_logs.specs.declared.written.WrittenTime.TheVariants.{OfDate, OfNumbers}

-- counts of ticks, in microseconds
pub record KnownTicks : Type 0 where
  pub short : tick_time 100 (codes "1A") ≡ Some 2
  pub prefixed : tick_time 1000000000 (codes "0x1a") ≡ Some 26000000
  pub most : tick_time 1 (codes "ffffffffffffffff") ≡ Some 18446744073709551
  pub long : tick_time 1000 (codes "FFFFFFFFFFFFFFFF") ≡ None
  pub many : tick_time 1 (codes "00000000000000001") ≡ None

-- numbers with an exponent, in microseconds
pub record KnownExponents : Type 0 where
  pub seconds : exponent_time Seconds Blank (codes "3.60e-04") ≡ Some 360
  pub micros : exponent_time Microseconds Blank (codes "1.5E+3") ≡ Some 1500
  pub nanos : exponent_time Nanoseconds Blank (codes "1999e0") ≡ Some 1
  pub small : exponent_time Seconds Blank (codes "9e-99") ≡ Some 0
  pub zeros : exponent_time Microseconds Blank (codes "0.000001e23") ≡ Some (10 ^ 17)
  pub great : exponent_time Microseconds Blank (codes "1e18") ≡ None
  pub point : exponent_time Seconds Blank (codes "1.e5") ≡ None
  pub sign : exponent_time Seconds Blank (codes "1e") ≡ None

-- dates with the year last
pub record KnownDays : Type 0 where
  pub name : late_time Blank (codes "2-OCT-2024T10:00:00")
      ≡ Some (OfDate (record { year = 2024; time = of_day * days_before 2024 10 2 + 36000000000 }))
  pub whole : late_time Blank (codes "29/february/2024 00:00:00")
      ≡ Some (OfDate (record { year = 2024; time = of_day * days_before 2024 2 29 }))
  pub points : late_time Blank (codes "1.02.2024 00:00:01Z")
      ≡ Some (OfDate (record { year = 2024; time = of_day * days_before 2024 2 1 + 1000000 }))
  pub numbers : late_time Blank (codes "1/02/2024 00:00:00") ≡ Some (OfNumbers (record { first = 1; second = 2; year = 2024; time = 0 }))
  pub none : late_time Blank (codes "31.04.2024 00:00:00") ≡ None

-- which of the numbers of a date is the day
pub record KnownOrders : Type 0 where
  pub shown : order_of None (record { first = 13; second = 2; year = 2024; time = 0 }) ≡ Ok DayFirst
  pub known : order_of (Some MonthFirst) (record { first = 1; second = 2; year = 2024; time = 0 }) ≡ Ok MonthFirst
  pub equal : order_of (Some MonthFirst) (record { first = 2; second = 2; year = 2024; time = 0 }) ≡ Ok DayFirst
  pub other : order_of (Some MonthFirst) (record { first = 13; second = 2; year = 2024; time = 0 }) ≡ Err fault.Time
  pub unknown : order_of None (record { first = 1; second = 2; year = 2024; time = 0 }) ≡ Err fault.DateOrder
