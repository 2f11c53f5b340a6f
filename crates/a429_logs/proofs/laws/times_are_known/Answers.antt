use Rattle.std.proofs.Common.{refl}
use Rattle.a429_logs.specs.GregorianCalendar.{days_of_months}
use Rattle.a429_logs.specs.LateDates.{date_at, is_month, last_end, late_date_of, late_time, month_named}
use Rattle.a429_logs.specs.LogDates.{day_time}
use Rattle.a429_logs.specs.LogExponents.{exponent_time, moved_time}
use Rattle.a429_logs.specs.LogTicks.{hex_count, tick_time}
use Rattle.a429_logs.specs.LogTimes.{decimal_time, micros}
use Rattle.a429_logs.proofs.laws.times_are_known.Goals as goal

pub returns-clause-ticks : goal.returns-clause-ticks
unfolding tick_time hex_count
returns-clause-ticks c = record { short = refl; prefixed = refl; most = refl; long = refl; many = refl }

pub returns-clause-exponents : goal.returns-clause-exponents
unfolding exponent_time moved_time
returns-clause-exponents c =
    record { seconds = refl; micros = refl; nanos = refl; small = refl; zeros = refl; great = refl; point = refl; sign = refl }

pub returns-clause-days : goal.returns-clause-days
unfolding late_time last_end late_date_of month_named is_month date_at day_time decimal_time micros days_of_months
returns-clause-days c = record { name = refl; whole = refl; points = refl; numbers = refl; none = refl }

pub returns-clause-orders : goal.returns-clause-orders
returns-clause-orders c = record { shown = refl; known = refl; equal = refl; other = refl; unknown = refl }
