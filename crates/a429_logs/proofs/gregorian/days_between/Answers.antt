use Rattle.std.proofs.Common.{refl, arith}
use Rattle.a429_logs.specs.GregorianCalendar.{days_of_years}
use Rattle.a429_logs.proofs.CalendarDays.{years_next}
use Rattle.a429_logs.proofs.gregorian.days_between.Goals as goal

pub loop-passed-init : goal.loop-passed-init
unfolding days_of_years
loop-passed-init c = record { value = refl; few = omega arith }

pub loop-passed-preserved : goal.loop-passed-preserved
loop-passed-preserved c = record {
  value = omega (arith, years_next c.args.first c.loop-passed.passed, c.loop-passed.invariant.value, c.year_length-days.ensures.value);
  few = omega (arith, c.loop-passed.invariant.few, c.year_length-days.ensures.few);
}
