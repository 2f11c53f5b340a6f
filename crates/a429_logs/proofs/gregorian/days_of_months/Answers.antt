use Rattle.std.proofs.Common.{refl, arith}
use Rattle.a429_logs.specs.GregorianCalendar.{days_of_months}
use Rattle.a429_logs.proofs.CalendarDays.{months_next}
use Rattle.a429_logs.proofs.gregorian.days_of_months.Goals as goal

pub loop-passed-init : goal.loop-passed-init
unfolding days_of_months
loop-passed-init c = record { value = refl; few = omega arith }

pub loop-passed-preserved : goal.loop-passed-preserved
loop-passed-preserved c = record {
  value = omega (arith, months_next c.args.leap c.loop-passed.passed, c.loop-passed.invariant.value, c.month_length-days.ensures.value);
  few = omega (arith, c.loop-passed.invariant.few, c.month_length-days.ensures.short);
}
