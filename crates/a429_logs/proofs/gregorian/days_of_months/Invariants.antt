use Rattle.std.proofs.Common.{◌≡◌, ◌≤◌, ◌*◌}
use Rattle.a429_logs.specs.GregorianCalendar.{days_of_months}
use Rattle.a429_logs.proofs.gregorian.days_of_months.Given as goal

abbrev pub invariant-loop-passed : goal.invariant-loop-passed
invariant-loop-passed l = record {
  value : l.days ≡ days_of_months l.fn.leap l.passed;
  few : l.days ≤ 31 * l.passed;
}
