use Rattle.std.proofs.Common.{◌≡◌, ◌≤◌, ◌*◌}
use Rattle.a429_logs.specs.GregorianCalendar.{days_of_years}
use Rattle.a429_logs.proofs.gregorian.days_between.Given as goal

abbrev pub invariant-loop-passed : goal.invariant-loop-passed
invariant-loop-passed l = record {
  value : l.days ≡ days_of_years l.fn.first l.passed;
  few : l.days ≤ 366 * l.passed;
}
