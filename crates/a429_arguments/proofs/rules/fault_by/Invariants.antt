use Rattle.std.proofs.Common.{◌≡◌, drop}
use Rattle.std.specs.List.{list_any}
use Rattle.a429_arguments.specs.Requests.{asked_of}
use Rattle.a429_arguments.specs.Given.{is_refusing}
use Rattle.a429_arguments.proofs.rules.fault_by.Given as goal

abbrev pub invariant-loop-row : goal.invariant-loop-row
invariant-loop-row l = list_any (is_refusing (asked_of l.asked).verb (asked_of l.asked).given) (drop l.row-index l.rules) ≡ list_any (is_refusing (asked_of l.asked).verb (asked_of l.asked).given) l.rules
