use Rattle.std.proofs.Common.{◌≡◌, ◌+◌, drop, take}
use Rattle.a429_cert.specs.Lines.{lines_of}
use Rattle.a429_cert.specs.Faults.{groups_faults, first_no, due}
use Rattle.a429_cert.proofs.table_lines.check_groups.Given as goal

abbrev pub invariant-loop-group : goal.invariant-loop-group
invariant-loop-group l = record {
  number_is : l.number ≡ l.first + due (take l.group-index l.groups);
  answer : first_no l.first (groups_faults l.version l.groups (lines_of l.fn.lines.rest.now)) ≡ first_no l.number (groups_faults l.version (drop l.group-index l.groups) (lines_of l.lines.rest.now));
}
