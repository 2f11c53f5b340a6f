use Rattle.std.proofs.Common.{◌≡◌, ◌++◌, drop, map}
use Rattle.a429_recordings.specs.JudgedPlans.{finding_row}
use Rattle.a429_recordings.proofs.judge.events.add_findings.Given as goal

abbrev pub invariant-loop-finding : goal.invariant-loop-finding
invariant-loop-finding l = l.rows ++ map (finding_row l.group l.fn.source l.fn.bus) (drop l.finding-index l.found) ≡ l.fn.rows ++ map (finding_row l.group l.fn.source l.fn.bus) l.found
