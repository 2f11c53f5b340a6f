use Rattle.std.proofs.Common.{◌≡◌, ◌-◌, ◌≤◌}
use Rattle.csv.specs.declared.parser.State.TheVariants as st
use Rattle.a429_import.specs.ImportSteps.{state_of}
use Rattle.a429_import.specs.LineCounts.{HasCounted}
use Rattle.a429_import.proofs.lines.LineCount.before.Given as goal

abbrev pub invariant-loop-count : goal.invariant-loop-count
invariant-loop-count l = record {
  counted : HasCounted l.text l.count;
  before : l.count.at ≤ l.place;
  start : state_of l.count.part ≡ st.StartRecord;
}

abbrev pub decreases-loop-count : goal.decreases-loop-count
decreases-loop-count l = l.place - l.count.at
