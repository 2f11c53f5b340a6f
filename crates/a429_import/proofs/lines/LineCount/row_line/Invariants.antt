use Rattle.std.proofs.Common.{◌≡◌, ◌-◌, drop, false, length}
use Rattle.std.specs.Prelude.{◌&&◌}
use Rattle.a429_import.specs.Imports.{separated}
use Rattle.a429_import.specs.ImportSteps.{state_of}
use Rattle.a429_import.specs.LineCounts.{HasCounted, begins_with_end, is_between, row_end}
use Rattle.a429_import.proofs.lines.LineCount.row_line.Given as goal

abbrev pub invariant-loop-self : goal.invariant-loop-self
invariant-loop-self l = record {
  counted : HasCounted l.text l.self;
  row : row_end (separated l.separator) (state_of l.self.part) (drop l.self.at l.text) ≡ row_end (separated l.separator) (state_of l.initial.self.part) (drop l.initial.self.at l.text);
  begun : (is_between (state_of l.self.part) && begins_with_end (drop l.self.at l.text)) ≡ false;
}

abbrev pub decreases-loop-self : goal.decreases-loop-self
decreases-loop-self l = length l.text - l.self.at
