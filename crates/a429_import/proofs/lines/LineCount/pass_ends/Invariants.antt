use Rattle.std.proofs.Common.{◌≡◌, ◌-◌, ℕ, drop, length, true}
use Rattle.a429_import.specs.Imports.{separated}
use Rattle.a429_import.specs.ImportSteps.{state_of}
use Rattle.a429_import.specs.LineCounts.{HasCounted, is_between, row_end}
use Rattle.a429_import.specs.RowLines.{from_row}
use Rattle.a429_import.proofs.lines.LineCount.pass_ends.Given as goal

abbrev pub invariant-loop-self : goal.invariant-loop-self
invariant-loop-self l = record {
  counted : HasCounted l.text l.self;
  between : is_between (state_of l.self.part) ≡ true;
  rest : from_row (drop l.self.at l.text) ≡ from_row (drop l.initial.self.at l.text);
  row : (separator : ℕ) → row_end (separated separator) (state_of l.self.part) (drop l.self.at l.text)
      ≡ row_end (separated separator) (state_of l.initial.self.part) (drop l.initial.self.at l.text);
}

abbrev pub decreases-loop-self : goal.decreases-loop-self
decreases-loop-self l = length l.text - l.self.at
