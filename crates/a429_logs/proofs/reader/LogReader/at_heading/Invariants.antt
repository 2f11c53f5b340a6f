use Rattle.std.proofs.Common.{◌≡◌, ◌≤◌, length}
use Rattle.std.specs.Prelude.{None}
use Rattle.a429_logs.specs.Logs.{heading_from}
use Rattle.a429_logs.specs.LogsLeft.{lines_left, next_of, pieces_of}
use Rattle.a429_logs.proofs.Titles.{more_titles}
use Rattle.a429_logs.proofs.reader.LogReader.at_heading.Given as goal

abbrev pub invariant-loop-line : goal.invariant-loop-line
invariant-loop-line l = record {
  here : l.here ≡ l.self;
  heading : heading_from l.fn.self.reading (lines_left l.fn.self) ≡ more_titles l.titles (heading_from l.self.reading (lines_left l.self));
  reading : l.self.reading ≡ l.fn.self.reading;
  tail : l.self.passed.tail ≡ None;
  pieces : pieces_of l.self ≡ pieces_of l.fn.self;
  piece : next_of l.fn.self ≤ next_of l.self;
}

abbrev pub decreases-loop-line : goal.decreases-loop-line
decreases-loop-line l = length (lines_left l.self)
