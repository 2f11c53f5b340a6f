use Rattle.std.proofs.Common.{◌≡◌, length}
use Rattle.a429_logs.specs.LogsLeft.{entries_left, lines_left, next_of, pieces_of, reading_left, tail_left, titles_now}
use Rattle.a429_logs.proofs.reader.LogReader.next_entry.Given as goal

abbrev pub invariant-loop-line : goal.invariant-loop-line
invariant-loop-line l = record {
  entries : entries_left l.self ≡ entries_left l.initial.self;
  after : reading_left l.self ≡ reading_left l.initial.self;
  tail : tail_left l.self ≡ tail_left l.initial.self;
  titles : titles_now l.self ≡ titles_now l.initial.self;
  pieces : pieces_of l.self ≡ pieces_of l.initial.self;
  piece : next_of l.self ≡ next_of l.initial.self;
}

abbrev pub decreases-loop-line : goal.decreases-loop-line
decreases-loop-line l = length (lines_left l.self)
