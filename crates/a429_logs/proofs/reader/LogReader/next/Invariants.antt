use Rattle.std.proofs.Common.{◌≡◌, ◌-◌, length}
use Rattle.a429_logs.specs.LogsLeft.{entries_left, next_of, pieces_of, reading_left, tail_left, titles_now}
use Rattle.a429_logs.proofs.reader.LogReader.next.Given as goal

abbrev pub invariant-loop-self : goal.invariant-loop-self
invariant-loop-self l = record {
  entries : entries_left l.self ≡ entries_left l.initial.self;
  after : reading_left l.self ≡ reading_left l.initial.self;
  tail : tail_left l.self ≡ tail_left l.initial.self;
  titles : titles_now l.self ≡ titles_now l.initial.self;
  pieces : pieces_of l.self ≡ pieces_of l.initial.self;
}

abbrev pub decreases-loop-self : goal.decreases-loop-self
decreases-loop-self l = length (pieces_of l.self) - next_of l.self
