use Rattle.std.proofs.Common.{◌≡◌, length}
use Rattle.std.specs.Prelude.{All}
use Rattle.a429_board.proofs.planner.Planner.watchers.Given as goal

abbrev pub invariant-loop : goal.invariant-loop
invariant-loop l = record {
  same : l.self ≡ l.initial.self;
  long : length l.all.items ≡ l.counter;
  each : All (λ w. w ≡ record { book = l.initial.self.book; list = l.initial.self.list; opened = l.initial.self.last }) l.all.items;
}
