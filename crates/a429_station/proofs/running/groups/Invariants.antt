use Rattle.std.specs.Prelude.{◌≡◌, ◌≤◌, ◌+◌, ◌++◌, ◌<◌, length, map, vec_capacity, vec_len}
use Rattle.std.specs.List.{AllByRecursion}
use Rattle.std.specs.Vec.Iter.{into_iter_items, into_iter_len}
use Rattle.a429_board.specs.Lists.{beginner}
use Rattle.a429_station.specs.Numbered.{AllNumbered}
use Rattle.a429_station.specs.Workers.{AreReady}
use Rattle.a429_station.proofs.running.groups.Given as goal

abbrev pub invariant-loop-sink : goal.invariant-loop-sink
invariant-loop-sink g l = record {
  sinks : map (λ w. w.sink) l.workers.items ++ into_iter_items l.sink-iterator ≡ l.fn.sinks.items;
  left : length l.workers.items + into_iter_len l.sink-iterator ≡ vec_len l.fn.sinks;
  room : length l.workers.items + into_iter_len l.sink-iterator ≤ vec_capacity l.workers;
  enough : into_iter_len l.sink-iterator ≤ vec_len l.watchers;
  watchers : AllByRecursion (λ w. w ≡ beginner l.fn.station.planner) l.watchers.items;
  desk : l.desk.at ≡ l.fn.desk.at;
  given : AllByRecursion (λ y. y < length l.workers.items) l.desk.transmitters;
  ready : AreReady l.fn.hub l.fn.station.planner l.fn.frames l.workers.items;
  gates : AllNumbered (λ k w. (w.number ≡ k) × (w.gate.now ≡ l.fn.gate)) l.workers.items;
}
