use Rattle.std.specs.Prelude.{◌≡◌, ◌≤◌, ◌+◌, ◌++◌, ◌<◌, length, map, vec_capacity, vec_len}
use Rattle.std.specs.List.{AllByRecursion}
use Rattle.std.specs.Vec.Iter.{into_iter_items, into_iter_len}
use Rattle.a429_station.specs.Course.{fresh}
use Rattle.a429_station.specs.Numbered.{AllNumbered}
use Rattle.a429_station.proofs.running.receivers.Given as goal

abbrev pub invariant-loop-line : goal.invariant-loop-line
invariant-loop-line g l = record {
  lines : map (λ w. w.line) l.workers.items ++ into_iter_items l.line-iterator ≡ l.fn.sources.items;
  left : length l.workers.items + into_iter_len l.line-iterator ≡ vec_len l.fn.sources;
  room : length l.workers.items + into_iter_len l.line-iterator ≤ vec_capacity l.workers;
  desk : l.desk.at ≡ l.fn.desk.at;
  transmitters : l.desk.transmitters ≡ l.fn.desk.transmitters;
  given : AllByRecursion (λ y. y < length l.workers.items) l.desk.receivers;
  fresh : AllNumbered (λ r w. w.receiver ≡ fresh l.fn.hub r) l.workers.items;
  gates : AllNumbered (λ r w. (w.number ≡ r) × (w.gate.now ≡ l.fn.gate)) l.workers.items;
}
