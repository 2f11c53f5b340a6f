use Rattle.std.specs.Prelude.{◌≡◌, ◌++◌, Ok, map}
use Rattle.std.specs.List.{AllByRecursion}
use Rattle.std.specs.Vec.Iter.{into_iter_items}
use Rattle.a429_station.specs.Faults.{first_fault}
use Rattle.a429_station.specs.Working.{IsJoined, IsOver}
use Rattle.a429_station.proofs.reports.report_groups.Given as goal

abbrev pub invariant-loop-done : goal.invariant-loop-done
invariant-loop-done g l = record {
  totals : map (λ t. Ok t) l.told.totals.items ++ map (λ d. d.answer) (into_iter_items l.done-iterator) ≡ map (λ d. d.answer) l.fn.sent.items;
  sinks : l.told.sinks.items ++ map (λ d. d.sink) (into_iter_items l.done-iterator) ≡ map (λ d. d.sink) l.fn.sent.items;
  first : first_fault (map (λ d. d.answer) (into_iter_items l.done-iterator)) ≡ first_fault (map (λ d. d.answer) l.fn.sent.items);
  over : AllByRecursion (λ d. IsOver l.fn.hub l.fn.station.planner d.transmit d.answer) (into_iter_items l.done-iterator);
  joined : AllByRecursion (λ d. IsJoined l.fn.hub.station l.fn.station.planner.list l.fn.receivers d.transmit) (into_iter_items l.done-iterator)
      → AllByRecursion (λ d. IsJoined l.fn.hub.station l.fn.station.planner.list l.fn.receivers d.transmit) l.fn.sent.items;
  receivers : l.receivers ≡ l.fn.receivers;
  station : l.station ≡ l.fn.station;
}
