use Rattle.std.specs.Prelude.{◌≡◌, ◌++◌, Ok, map}
use Rattle.std.specs.Vec.Iter.{into_iter_items}
use Rattle.a429_station.specs.Faults.{first_fault}
use Rattle.a429_station.proofs.reports.report_receivers.Given as goal

abbrev pub invariant-loop-done : goal.invariant-loop-done
invariant-loop-done g l = record {
  totals : map (λ t. Ok t) l.heard.totals.items ++ map (λ d. d.answer) (into_iter_items l.done-iterator) ≡ map (λ d. d.answer) l.fn.received.items;
  sources : l.heard.sources.items ++ map (λ d. d.line) (into_iter_items l.done-iterator) ≡ map (λ d. d.line) l.fn.received.items;
  first : first_fault (map (λ d. d.answer) (into_iter_items l.done-iterator)) ≡ first_fault (map (λ d. d.answer) l.fn.received.items);
  receivers : l.heard.receivers.items ++ map (λ d. d.receiver) (into_iter_items l.done-iterator) ≡ map (λ d. d.receiver) l.fn.received.items;
}
