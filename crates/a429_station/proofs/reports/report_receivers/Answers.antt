use Rattle.std.proofs.Common.{rules, ◌≡◌, ◌∙◌, ◌++◌, [], List, ap, append-nil, map, refl, sym}
use Rattle.std.specs.Prelude.{Ok}
use Rattle.std.specs.Vec.Iter.{into_iter_items}
use Rattle.std.proofs.lemmas.List.{nil_from_length}
use Rattle.a429_station.specs.declared.working.Received.{Received}
use Rattle.a429_station.proofs.Numbered.{mapped_grown}
use Rattle.a429_station.proofs.Stopping.{first_goes_on, receiver_stops}
use Rattle.a429_station.proofs.reports.report_receivers.Goals as goal

pub returns-in-Err-clause-fault : goal.returns-in-Err-clause-fault
returns-in-Err-clause-fault g c =
    receiver_stops (λ (d : Received g.row.L.Denot). d.answer) c.in-Some.done _ _ _ _ c.in-Err.fault c.in-Some.ensures.steps.0 c.loop-done.invariant.first c.in-Err.ensures.fault refl

pub loop-done-preserved : goal.loop-done-preserved
loop-done-preserved g c =
    let was = c.loop-done.invariant in
    let d = c.in-Some.done in
    let next = c.in-Some.ensures.steps.0 in
    let more = c.in-Ok.ensures in
    record {
      totals = mapped_grown (λ (d : Received g.row.L.Denot). d.answer) _ _ d _ _ _ more.totals next was.totals;
      sources = mapped_grown (λ (d : Received g.row.L.Denot). d.line) _ _ d _ _ _ more.sources next was.sources;
      first = first_goes_on (λ (d : Received g.row.L.Denot). d.answer) d _ _ _ next more.ended was.first;
      receivers = mapped_grown (λ (d : Received g.row.L.Denot). d.receiver) _ _ d _ _ _ more.receivers next was.receivers;
    }

pub returns-clause-fault : goal.returns-clause-fault
returns-clause-fault g c = tt

pub returns-clause-totals : goal.returns-clause-totals
returns-clause-totals g c =
    let empty : into_iter_items c.loop-done.done-iterator ≡ [] = nil_from_length (into_iter_items c.loop-done.done-iterator) (search rules) in
    sym (append-nil _) ∙ (ap (λ (l : List (Received g.row.L.Denot)). map (λ t. Ok t) c.loop-done.heard.totals.items ++ map (λ d. d.answer) l) (sym empty) ∙ c.loop-done.invariant.totals)

pub returns-clause-sources : goal.returns-clause-sources
returns-clause-sources g c =
    let empty : into_iter_items c.loop-done.done-iterator ≡ [] = nil_from_length (into_iter_items c.loop-done.done-iterator) (search rules) in
    sym (append-nil _) ∙ (ap (λ (l : List (Received g.row.L.Denot)). c.loop-done.heard.sources.items ++ map (λ d. d.line) l) (sym empty) ∙ c.loop-done.invariant.sources)

pub returns-clause-receivers : goal.returns-clause-receivers
returns-clause-receivers g c =
    let empty : into_iter_items c.loop-done.done-iterator ≡ [] = nil_from_length (into_iter_items c.loop-done.done-iterator) (search rules) in
    sym (append-nil _) ∙ (ap (λ (l : List (Received g.row.L.Denot)). c.loop-done.heard.receivers.items ++ map (λ d. d.receiver) l) (sym empty) ∙ c.loop-done.invariant.receivers)
