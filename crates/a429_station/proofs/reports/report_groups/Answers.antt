use Rattle.std.proofs.Common.{rules, ◌≡◌, ◌∙◌, ◌++◌, [], List, ap, append-nil, map, refl, subst, sym}
use Rattle.std.specs.Prelude.{Ok}
use Rattle.std.specs.List.{AllByRecursion}
use Rattle.std.specs.Vec.Iter.{into_iter_items}
use Rattle.std.proofs.lemmas.List.{nil_from_length}
use Rattle.a429_values.specs.Ends as ends
use Rattle.a429_station.specs.Resubmitting.{Running}
use Rattle.a429_station.specs.Faults.{first_fault}
use Rattle.a429_station.specs.Working.{IsJoined, IsOver, IsReceiverAt}
use Rattle.a429_station.specs.Numbered.{AllNumbered}
use Rattle.a429_station.specs.declared.working.Emitted.{Emitted}
use Rattle.a429_station.proofs.Numbered.{mapped_grown}
use Rattle.a429_station.proofs.Stopping.{first_goes_on, group_stops}
use Rattle.a429_station.proofs.reports.report_groups.Goals as goal

pub report_group-requires-clause-receivers : goal.report_group-requires-clause-receivers
report_group-requires-clause-receivers g c = subst (AllNumbered (IsReceiverAt c.args.hub.now)) (sym c.loop-done.invariant.receivers) c.requires.receivers

pub report_group-requires-clause-group : goal.report_group-requires-clause-group
report_group-requires-clause-group g c =
    let was = c.loop-done.invariant in
    let over = subst (AllByRecursion (λ d. IsOver c.args.hub.now c.args.station.now.planner d.transmit d.answer)) c.in-Some.ensures.steps.0 was.over in
    subst (λ (s : Running). IsOver c.args.hub.now s.planner c.in-Some.done.transmit c.in-Some.done.answer) (sym was.station) over.0

pub returns-in-Err-clause-fault : goal.returns-in-Err-clause-fault
returns-in-Err-clause-fault g c =
    group_stops (λ (d : Emitted g.row.B.Denot). d.answer) c.in-Some.done _ _ _ _ c.in-Err.fault c.in-Some.ensures.steps.0 c.loop-done.invariant.first c.in-Err.ensures.fault refl

pub loop-done-preserved : goal.loop-done-preserved
loop-done-preserved g c =
    let was = c.loop-done.invariant in
    let hub = c.args.hub.now in
    let list = c.args.station.now.planner.list in
    let d = c.in-Some.done in
    let next = c.in-Some.ensures.steps.0 in
    let over = subst (AllByRecursion (λ d. IsOver hub c.args.station.now.planner d.transmit d.answer)) next was.over in
    let one = subst (λ (l : List ends.ReceiverEnd). IsJoined hub.station list l d.transmit) was.receivers
    (subst (λ (s : Running). IsJoined hub.station s.planner.list c.loop-done.receivers d.transmit) was.station c.report_group.ensures.joined) in
    record {
      totals = mapped_grown (λ (d : Emitted g.row.B.Denot). d.answer) _ _ d _ _ _ c.in-Ok.ensures.totals next was.totals;
      sinks = mapped_grown (λ (d : Emitted g.row.B.Denot). d.sink) _ _ d _ _ _ c.in-Ok.ensures.sinks next was.sinks;
      first = first_goes_on (λ (d : Emitted g.row.B.Denot). d.answer) d _ _ _ next c.in-Ok.ensures.ended was.first;
      over = over.1;
      joined = λ rest. was.joined (subst (AllByRecursion (λ d. IsJoined hub.station list c.args.receivers.now d.transmit)) (sym next) (one, rest));
      receivers = c.report_group.ensures.receivers ∙ was.receivers;
      station = c.report_group.ensures.station ∙ was.station;
    }

pub returns-clause-fault : goal.returns-clause-fault
returns-clause-fault g c = tt

pub returns-clause-totals : goal.returns-clause-totals
returns-clause-totals g c =
    let empty : into_iter_items c.loop-done.done-iterator ≡ [] = nil_from_length (into_iter_items c.loop-done.done-iterator) (search rules) in
    sym (append-nil _) ∙ (ap (λ (l : List (Emitted g.row.B.Denot)). map (λ t. Ok t) c.loop-done.told.totals.items ++ map (λ d. d.answer) l) (sym empty) ∙ c.loop-done.invariant.totals)

pub returns-clause-sinks : goal.returns-clause-sinks
returns-clause-sinks g c =
    let empty : into_iter_items c.loop-done.done-iterator ≡ [] = nil_from_length (into_iter_items c.loop-done.done-iterator) (search rules) in
    sym (append-nil _) ∙ (ap (λ (l : List (Emitted g.row.B.Denot)). c.loop-done.told.sinks.items ++ map (λ d. d.sink) l) (sym empty) ∙ c.loop-done.invariant.sinks)

pub returns-clause-joined : goal.returns-clause-joined
returns-clause-joined g c =
    let empty : into_iter_items c.loop-done.done-iterator ≡ [] = nil_from_length (into_iter_items c.loop-done.done-iterator) (search rules) in
    c.loop-done.invariant.joined (subst (AllByRecursion (λ (d : Emitted g.row.B.Denot). IsJoined c.args.hub.now.station c.args.station.now.planner.list c.args.receivers.now d.transmit)) (sym empty) tt)

pub returns-in-Err-clause-totals : goal.returns-in-Err-clause-totals
returns-in-Err-clause-totals g c = tt

pub returns-in-Err-clause-sinks : goal.returns-in-Err-clause-sinks
returns-in-Err-clause-sinks g c = tt

pub returns-in-Err-clause-joined : goal.returns-in-Err-clause-joined
returns-in-Err-clause-joined g c = tt

-- no worker has ended yet, and all are to come
told_first : {D T S : Type 0} (h : T → S) (f : D → S) (told : List T) (before all : List D) → told ≡ [] → before ≡ all → map h told ++ map f before ≡ map f all
told_first {D} {T} h f told before all none same = ap (λ (l : List T). map h l ++ map f before) none ∙ ap (λ (l : List D). map f l) same

kept_first : {D S : Type 0} (f : D → S) (kept : List S) (before all : List D) → kept ≡ [] → before ≡ all → kept ++ map f before ≡ map f all
kept_first {D} {S} f kept before all none same = ap (λ (l : List S). l ++ map f before) none ∙ ap (λ (l : List D). map f l) same

pub loop-done-init : goal.loop-done-init
loop-done-init g c =
    let same : into_iter_items c.into_iter-done-iterator.result ≡ c.args.sent.items = c.into_iter-done-iterator.ensures.into_iter_gives.0 in
    record {
      totals = told_first (λ t. Ok t) (λ d. d.answer) c.new.result.items (into_iter_items c.into_iter-done-iterator.result) c.args.sent.items c.new.ensures.items same;
      sinks = kept_first (λ d. d.sink) c.new-2.result.items (into_iter_items c.into_iter-done-iterator.result) c.args.sent.items c.new-2.ensures.items same;
      first = ap (λ (l : List (Emitted g.row.B.Denot)). first_fault (map (λ d. d.answer) l)) same;
      over = subst (AllByRecursion (λ (d : Emitted g.row.B.Denot). IsOver c.args.hub.now c.args.station.now.planner d.transmit d.answer)) (sym same) c.requires.groups;
      joined = subst (AllByRecursion (λ (d : Emitted g.row.B.Denot). IsJoined c.args.hub.now.station c.args.station.now.planner.list c.args.receivers.now d.transmit)) same;
      receivers = refl;
      station = refl;
    }
