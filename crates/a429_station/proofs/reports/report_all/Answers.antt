use Rattle.std.proofs.Common.{rules, ◌∙◌, List, ap, map, refl, subst, sym}
use Rattle.std.specs.Prelude.{Ok}
use Rattle.std.specs.List.{AllByRecursion}
use Rattle.a429_values.specs.Ends as ends
use Rattle.a429_station.specs.Faults.{first_fault}
use Rattle.a429_station.specs.Numbered.{AllNumbered}
use Rattle.a429_station.specs.Resubmitting.{Running}
use Rattle.a429_station.specs.Working.{IsJoined, IsOver, IsReceiverAt}
use Rattle.a429_station.specs.declared.working.Emitted.{Emitted}
use Rattle.a429_station.proofs.Ended.{unheard, untold}
use Rattle.a429_station.proofs.Numbered.{numbered_mapped}
use Rattle.a429_station.proofs.reports.report_all.Goals as goal

pub report_groups-requires-clause-receivers : goal.report_groups-requires-clause-receivers
report_groups-requires-clause-receivers g c =
    let hub = c.args.hub.now in
    subst (AllNumbered (IsReceiverAt hub)) (search rules) (numbered_mapped (λ d. d.receiver) (IsReceiverAt hub) c.args.done.first.items c.requires.receivers)

pub report_groups-requires-clause-groups : goal.report_groups-requires-clause-groups
report_groups-requires-clause-groups g c =
    let hub = c.args.hub.now in
    subst (λ (r : Running). AllByRecursion (λ (d : Emitted g.row.B.Denot). IsOver hub r.planner d.transmit d.answer) c.check_all_ends.new.sent.items) (sym c.check_all_ends.ensures.station)
    (subst (AllByRecursion (λ (d : Emitted g.row.B.Denot). IsOver hub c.args.station.now.planner d.transmit d.answer)) (sym c.in-Ok.ensures.same) c.requires.groups)

-- if all workers ended well, only `NoMemory` prevents the report
pub returns-in-Err-report_receivers-clause-fault : goal.returns-in-Err-report_receivers-clause-fault
returns-in-Err-report_receivers-clause-fault g c = unheard _ _ _ c.in-Err-report_receivers.fault c.in-Ok.ensures.receivers c.in-Ok.ensures.groups c.in-Err-report_receivers.ensures.fault refl

pub returns-in-Err-report_groups-clause-fault : goal.returns-in-Err-report_groups-clause-fault
returns-in-Err-report_groups-clause-fault g c =
    let same = ap (λ (l : List (Emitted g.row.B.Denot)). first_fault (map (λ d. d.answer) l)) c.in-Ok.ensures.same in
    untold _ _ _ _ c.in-Err-report_groups.fault c.in-Ok.ensures.receivers c.in-Ok.ensures.groups same c.in-Err-report_groups.ensures.fault refl

pub returns-clause-reported : goal.returns-clause-reported
returns-clause-reported g c =
    let t = c.args.hub.now.station in
    let list = c.args.station.now.planner.list in
    let first = c.args.done.first.items in
    let second = c.args.done.second.items in
    let same = c.in-Ok.ensures.same in
    let told = subst (λ (r : Running). AllByRecursion (λ (d : Emitted g.row.B.Denot). IsJoined t r.planner.list c.as_mut_slice-receivers.result.now d.transmit) c.check_all_ends.new.sent.items) c.check_all_ends.ensures.station c.in-Ok-report_groups.ensures.joined in
    let joined = subst (AllByRecursion (λ (d : Emitted g.row.B.Denot). IsJoined t list c.as_mut_slice-receivers.result.now d.transmit)) same told in
    record {
      receivers = ap (map (λ x. Ok x)) c.report_from.ensures.receivers ∙ c.in-Ok-report_receivers.ensures.totals;
      groups = ap (map (λ x. Ok x)) c.report_from.ensures.groups ∙ (c.in-Ok-report_groups.ensures.totals ∙ ap (λ (l : List (Emitted g.row.B.Denot)). map (λ d. d.answer) l) same);
      sources = c.report_from.ensures.sources ∙ c.in-Ok-report_receivers.ensures.sources;
      sinks = c.report_from.ensures.sinks ∙ (c.in-Ok-report_groups.ensures.sinks ∙ ap (λ (l : List (Emitted g.row.B.Denot)). map (λ d. d.sink) l) same);
      joined = subst (λ (l : List ends.ReceiverEnd). AllByRecursion (λ (d : Emitted g.row.B.Denot). IsJoined t list l d.transmit) second) (search rules) joined;
      control = c.in-Ok.ensures.control;
    }

pub returns-clause-fault : goal.returns-clause-fault
returns-clause-fault g c = tt
