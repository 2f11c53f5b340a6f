use Rattle.std.proofs.Common.{◌≡◌, ◌∙◌, List, [], ◌∷◌, ◌++◌, ap, map, refl, subst, sym}
use Rattle.std.specs.Prelude.{Option, None, Result, Ok, Err, OnOk}
use Rattle.std.proofs.lemmas.List.{map-append}
use Rattle.a429_values.specs.Ends as ends
use Rattle.a429_workers.specs.declared.sending.SendTotals.{SendTotals}
use Rattle.a429_workers.specs.declared.sending.SendFault.{SendFault}
use Rattle.a429_station.specs.Faults.{IsFirstFault, first_fault}
use Rattle.a429_station.specs.declared.faults.LiveFault.TheVariants.{NoMemory}
use Rattle.a429_station.proofs.Meeting.{joined_one, receivers_there}
use Rattle.a429_station.proofs.Stopping.{weaker}
use Rattle.a429_station.proofs.reports.report_group.Goals as goal

then_on_ok : {A E X Y : Type 0} (r : Result A E) → (X → Y) → OnOk r X → OnOk r Y
then_on_ok (Ok a) on x = on x
then_on_ok (Err e) on x = tt

in_any_case : {A E X : Type 0} (r : Result A E) → X → OnOk r X
in_any_case (Ok a) x = x
in_any_case (Err e) x = tt

no_fault : (t : SendTotals) (answer : Result SendTotals SendFault) → answer ≡ Ok t → first_fault (answer ∷ []) ≡ None
no_fault t answer is = ap (λ (r : Result SendTotals SendFault). first_fault (r ∷ [])) is

-- the group ended well: its totals are added as its answer is
totals_more : (t : SendTotals) (answer : Result SendTotals SendFault) (old new : List SendTotals) → answer ≡ Ok t → new ≡ old ++ t ∷ [] → map (λ x. Ok x) new ≡ map (λ x. Ok x) old ++ answer ∷ []
totals_more t answer old new is grown =
    let ok : SendTotals → Result SendTotals SendFault = λ x. Ok x in
    ap (λ (xs : List SendTotals). map ok xs) grown ∙ (map-append ok old (t ∷ []) ∙ ap (λ (r : Result SendTotals SendFault). map ok old ++ r ∷ []) (sym is))

pub meet_all-requires : goal.meet_all-requires
meet_all-requires g c = record {
  receivers = receivers_there c.args.hub.now c.args.station.now.planner.list c.args.done.transmit c.tell.new.transmit c.args.receivers.now c.args.receivers.now c.tell.ensures.transmit c.requires.group.hub refl c.requires.receivers;
}

pub returns-in-Ok-clause-joined : goal.returns-in-Ok-clause-joined
returns-in-Ok-clause-joined g c =
    joined_one c.args.hub.now.station c.args.station.now.planner.list c.args.receivers.now c.args.done.transmit c.tell.new.transmit c.meet_all.new.transmit
    c.tell.ensures.beginning c.tell.ensures.stands c.tell.ensures.transmit (ap (λ (x : ends.Place). x.station) c.requires.group.hub) c.meet_all.ensures.met

pub returns-in-Err-clause-joined : goal.returns-in-Err-clause-joined
returns-in-Err-clause-joined g c =
    joined_one c.args.hub.now.station c.args.station.now.planner.list c.args.receivers.now c.args.done.transmit c.tell.new.transmit c.meet_all.new.transmit
    c.tell.ensures.beginning c.tell.ensures.stands c.tell.ensures.transmit (ap (λ (x : ends.Place). x.station) c.requires.group.hub) c.meet_all.ensures.met

pub returns-in-Ok-clause-station : goal.returns-in-Ok-clause-station
returns-in-Ok-clause-station g c = c.tell.ensures.station

pub returns-in-Ok-clause-receivers : goal.returns-in-Ok-clause-receivers
returns-in-Ok-clause-receivers g c = c.meet_all.ensures.receivers

pub returns-in-Ok-clause-ended : goal.returns-in-Ok-clause-ended
returns-in-Ok-clause-ended g c = in_any_case c.push.result (no_fault c.in-Ok.totals c.args.done.answer c.in-Ok.is)

pub returns-in-Ok-clause-totals : goal.returns-in-Ok-clause-totals
returns-in-Ok-clause-totals g c =
    then_on_ok c.push.result (totals_more c.in-Ok.totals c.args.done.answer c.args.told.now.totals.items c.push.new.self.totals.items c.in-Ok.is) c.push.ensures.totals

pub returns-in-Ok-clause-sinks : goal.returns-in-Ok-clause-sinks
returns-in-Ok-clause-sinks g c = c.push.ensures.sinks

pub returns-in-Ok-clause-fault : goal.returns-in-Ok-clause-fault
returns-in-Ok-clause-fault g c =
    weaker (λ f. f ≡ NoMemory) (IsFirstFault None (first_fault (c.args.done.answer ∷ []))) c.push.result
    (λ f is. subst (λ (w : Option SendFault). IsFirstFault None w f) (sym (no_fault c.in-Ok.totals c.args.done.answer c.in-Ok.is)) is) c.push.ensures.fault

pub returns-in-Err-clause-station : goal.returns-in-Err-clause-station
returns-in-Err-clause-station g c = c.tell.ensures.station

pub returns-in-Err-clause-receivers : goal.returns-in-Err-clause-receivers
returns-in-Err-clause-receivers g c = c.meet_all.ensures.receivers

pub returns-in-Err-clause-ended : goal.returns-in-Err-clause-ended
returns-in-Err-clause-ended g c = tt

pub returns-in-Err-clause-totals : goal.returns-in-Err-clause-totals
returns-in-Err-clause-totals g c = tt

pub returns-in-Err-clause-sinks : goal.returns-in-Err-clause-sinks
returns-in-Err-clause-sinks g c = tt

pub returns-in-Err-clause-fault : goal.returns-in-Err-clause-fault
returns-in-Err-clause-fault g c =
    subst (λ (r : Result SendTotals SendFault). IsFirstFault None (first_fault (r ∷ [])) c.group_fault.result) (sym c.in-Err.is) c.group_fault.ensures
