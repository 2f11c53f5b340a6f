use Rattle.std.proofs.Common.{rules, arith, ◌≡◌, ◌∙◌, ◌+◌, ◌<◌, ◌++◌, ◌∷◌, [], List, length, ap, subst, sym, take, get_or}
use Rattle.std.proofs.lemmas.Grind.{common_steps}
use Rattle.std.proofs.lemmas.List.{take_more}
use Rattle.a429_values.specs.Ends as ends
use Rattle.a429_station.specs.Numbered.{AllNumbered}
use Rattle.a429_station.specs.Working.{HasMet, IsReceiverAt}
use Rattle.a429_station.proofs.Numbered.{numbered_get, numbered_weaker, numbers_below}
use Rattle.a429_station.proofs.Meeting.{met_more, met_none}
use Rattle.a429_station.proofs.reports.meet_all.Goals as goal

pub loop-place-init : goal.loop-place-init
loop-place-init c = (search rules, met_none _ _)

pub meet-requires : goal.meet-requires
meet-requires c =
    let i = c.loop-place.invariant in
    let at = c.args.transmit.now.transmitter.at in
    let all = subst (AllNumbered (IsReceiverAt at)) (sym i.0) c.requires.receivers in
    let one = numbered_get (IsReceiverAt at) c.loop-place.receivers c.loop-place.place c.index-receivers-place.result (omega (arith, c.loop-place-test.true, c.loop-place.auto.receivers)) all in
    one.0 ∙ sym i.1.hub

pub loop-place-preserved : goal.loop-place-preserved
loop-place-preserved c =
    let i = c.loop-place.invariant in
    let u = c.args.transmit.now in
    let at = u.transmitter.at in
    let rs = c.args.receivers.now in
    let place = c.loop-place.place in
    let d = c.index-receivers-place.result in
    let r = get_or c.loop-place.receivers place d in
    let same : get_or rs place d ≡ r = ap (λ (l : List ends.ReceiverEnd). get_or l place d) (sym i.0) in
    let inside : place < length rs = omega (arith, c.loop-place-test.true, c.loop-place.auto.receivers) in
    let one = numbered_get (IsReceiverAt at) rs place d inside c.requires.receivers in
    let own = ap (λ (x : ends.ReceiverEnd). x.number) (sym same) ∙ one.1 in
    let low = numbers_below (λ (x : ends.ReceiverEnd). x.number) (λ k. k) rs place r.number (numbered_weaker (IsReceiverAt at) (λ k x. x.number ≡ k) (λ k x h. h.1) rs c.requires.receivers) (λ k lt. omega (arith, lt, own)) in
    let met = met_more at.station (take place rs) r u c.loop-place.transmit c.meet.new.self i.1 (ap (λ (x : ends.Place). x.station) i.1.hub) low c.meet.ensures.stands c.meet.ensures.loads c.meet.ensures.agrees c.meet.ensures.others in
    let grown : take place rs ++ r ∷ [] ≡ take (place + 1) rs = ap (λ (x : ends.ReceiverEnd). take place rs ++ x ∷ []) (sym same) ∙ sym (take_more rs place d inside) in
    (first_of (search rules, grind (arith, common_steps)), subst (λ (l : List ends.ReceiverEnd). HasMet at.station l u c.meet.new.self) grown met)
