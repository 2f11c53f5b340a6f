use Rattle.std.proofs.Common.{◌≡◌, ◌<◌, ◌∙◌, ◌∷◌, [], ℕ, List, length, replicate, sym, ap, subst}
use Rattle.std.specs.Prelude.{Some, slice_get}
use Rattle.std.proofs.lemmas.List.{length-replicate}
use Rattle.std.proofs.lemmas.Option.{same_Some}
use mathlib.Core.List.{IsPrefix}
use Rattle.a429_slots.specs.Tables.{PlanTable, groups_of}
use Rattle.a429_slots.specs.FrameStates.{FrameState, begun}
use Rattle.a429_slots.specs.Recalling.{Recent, never}
use Rattle.a429_slots.proofs.Remembering.{AreRecalled}
use Rattle.a429_workers.specs.Transmitting.{HasMade, IsKnownTable}
use Rattle.a429_workers.proofs.Changing.{first_known, nothing_made}
use Rattle.a429_workers.proofs.transmit.Transmit.open.Goals as goal
use Rattle.a429_workers.proofs.Lists.{all_get}

pub returns-clause-stands : goal.returns-clause-stands
returns-clause-stands c = λ p own known.
    let law : AreRecalled = record { none = c.sends_are_recalled.ensures.none; decides = c.sends_are_recalled.ensures.decides; sent = c.sends_are_recalled.ensures.sent; other = c.sends_are_recalled.ensures.other } in
    let t = c.args.transmitter in
    let w = c.args.watcher in
    let opens : slice_get (groups_of c.args.watcher.opened) c.args.group ≡ Some p = ap (slice_get (groups_of c.args.watcher.opened)) c.requires.group ∙ own in
    let opened : c.opened-opened.result.now ≡ w.opened = c.opened-opened.ensures.opened in
    let found : slice_get (groups_of w.opened) c.args.group ≡ Some c.group.result.now = ap (λ (q : PlanTable). slice_get (groups_of q) c.args.group) (sym opened) ∙ c.group.ensures in
    let table : c.group.result.now ≡ p = same_Some c.group.result.now p (sym found ∙ opens) in
    let begins : IsPrefix (w.opened ∷ []) w.list = subst (λ (q : PlanTable). IsPrefix (q ∷ []) w.list) opened c.opened-opened.ensures.first in
    let of_station : IsKnownTable t.at.station p = all_get (IsKnownTable t.at.station) (groups_of w.opened) c.args.group p opens (first_known t.at.station w.list w.opened begins known) in
    let unsent : c.in_ok-sends.sends ≡ replicate (length t.at.station.sources) never = c.in_ok-sends.ensures ∙ ap (λ (n : ℕ). replicate n never) c.sources.ensures in
    let made = nothing_made law t w p c.args.first_slot c.in_ok-sends.sends own begins unsent of_station in
    let numbered : w.opened.number ≡ c.number-number.result = sym (c.number-number.ensures ∙ ap (λ (q : PlanTable). q.number) opened) in
    let frame : begun c.args.first_slot p ≡ c.in_ok-sender.sender = sym (c.in_ok-sender.ensures ∙ ap (begun c.args.first_slot) table) in
    subst (λ (n : ℕ). HasMade (record { opened = w.opened; group = t.number; table = p; first = c.args.first_slot; before = t.loads }) [] (record { transmitter = t; watcher = w; frame = c.in_ok-sender.sender; number = n; sends = c.in_ok-sends.sends })) numbered
    (subst (λ (f : FrameState). HasMade (record { opened = w.opened; group = t.number; table = p; first = c.args.first_slot; before = t.loads }) [] (record { transmitter = t; watcher = w; frame = f; number = w.opened.number; sends = c.in_ok-sends.sends })) frame made)

pub invariant_of-result : goal.invariant_of-result
invariant_of-result c = (
  ap (λ (rs : List Recent). length rs) c.in_ok-sends.ensures ∙ (length-replicate c.sources.result never ∙ c.sources.ensures),
  subst (λ (n : ℕ). n < length (groups_of c.args.watcher.opened)) c.requires.group c.requires.planned,
)
