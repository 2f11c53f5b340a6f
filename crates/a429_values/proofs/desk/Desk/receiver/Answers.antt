use Rattle.std.proofs.Common.{refl, ap, sym, subst, ◌∙◌, ◌<◌, ℕ, List, length, get_or, ◌∷◌, [], ◌++◌, ◌==◌}
use Rattle.std.proofs.lemmas.Bool.{false≢true}
use Rattle.std.specs.Prelude.{not}
use Rattle.std.specs.List.{list_any}
use Rattle.a429_values.specs.declared.view.View.{View}
use Rattle.a429_values.specs.declared.wired.Wired.{Wired}
use Rattle.a429_values.specs.Ends.{Dealing, Place}
use Rattle.a429_values.specs.Views.{receiver}
use Rattle.a429_values.specs.Wires.{place_of}
use Rattle.a429_values.proofs.Accepting.{limit_fits, new_receiving, zero_at}
use Rattle.a429_values.proofs.Dealing.{added, kept, new_end, same_dealing}
use Rattle.a429_values.proofs.desk.Desk.receiver.Goals as goal

pub invariant_of-self-then-is_err : goal.invariant_of-self-then-is_err
invariant_of-self-then-is_err g c =
    let same = kept _ _ _ c.args.number c.push.ensures.items (c.is_err.ensures.negation ∙ ap not c.if-is_err.true) in
    (c.self.invariant.0, (c.self.invariant.1.0, c.self.invariant.1.1 ∙ sym same, c.self.invariant.1.2))

pub returns-then-is_err-clause-taken : goal.returns-then-is_err-clause-taken
returns-then-is_err-clause-taken g c =
    let free = ap (λ (d : Dealing). list_any (λ y. y == c.args.number) d.receivers) (sym c.self.view_is) ∙ ap (λ (xs : List ℕ). list_any (λ y. y == c.args.number) xs) (sym c.as_slice.ensures.value) ∙ sym c.contains.ensures.value ∙ c.if-contains.false in
    (λ e. absurd (cc), λ t. absurd (false≢true (sym free ∙ t)))

pub returns-then-is_err-clause-refused : goal.returns-then-is_err-clause-refused
returns-then-is_err-clause-refused g c =
    let same = kept _ _ _ c.args.number c.push.ensures.items (c.is_err.ensures.negation ∙ ap not c.if-is_err.true) in
    same_dealing _ _ _ _ _ _ _ _ refl refl same refl ∙ c.self.view_is

pub cut_receiver-requires-clause-seat : goal.cut_receiver-requires-clause-seat
cut_receiver-requires-clause-seat g c =
    let here = ap place_of c.in_ok-parts.ensures.wired ∙ c.hub.view_is in
    let at = ap (λ (d : Dealing). d.at) c.self.view_is ∙ c.requires.hub ∙ sym here in
    ((ap (λ (p : Place). p.hub) at ∙ sym (ap (λ (w : Wired). w.shared_words.shared.table_id) c.deref.ensures), c.self.invariant.0.1), c.deref.result.now.room.1)

pub cut_receiver-requires-clause-view : goal.cut_receiver-requires-clause-view
cut_receiver-requires-clause-view g c =
    (c.self.invariant.1.0, ap (λ (xs : List ℕ). list_any (λ y. y == c.args.number) xs) (c.self.invariant.1.1 ∙ sym c.as_slice.ensures.value) ∙ sym c.contains.ensures.value ∙ c.if-contains.false)

pub invariant_of-result : goal.invariant_of-result
invariant_of-result g c =
    let here = ap place_of c.in_ok-parts.ensures.wired ∙ c.hub.view_is in
    let at = ap (λ (d : Dealing). d.at) c.self.view_is ∙ c.requires.hub ∙ sym here in
    new_receiving _ _ _ _ _ _ (limit_fits g.row.C c.hub.invariant)
    (c.into_badge-badge.ensures.0 ∙ c.cut_receiver.ensures.seat.1.0 ∙ ap (λ (p : Place). p.hub) at)
    (c.into_badge-badge.ensures.2 ∙ ap (λ (v : View). v ∷ []) (c.cut_receiver.ensures.view.1 ∙ ap (λ (p : Place). receiver p.station c.args.number) at))
    (subst (λ (p : Place). c.args.number < length p.station.receivers) (sym here) c.requires.number)
    (c.in_ok-parts.ensures.many ∙ sym (ap (λ (w : Wired). length w.equipment.sources) c.in_ok-parts.ensures.wired))
    (λ s. ap (λ (ws : List ℕ). get_or ws s 0) c.in_ok-parts.ensures.counts ∙ zero_at _ s)

pub invariant_of-self-2 : goal.invariant_of-self-2
invariant_of-self-2 g c =
    let left = c.cut_receiver.ensures.view.0 in
    let more = added _ _ _ c.args.number c.push.ensures.items (c.is_err.ensures.negation ∙ ap not c.if-is_err.false) in (
      (refl, c.cut_receiver.ensures.seat.0.1),
      (
        ap (λ (v : View). v.deals) left ∙ c.self.invariant.1.0,
        ap (λ (v : View). v.given) left ∙ ap (λ (xs : List ℕ). xs ++ c.args.number ∷ []) c.self.invariant.1.1 ∙ sym more,
        ap (λ (v : View). v.sent) left ∙ c.self.invariant.1.2,
      ),
    )

pub returns-clause-receiver : goal.returns-clause-receiver
returns-clause-receiver g c =
    let here = ap place_of c.in_ok-parts.ensures.wired ∙ c.hub.view_is in
    let at = ap (λ (d : Dealing). d.at) c.self.view_is ∙ c.requires.hub ∙ sym here in
    new_end g.row.C _ _ c.args.number c.into_badge-badge.result.views c.hub.invariant here
    (c.into_badge-badge.ensures.2 ∙ ap (λ (v : View). v ∷ []) (c.cut_receiver.ensures.view.1 ∙ ap (λ (p : Place). receiver p.station c.args.number) at))

pub returns-clause-given : goal.returns-clause-given
returns-clause-given g c =
    let more = added _ _ _ c.args.number c.push.ensures.items (c.is_err.ensures.negation ∙ ap not c.if-is_err.false) in
    same_dealing _ _ _ _ _ _ _ _ c.cut_receiver.ensures.seat.0.0 (ap (λ (v : View). v.station) c.cut_receiver.ensures.view.0) more refl
    ∙ ap (λ (d : Dealing). record d { receivers = d.receivers ++ c.args.number ∷ [] }) c.self.view_is
