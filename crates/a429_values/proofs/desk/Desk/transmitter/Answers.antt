use Rattle.std.proofs.Common.{refl, ap, sym, ◌∙◌, ℕ, List, ◌∷◌, [], ◌++◌, ◌==◌}
use Rattle.std.proofs.lemmas.Bool.{false≢true}
use Rattle.std.specs.Prelude.{not}
use Rattle.std.specs.List.{list_any}
use Rattle.a429_values.specs.declared.view.View.{View}
use Rattle.a429_values.specs.declared.wired.Wired.{Wired}
use Rattle.a429_values.specs.Ends.{Dealing, Place}
use Rattle.a429_values.specs.Wires.{place_of}
use Rattle.a429_values.proofs.Dealing.{added, kept, new_sender, same_dealing}
use Rattle.a429_values.proofs.desk.Desk.transmitter.Goals as goal

pub invariant_of-self-then-is_err : goal.invariant_of-self-then-is_err
invariant_of-self-then-is_err g c =
    let same = kept _ _ _ c.args.number c.push.ensures.items (c.is_err.ensures.negation ∙ ap not c.if-is_err.true) in
    (c.self.invariant.0, (c.self.invariant.1.0, c.self.invariant.1.1, c.self.invariant.1.2 ∙ sym same))

pub returns-then-is_err-clause-taken : goal.returns-then-is_err-clause-taken
returns-then-is_err-clause-taken g c =
    let free = ap (λ (d : Dealing). list_any (λ y. y == c.args.number) d.transmitters) (sym c.self.view_is) ∙ ap (λ (xs : List ℕ). list_any (λ y. y == c.args.number) xs) (sym c.as_slice.ensures.value) ∙ sym c.contains.ensures.value ∙ c.if-contains.false in
    (λ e. absurd (cc), λ t. absurd (false≢true (sym free ∙ t)))

pub returns-then-is_err-clause-refused : goal.returns-then-is_err-clause-refused
returns-then-is_err-clause-refused g c =
    let same = kept _ _ _ c.args.number c.push.ensures.items (c.is_err.ensures.negation ∙ ap not c.if-is_err.true) in
    same_dealing _ _ _ _ _ _ _ _ refl refl refl same ∙ c.self.view_is

pub invariant_of-self-2 : goal.invariant_of-self-2
invariant_of-self-2 g c =
    let left = c.cut_transmitter-seat.ensures.view.0 in
    let more = added _ _ _ c.args.number c.push.ensures.items (c.is_err.ensures.negation ∙ ap not c.if-is_err.false) in (
      (refl, c.cut_transmitter-seat.ensures.seat.0.1),
      (
        ap (λ (v : View). v.deals) left ∙ c.self.invariant.1.0,
        ap (λ (v : View). v.given) left ∙ c.self.invariant.1.1,
        ap (λ (v : View). v.sent) left ∙ ap (λ (xs : List ℕ). xs ++ c.args.number ∷ []) c.self.invariant.1.2 ∙ sym more,
      ),
    )

pub returns-clause-given : goal.returns-clause-given
returns-clause-given g c =
    let more = added _ _ _ c.args.number c.push.ensures.items (c.is_err.ensures.negation ∙ ap not c.if-is_err.false) in
    same_dealing _ _ _ _ _ _ _ _ c.cut_transmitter-seat.ensures.seat.0.0 (ap (λ (v : View). v.station) c.cut_transmitter-seat.ensures.view.0) refl more
    ∙ ap (λ (d : Dealing). record d { transmitters = d.transmitters ++ c.args.number ∷ [] }) c.self.view_is

pub returns-clause-transmitter : goal.returns-clause-transmitter
returns-clause-transmitter g c = new_sender _ _ c.args.number _ (ap place_of c.in_ok-wired.ensures ∙ c.hub.view_is) (ap (λ (v : View). v.loads) c.cut_transmitter-seat.ensures.view.1)

pub invariant_of-result : goal.invariant_of-result
invariant_of-result g c =
    let here = ap place_of c.in_ok-wired.ensures ∙ c.hub.view_is in
    let at = ap (λ (d : Dealing). d.at) c.self.view_is ∙ c.requires.hub ∙ sym here in
    let new = c.cut_transmitter-seat.ensures.view.1 in (
      (c.cut_transmitter-seat.ensures.seat.1.0 ∙ ap (λ (p : Place). p.hub) at, c.cut_transmitter-seat.ensures.seat.1.1),
      (
        ap (λ (v : View). v.transmits) new,
        ap (λ (v : View). v.receives) new,
        ap (λ (v : View). v.station) new ∙ ap (λ (p : Place). p.station) at,
        ap (λ (v : View). v.group) new,
      ),
    )

pub cut_transmitter-seat-requires-clause-seat : goal.cut_transmitter-seat-requires-clause-seat
cut_transmitter-seat-requires-clause-seat g c =
    let here = ap place_of c.in_ok-wired.ensures ∙ c.hub.view_is in
    let at = ap (λ (d : Dealing). d.at) c.self.view_is ∙ c.requires.hub ∙ sym here in
    ((ap (λ (p : Place). p.hub) at ∙ sym (ap (λ (w : Wired). w.shared_words.shared.table_id) c.deref.ensures), c.self.invariant.0.1), c.deref.result.now.room.1)
