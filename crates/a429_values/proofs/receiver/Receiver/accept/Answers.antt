use Rattle.std.proofs.Common.{rules, refl, ap, ◌∙◌, ◌∷◌, []}
use Rattle.a429_values.specs.declared.view.View.{View}
use Rattle.a429_values.proofs.Accepting.{receiving_after, taken_out}
use Rattle.a429_values.proofs.receiver.Receiver.accept.Goals as goal

pub invariant_of-self-2 : goal.invariant_of-self-2
invariant_of-self-2 c =
    let source = c.in-Ok.found.0 in
    let word = c.in-Ok.found.1 in
    let taken = taken_out c.self.inside.badge.views _ _ (ap (λ b. b.views) c.replace.ensures.value) c.into_seat-seat.ensures.2 in
    receiving_after _ _ _ _ c.self.inside.badge.table_id c.self.inside.badge.views source word _ _ _ _ c.self.invariant (search rules) c.index-count.ensures refl (search rules) (search rules) (search rules) (search rules)
    (c.into_badge.ensures.2 ∙ ap (λ (v : View). v ∷ []) (search (rules, taken)))
