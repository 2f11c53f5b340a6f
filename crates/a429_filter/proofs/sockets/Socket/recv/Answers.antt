use Rattle.std.proofs.Common.{rules, ℕ, ◌+◌, ◌∙◌, ap, refl, length-append, ◌++◌, ◌∷◌, []}
use Rattle.a429_filter.proofs.Asked.{asked_next, given_next, left_next, refused_next}
use Rattle.a429_filter.proofs.sockets.Socket.recv.Goals as goal

pub returns-in-Some-clause-asked : goal.returns-in-Some-clause-asked
returns-in-Some-clause-asked g c =
    let so_far = c.loop-look.invariant.asked in
    let given = rw c.in-Ok-Some.field-0-is at c.in-Ok-Some.ensures.given in
    let step = rw c.in-Ok-Some.field-0-is at c.in-Ok-Some.ensures.step in (
      so_far.0 ++ c.in-Ok-Some.raw ∷ [],
      c.next.new.self,
      given_next _ so_far.0 _ _ c.in-Ok-Some.raw so_far.1 given,
      asked_next g.L.LineSource.steps _ so_far.0 _ c.in-Ok-Some.raw _ so_far.2 step,
      refl,
    )

pub loop-look-preserved : goal.loop-look-preserved
loop-look-preserved g c =
    let so_far = c.loop-look.invariant.asked in
    let given = rw c.in-Ok-Some.field-0-is at c.in-Ok-Some.ensures.given in
    let (refused, given_so, left_so, none, many) = c.loop-look.invariant.taken in
    let left = rw c.in-Ok-Some.field-0-is at c.in-Ok-Some.ensures.left in
    let step = rw c.in-Ok-Some.field-0-is at c.in-Ok-Some.ensures.step in
    record {
      taken = (
        refused ++ c.in-Ok-Some.raw ∷ [],
        given_next _ refused _ _ c.in-Ok-Some.raw given_so given,
        left_next refused c.in-Ok-Some.raw _ _ _ left_so left,
        refused_next _ refused c.in-Ok-Some.raw _ none c.accepted_word.ensures c.in_default.is,
        length-append refused (c.in-Ok-Some.raw ∷ []) ∙ ap (λ (n : ℕ). n + 1) many,
      );
      filters = search rules;
      failed = search rules;
      ended = search rules;
      asked = (
        so_far.0 ++ c.in-Ok-Some.raw ∷ [],
        given_next _ so_far.0 _ _ c.in-Ok-Some.raw so_far.1 given,
        asked_next g.L.LineSource.steps _ so_far.0 _ c.in-Ok-Some.raw _ so_far.2 step,
      );
    }
