use Rattle.std.proofs.Common.{◌≤◌, ap, subst, arith, length, List}
use mathlib.Core.List.{IsPrefix}
use Rattle.a429_slots.specs.Tables.{PlanTable}
use Rattle.a429_board.proofs.Fronts.{prefix_shorter}
use Rattle.a429_board.proofs.front.Front.is_behind.Goals as goal

pub returns-then-self-other : goal.returns-then-self-other
returns-then-self-other c =
    let both = c.learn.new.self.log in
    let (book, names, mine, other, known) = c.learn.ensures in
    let this : IsPrefix c.self.inside.seen.log both = subst (λ (l : List PlanTable). IsPrefix l both) (ap (λ s. s.log) c.again-both.ensures) mine in
    let less : length c.self.inside.seen.log ≤ length c.other.inside.seen.log = omega (arith, c.self.invariant.0, c.other.invariant.0) in
    rw (← c.self.view_is, ← c.other.view_is) (prefix_shorter c.self.inside.seen.log c.other.inside.seen.log both this other less)

pub returns : goal.returns
returns c =
    let both = c.learn.new.self.log in
    let (book, names, mine, other, known) = c.learn.ensures in
    let this : IsPrefix c.self.inside.seen.log both = subst (λ (l : List PlanTable). IsPrefix l both) (ap (λ s. s.log) c.again-both.ensures) mine in
    let less : length c.other.inside.seen.log ≤ length c.self.inside.seen.log = omega (arith, c.self.invariant.0, c.other.invariant.0) in
    rw (← c.self.view_is, ← c.other.view_is) (prefix_shorter c.other.inside.seen.log c.self.inside.seen.log both other this less)
