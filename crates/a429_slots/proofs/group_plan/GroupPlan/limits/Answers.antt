use borrow.Author.Rules.{scaled_Fits}
use Rattle.std.proofs.Common.{◌≡◌, ◌*◌, ◌^◌, ◌<◌, ◌≤◌, ℕ, arith, get_or, length, lt_of_lt_of_le, subst}
use Rattle.std.specs.Prelude.{Some}
use Rattle.a429_slots.specs.Tables.{Placed, limits_of, unlimited}
use Rattle.a429_slots.proofs.Columns.{count_kept, length-table, part_kept, placed_kept}
use Rattle.a429_slots.proofs.group_plan.GroupPlan.limits.Goals as goal
use Rattle.a429_slots.proofs.group_plan.GroupPlan.limits.Goals.{Start}

pub prove-unreachable-requires : goal.prove-unreachable-requires
prove-unreachable-requires g c =
    omega (arith, count_kept c.self.inside c.args.self.now c.self.view_is, c.requires, c.len.ensures.value, c.if-prove.true, c.number-number.ensures)

-- the array takes less than half of the addresses, as the table that it is a part of
room : (g : _) → Start g → g.row.N * 12 < 2 ^ 63
room g c = omega arith

pub offset_bounds-self-inside-number : goal.offset_bounds-self-inside-number
offset_bounds-self-inside-number g c = scaled_Fits _ _ _ (lt_of_lt_of_le c.if-prove.false c.len.ensures.few) (room g c.before.before.before.before)

below : (g : _) (c : goal.After-result-1 g) → c.number-number.result < length c.self.inside.sums
below g c = omega (arith, c.len.ensures.value, c.if-prove.false)

pub returns-clause-limits : goal.returns-clause-limits
returns-clause-limits g c =
    let o : ℕ = c.number-number.result in
    subst (λ (n : ℕ). limits_of c.args.self.now n ≡ Some (get_or c.self.inside.limits o unlimited)) c.number-number.ensures
    (part_kept (λ (x : Placed). x.limits) c.self.inside c.args.self.now o c.self.view_is (below g c))

pub returns-clause-some : goal.returns-clause-some
returns-clause-some g c =
    let o : ℕ = c.number-number.result in
    subst (λ (x : Placed). 1 ≤ x.limits.spacing) (placed_kept c.self.inside o (below g c)) (c.self.invariant.table.spaced o (omega (arith, length-table c.self.inside, below g c)))
