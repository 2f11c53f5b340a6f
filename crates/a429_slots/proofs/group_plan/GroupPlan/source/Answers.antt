use borrow.Author.Rules.{scaled_Fits}
use Rattle.std.proofs.Common.{◌≡◌, ◌*◌, ◌^◌, ◌<◌, ℕ, arith, get_or, length, lt_of_lt_of_le, subst}
use Rattle.std.specs.Prelude.{Some}
use Rattle.a429_slots.specs.Tables.{Placed, source_of}
use Rattle.a429_slots.proofs.Columns.{count_kept, part_kept}
use Rattle.a429_slots.proofs.group_plan.GroupPlan.source.Goals as goal
use Rattle.a429_slots.proofs.group_plan.GroupPlan.source.Goals.{Start}

pub prove-unreachable-requires : goal.prove-unreachable-requires
prove-unreachable-requires g c =
    omega (arith, count_kept c.self.inside c.args.self.now c.self.view_is, c.requires, c.len.ensures.value, c.if-prove.true, c.number-number.ensures)

-- the array takes less than half of the addresses, as the table that it is a part of
room : (g : _) → Start g → g.row.N * 8 < 2 ^ 63
room g c = omega arith

pub offset_bounds-self-inside-number : goal.offset_bounds-self-inside-number
offset_bounds-self-inside-number g c = scaled_Fits _ _ _ (lt_of_lt_of_le c.if-prove.false c.len.ensures.few) (room g c.before.before.before.before)

pub returns : goal.returns
returns g c =
    let o : ℕ = c.number-number.result in
    let below : o < length c.self.inside.sums = omega (arith, c.len.ensures.value, c.if-prove.false) in
    subst (λ (n : ℕ). source_of c.args.self.now n ≡ Some (get_or c.self.inside.sources o 0)) c.number-number.ensures
    (part_kept (λ (x : Placed). x.source) c.self.inside c.args.self.now o c.self.view_is below)
