use prog.Memory.{size, up}
use denote.Param.{layout, number, param}
use Rattle.std.proofs.Common.{ℕ, ◌+◌, ◌*◌, ◌^◌, ◌<◌, ap, arith, refl, replicate, zero-le}
use Rattle.a429_slots.specs.contracts.group_plan.GroupPlan.{the_row}
use Rattle.a429_slots.specs.contracts.plans.Plan as plan
use Rattle.a429_slots.specs.Tables.{SlotTable}
use Rattle.a429_slots.proofs.plans.Plan.empty.Goals as goal

-- eight of them take less than half of the addresses
part_fits : (s : ℕ) → up 8 (up 8 (8 + 8 * s) + 8) < 2 ^ 63 → s < 2 ^ 63
part_fits s all = omega arith

pub empty-requires : goal.empty-requires
empty-requires g c =
    let all : size (layout (plan.the_row (param 0 (number g.row.N)))) < 2 ^ 63 = assumption in
    part_fits (size (layout (the_row (param 0 (number g.row.N))))) all

pub invariant_of-result : goal.invariant_of-result
invariant_of-result g c = (zero-le, ap (λ (t : SlotTable). replicate 8 t) c.empty.ensures)

pub returns-clause-none : goal.returns-clause-none
returns-clause-none g c = refl

pub returns-clause-number : goal.returns-clause-number
returns-clause-number g c = refl
