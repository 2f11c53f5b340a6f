use prog.Memory.{size, up}
use denote.Param.{layout, number, param}
use Rattle.a429_slots.specs.contracts.group_plan.GroupPlan.{the_row}
use Rattle.a429_slots.specs.contracts.plans.Plan as plan
use Rattle.std.proofs.Common.{◌≡◌, ℕ, ◌+◌, ◌*◌, ◌^◌, ◌<◌, ◌≤◌, List, ◌∷◌, [], ◌++◌, length, take, arith, ap, subst, sym, ◌∙◌}
use Rattle.std.proofs.lemmas.List.{take_more_set}
use Rattle.a429_pack.specs.Kept.{length-kept, length-padded, padded}
use Rattle.a429_slots.specs.Tables.{SlotTable, groups_of, no_table}
use Rattle.a429_slots.proofs.Columns.{padded_more}
use Rattle.a429_slots.proofs.plans.Plan.push.Goals as goal

-- eight of them take less than half of the addresses, as the plan that they are a part of
parts_fit : (s : ℕ) → up 8 (up 8 (8 + 8 * s) + 8) < 2 ^ 63 → 8 * s < 2 ^ 63
parts_fit s all = omega arith

pub whole_as_slice-put : goal.whole_as_slice-put
whole_as_slice-put g c =
    let all : size (layout (plan.the_row (param 0 (number g.row.N)))) < 2 ^ 63 = assumption in
    parts_fit (size (layout (the_row (param 0 (number g.row.N))))) all

-- groups that leave room for one more
record LeaveRoom (groups : List SlotTable) (count : ℕ) : Type 0 where
  pub long : length (take count groups) ≡ count
  pub below : count < 8
  pub inside : count < length groups

leave_room : (groups : List SlotTable) (count : ℕ) → (count ≤ 8) × (groups ≡ padded no_table 8 (take count groups)) → length (take count groups) < 8 → LeaveRoom groups count
leave_room groups count kept room =
    let long : length (take count groups) ≡ count = length-kept no_table 8 groups count kept.0 kept.1 in
    record { long = long; below = omega (arith, long, room); inside = omega (arith, long, room, ap length kept.1, length-padded no_table 8 (take count groups)) }

pub put-requires : goal.put-requires
put-requires g c =
    let room = leave_room c.self.inside.groups c.self.inside.count c.self.invariant (subst (λ p. length (groups_of p) < 8) (sym c.self.view_is) c.requires) in
    (assumption, room.inside)

pub overflow_add-self : goal.overflow_add-self
overflow_add-self g c =
    let room = leave_room c.self.inside.groups c.self.inside.count c.self.invariant (subst (λ p. length (groups_of p) < 8) (sym c.self.view_is) c.requires) in
    omega (arith, room.below)

pub invariant_of-self : goal.invariant_of-self
invariant_of-self g c =
    let inside = c.self.inside in
    let room = leave_room inside.groups inside.count c.self.invariant (subst (λ p. length (groups_of p) < 8) (sym c.self.view_is) c.requires) in
    let next = padded_more no_table 8 inside.groups (take inside.count inside.groups) inside.count c.args.group room.below room.long c.self.invariant.1 in
    let more = take_more_set inside.groups inside.count c.args.group room.inside in
    (omega (arith, room.below), c.put.ensures ∙ next ∙ ap (padded no_table 8) (sym more ∙ ap (take (inside.count + 1)) (sym c.put.ensures)))

pub returns-clause-groups : goal.returns-clause-groups
returns-clause-groups g c =
    let inside = c.self.inside in
    let room = leave_room inside.groups inside.count c.self.invariant (subst (λ p. length (groups_of p) < 8) (sym c.self.view_is) c.requires) in
    ap (take (inside.count + 1)) c.put.ensures
    ∙ take_more_set inside.groups inside.count c.args.group room.inside
    ∙ ap (λ p. groups_of p ++ c.args.group ∷ []) c.self.view_is

pub returns-clause-number : goal.returns-clause-number
returns-clause-number g c = ap (λ p. p.number) c.self.view_is
