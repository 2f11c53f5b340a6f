use prog.Memory.{size, up}
use denote.Param.{layout, number, param}
use Rattle.a429_slots.specs.contracts.group_plan.GroupPlan.{the_row}
use Rattle.a429_slots.specs.contracts.plans.Plan as plan
use Rattle.std.proofs.Common.{◌≡◌, ◌+◌, ◌*◌, ◌^◌, ◌<◌, ◌≤◌, ◌∙◌, ℕ, List, ap, arith, get_or, le_of_lt, length, sym, subst, take}
use Rattle.std.specs.Prelude.{Some, slice_get}
use Rattle.std.proofs.lemmas.List.{get_or-take, length-take}
use Rattle.std.proofs.lemmas.Option.{slice_get-get_or}
use Rattle.a429_pack.specs.Kept.{length-kept, padded}
use Rattle.a429_slots.specs.Tables.{PlanTable, SlotTable, groups_of, no_table}
use Rattle.a429_slots.proofs.plans.Plan.group.Goals as goal

-- eight of them take less than half of the addresses, as the plan that they are a part of
parts_fit : (s : ℕ) → up 8 (up 8 (8 + 8 * s) + 8) < 2 ^ 63 → 8 * s < 2 ^ 63
parts_fit s all = omega arith

pub shared_whole_as_slice-groups : goal.shared_whole_as_slice-groups
shared_whole_as_slice-groups g c =
    let all : size (layout (plan.the_row (param 0 (number g.row.N)))) < 2 ^ 63 = assumption in
    parts_fit (size (layout (the_row (param 0 (number g.row.N))))) all

below : (k n : ℕ) (ts : List SlotTable) → k < length (take n ts) → k < length ts
below k n ts inside = omega (arith, length-take n ts)

read : (k n : ℕ) (ts : List SlotTable) (t : SlotTable) → (n ≤ 8) × (ts ≡ padded no_table 8 (take n ts)) → k < length (take n ts) → t ≡ get_or ts k t → slice_get (take n ts) k ≡ Some t
read k n ts t kept inside is =
    slice_get-get_or (take n ts) k t inside
    ∙ ap (λ (u : SlotTable). Some u) (get_or-take n ts k t (subst (λ (m : ℕ). k < m) (length-kept no_table 8 ts n kept.0 kept.1) inside) ∙ sym is)

inside : (g : _) (c : goal.After-groups-1 g) → c.args.group < length (take c.self.inside.count c.self.inside.groups)
inside g c = subst (λ (t : PlanTable). c.args.group < length (groups_of t)) (sym c.self.view_is) c.requires

pub bounds-groups-group : goal.bounds-groups-group
bounds-groups-group g c = below c.args.group c.self.inside.count c.self.inside.groups (inside g c)

pub offset_bounds-groups-group : goal.offset_bounds-groups-group
offset_bounds-groups-group g c = le_of_lt (bounds-groups-group g c)

pub returns : goal.returns
returns g c =
    let p = c.self.inside in
    let k = c.args.group in
    let r = c.index-groups-group.result in
    let here : k < length (take p.count p.groups) = subst (λ (t : PlanTable). k < length (groups_of t)) (sym c.self.view_is) c.requires in
    subst (λ (t : PlanTable). slice_get (groups_of t) k ≡ Some r) c.self.view_is (read k p.count p.groups r c.self.invariant here c.index-groups-group.is)
