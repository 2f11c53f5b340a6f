use prog.Memory.{size}
use denote.Param.{layout, number, param}
use Rattle.std.proofs.Common.{◌≡◌, ◌∙◌, ◌^◌, ◌<◌, ◌≤◌, ℕ, List, ap, arith, length, map, subst, sym}
use Rattle.std.specs.Prelude.{Some, slice_get, slice_set}
use Rattle.std.specs.List.{AllZip}
use Rattle.std.proofs.lemmas.Option.{same_Some, slice_get_within}
use Rattle.a429_equipment.specs.TableRecord.{TableRecord}
use Rattle.a429_equipment.specs.declared.rows.OutputRow.{OutputRow}
use Rattle.a429_slots.specs.contracts.plans.Plan.{the_row}
use Rattle.a429_slots.specs.contracts.group_plan.GroupPlan as group
use Rattle.a429_slots.specs.declared.group_plan.SlotPlace.{SlotPlace}
use Rattle.a429_slots.specs.Kept.{stretches_of}
use Rattle.a429_slots.specs.Moves.{AreInside}
use Rattle.a429_slots.specs.Planned.{IsPlannedAt, rated_outputs}
use Rattle.a429_slots.specs.Proposed.{Proposed}
use Rattle.a429_slots.specs.Tables.{Placed, PlanTable, SlotTable, groups_of}
use Rattle.a429_slots.proofs.Replaced.{length_set, planned_again, zip_set}
use Rattle.a429_slots.proofs.proposals.Proposal.place.Goals as goal

-- a plan, and a slot table, take less than half of the addresses
plan_fits : (n : ℕ) → n ≤ 65536 → size (layout (the_row (param 0 (number n)))) < 2 ^ 63
plan_fits n few = omega arith

table_fits : (n : ℕ) → n ≤ 65536 → size (layout (group.the_row (param 0 (number n)))) < 2 ^ 63
table_fits n few = omega arith

pub group-requires : goal.group-requires
group-requires g c =
    let there : slice_get (groups_of c.deref.result.now) c.args.group ≡ Some c.requires.places.table =
    ap (λ (p : PlanTable). slice_get (groups_of p) c.args.group) c.deref.ensures ∙ ap (λ (q : Proposed). slice_get (groups_of q.plan) c.args.group) c.self.view_is ∙ c.requires.places.there in
    (plan_fits g.row.N c.requires.size, (table_fits g.row.N c.requires.size, slice_get_within (groups_of c.deref.result.now) c.args.group c.requires.places.table there))

-- the table of the group
table_is : (p q : PlanTable) (r : Proposed) (k : ℕ) (t u : SlotTable) → q ≡ p → p ≡ r.plan → slice_get (groups_of q) k ≡ Some u → slice_get (groups_of r.plan) k ≡ Some t → t ≡ u
table_is p q r k t u is same here there = same_Some t u (sym there ∙ ap (λ (x : PlanTable). slice_get (groups_of x) k) (sym (is ∙ same)) ∙ here)

pub moved-requires : goal.moved-requires
moved-requires g c =
    let same : c.requires.places.table ≡ c.group.result.now =
    table_is c.self.inside.plan.value c.deref.result.now c.args.self.now c.args.group c.requires.places.table c.group.result.now c.deref.ensures (ap (λ (q : Proposed). q.plan) c.self.view_is) c.group.ensures c.requires.places.there in (
      table_fits g.row.N c.requires.size,
      (
        c.requires.places.periods ∙ ap (λ (t : SlotTable). map (λ (o : Placed). o.place.period) t.outputs) same,
        subst (λ (t : SlotTable). AreInside t c.args.places.now) same c.requires.places.inside,
      ),
    )

pub invariant_of-self : goal.invariant_of-self
invariant_of-self g c =
    let e : TableRecord = c.self.inside.equipment in
    let p : PlanTable = c.self.inside.plan.value in
    let u : SlotTable = c.in-Ok.table in
    let t : SlotTable = c.group.result.now in
    let same : c.requires.places.table ≡ t =
    table_is p c.deref.result.now c.args.self.now c.args.group c.requires.places.table t c.deref.ensures (ap (λ (q : Proposed). q.plan) c.self.view_is) c.group.ensures c.requires.places.there in
    let there : slice_get (groups_of p) c.args.group ≡ Some t = ap (λ (x : PlanTable). slice_get (groups_of x) c.args.group) (sym c.deref.ensures) ∙ c.group.ensures in
    let periods : map (λ (q : SlotPlace). q.period) c.args.places.now ≡ map (λ (o : Placed). o.place.period) t.outputs =
    c.requires.places.periods ∙ ap (λ (t : SlotTable). map (λ (o : Placed). o.place.period) t.outputs) same in
    let groups : groups_of c.replace.new.self ≡ slice_set (groups_of p) c.args.group u =
    c.replace.ensures.groups ∙ ap (λ (x : PlanTable). slice_set (groups_of x) c.args.group u) c.deref_mut.ensures.value in
    let replaced : AllZip (IsPlannedAt e.sources) (rated_outputs e) (slice_set (groups_of p) c.args.group u) =
    zip_set (IsPlannedAt e.sources) (rated_outputs e) (groups_of p) c.args.group t u c.self.invariant.groups there (λ (rated : ℕ × List OutputRow) planned.
    planned_again g.row.N rated.0 e.sources rated.1 t u c.args.places.now (record {
      planned = planned;
      moved = c.in-Ok.ensures.moved;
      periods = periods;
      sound = c.in-Ok.ensures.sound;
      each = c.orders_name_each_once.ensures (length u.outputs) u.order c.in-Ok.ensures.sound.order;
      apart = c.stretches_are_apart.ensures.apart (stretches_of u);
    })) in
    record {
      number = c.replace.ensures.number ∙ ap (λ (x : PlanTable). x.number) c.deref_mut.ensures.value ∙ c.self.invariant.number;
      count = ap length groups ∙ length_set (groups_of p) c.args.group u ∙ c.self.invariant.count;
      groups = subst (λ (ts : List SlotTable). AllZip (IsPlannedAt e.sources) (rated_outputs e) ts) (sym groups) replaced;
    }
