use Rattle.std.proofs.Common.{◌≡◌, ◌∙◌, ◌<◌, List, ap, length, subst, sym, take}
use Rattle.std.specs.Prelude.{slice_set}
use Rattle.a429_pack.specs.Kept.{padded}
use Rattle.a429_slots.specs.Tables.{PlanTable, SlotTable, groups_of, no_table}
use Rattle.a429_slots.proofs.Replaced.{padded_set, take_set}
use Rattle.a429_slots.proofs.plans.Plan.replace.Goals as goal

pub invariant_of-self : goal.invariant_of-self
invariant_of-self g c =
    let p = c.self.inside in
    let below : c.args.group < length (take p.count p.groups) = subst (λ (t : PlanTable). c.args.group < length (groups_of t)) (sym c.self.view_is) c.requires in
    let kept : c.put.new.groups ≡ padded no_table 8 (slice_set (take p.count p.groups) c.args.group c.args.table) =
    c.put.ensures ∙ ap (λ (ts : List SlotTable). slice_set ts c.args.group c.args.table) c.self.invariant.1 ∙ padded_set no_table 8 (take p.count p.groups) c.args.group c.args.table below in
    (c.self.invariant.0, kept ∙ ap (padded no_table 8) (sym (ap (take p.count) c.put.ensures ∙ take_set p.groups p.count c.args.group c.args.table)))

pub returns-clause-groups : goal.returns-clause-groups
returns-clause-groups g c =
    let p = c.self.inside in
    ap (take p.count) c.put.ensures ∙ take_set p.groups p.count c.args.group c.args.table ∙ ap (λ (t : PlanTable). slice_set (groups_of t) c.args.group c.args.table) c.self.view_is
