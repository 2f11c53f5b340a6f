use Rattle.std.proofs.Common.{◌≡◌, ◌∙◌, List, ap, arith, length, map, subst}
use Rattle.std.specs.Prelude.{Ok}
use Rattle.a429_equipment.specs.TableRecord.{TableRecord}
use Rattle.a429_slots.specs.Tables.{PlanTable, groups_of}
use Rattle.a429_keep.specs.Keeping.{IsGroupKept}
use Rattle.a429_keep.specs.Readings.{reading}
use Rattle.a429_keep.specs.Rows.{row_view}
use Rattle.a429_keep.specs.declared.rows.Row.{Row}
use Rattle.a429_keep.proofs.KeptGroups.{kept_next, none_kept}
use Rattle.a429_keep.proofs.keeping.keep.Goals as goal

pub loop-group-init : goal.loop-group-init
loop-group-init c = none_kept (map row_view c.in_ok-rows.rows.items) c.args.proposal.now

pub loop-group-preserved : goal.loop-group-preserved
loop-group-preserved c =
    kept_next (map row_view c.in_ok-rows.rows.items) c.args.proposal.now c.loop-group.proposal c.keep_group.new.proposal c.loop-group.group c.loop-group.invariant
    (subst (λ (rows : List Row). IsGroupKept (map row_view rows) c.loop-group.proposal c.keep_group.new.proposal c.loop-group.group) c.deref.ensures.value c.in_ok-keep_group.ensures)

pub returns-clause-kept : goal.returns-clause-kept
returns-clause-kept c =
    let groups : c.groups-group-end.result ≡ length (groups_of c.args.proposal.now.plan) = c.groups-group-end.ensures.value ∙ ap (λ (p : PlanTable). length (groups_of p)) c.plan.ensures.plan in
    record {
      rows = map row_view c.in_ok-rows.rows.items;
      read = subst (λ (e : TableRecord). reading e c.args.earlier.now ≡ Ok (map row_view c.in_ok-rows.rows.items)) c.equipment.ensures.equipment c.in_ok-rows.ensures.read;
      station = c.loop-group.invariant.station;
      count = c.loop-group.invariant.count;
      groups = λ k below. c.loop-group.invariant.done k (omega (arith, below, groups, c.loop-group-test.false));
    }
