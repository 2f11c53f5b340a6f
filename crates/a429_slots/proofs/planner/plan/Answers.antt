use borrow.Author.Count.{falls}
use prog.Memory.{size, up}
use denote.Param.{layout, number, param}
use Rattle.a429_slots.specs.contracts.group_plan.GroupPlan.{the_row}
use Rattle.a429_slots.specs.contracts.plans.Plan as plan
use Rattle.std.proofs.Common.{ℕ, ◌+◌, ◌*◌, ◌^◌, arith, ◌<◌, ◌≤◌, ◌∙◌, List, [], length, subst, sym}
use Rattle.std.specs.List.{AllByRecursion, AllZip}
use Rattle.a429_word.proofs.Lists.{all_at, all_push}
use Rattle.a429_equipment.specs.Sound.{IsSound, IsInterval}
use Rattle.a429_slots.specs.Tables.{SlotTable, groups_of}
use Rattle.a429_equipment.specs.declared.rows.GroupRow.{GroupRow}
use Rattle.a429_slots.specs.Planned.{IsLayout, IsPlannedAt}
use Rattle.a429_equipment.specs.declared.rows.OutputRow.{OutputRow}
use Rattle.a429_equipment.specs.declared.rows.SourceRow.{SourceRow}
use Rattle.a429_slots.proofs.Planning.{rate_in_group, all_planned, room_for, rated_at, fault_in, planned_next, could_next}
use Rattle.a429_slots.specs.Faults.{IsFaultOf}
use Rattle.a429_slots.proofs.planner.plan.Goals as goal

-- eight of them take less than half of the addresses
part_fits : (s : ℕ) → up 8 (up 8 (8 + 8 * s) + 8) < 2 ^ 63 → s < 2 ^ 63
part_fits s all = omega arith

pub group_rate-rate-requires : goal.group_rate-rate-requires
group_rate-rate-requires g c = subst (λ (rows : List GroupRow). c.loop-group.group < length rows) c.groups-group-end.ensures.rows c.loop-group-test.true

pub outputs-requires : goal.outputs-requires
outputs-requires g c = subst (λ (rows : List GroupRow). c.loop-group.group < length rows) c.groups-group-end.ensures.rows c.loop-group-test.true

pub loop-group-init : goal.loop-group-init
loop-group-init g c = record {
  planned = subst (λ (tables : List SlotTable). AllZip (IsPlannedAt c.sources-sources.result.now) [] tables) (sym c.empty-plan.ensures.none) tt;
  own = subst (λ (tables : List SlotTable). AllByRecursion (IsLayout c.sources-sources.result.now) tables) (sym c.empty-plan.ensures.none) tt;
  could = tt;
  number = c.empty-plan.ensures.number;
}

pub group_plan-requires : goal.group_plan-requires
group_plan-requires g c =
    let all : size (layout (plan.the_row (param 0 (number g.row.N)))) < 2 ^ 63 = assumption in
    let e = c.args.equipment.now in
    let sound : IsSound e = c.rows_are_sound.ensures in
    let limits : (1 ≤ length c.outputs.result.now) × (length c.outputs.result.now ≤ 128) =
    all_at (λ rows. (1 ≤ length rows) × (length rows ≤ 128)) e.outputs c.loop-group.group c.outputs.result.now sound.some_outputs c.outputs.ensures.rows in
    let known : AllByRecursion (λ o. o.source < length e.sources) c.outputs.result.now =
    all_at (AllByRecursion (λ o. o.source < length e.sources)) e.outputs c.loop-group.group c.outputs.result.now sound.known_sources c.outputs.ensures.rows in (
      part_fits (size (layout (the_row (param 0 (number g.row.N))))) all,
      (
        limits.0,
        (
          all_at (λ rows. length rows ≤ g.row.N) e.outputs c.loop-group.group c.outputs.result.now c.requires c.outputs.ensures.rows,
          (
            subst (λ (ss : List SourceRow). AllByRecursion (λ (o : OutputRow). o.source < length ss) c.outputs.result.now) (sym c.sources-sources.ensures.rows) known,
            (
              all_at (AllByRecursion IsInterval) e.outputs c.loop-group.group c.outputs.result.now sound.intervals c.outputs.ensures.rows,
              rate_in_group e _ c.group_rate-rate.result sound c.group_rate-rate.ensures.rate,
            ),
          ),
        ),
      ),
    )

pub push-requires : goal.push-requires
push-requires g c =
    let all : size (layout (plan.the_row (param 0 (number g.row.N)))) < 2 ^ 63 = assumption in
    let e = c.args.equipment.now in
    let below : c.loop-group.group < length e.groups = subst (λ (rows : List GroupRow). c.loop-group.group < length rows) c.groups-group-end.ensures.rows c.loop-group-test.true in
    (all, (part_fits (size (layout (the_row (param 0 (number g.row.N))))) all, room_for e c.sources-sources.result.now c.loop-group.group (groups_of c.loop-group.plan) c.rows_are_sound.ensures below c.loop-group.invariant.planned))

pub returns-clause-planned : goal.returns-clause-planned
returns-clause-planned g c =
    all_planned c.args.equipment.now c.sources-sources.result.now c.groups-group-end.result.now c.loop-group.group c.loop-group.plan c.rows_are_sound.ensures c.sources-sources.ensures.rows c.groups-group-end.ensures.rows
    c.loop-group-test.false c.loop-group.invariant.number c.loop-group.invariant.planned

pub returns-clause-own : goal.returns-clause-own
returns-clause-own g c = subst (λ (ss : List SourceRow). AllByRecursion (IsLayout ss) (groups_of c.loop-group.plan)) c.sources-sources.ensures.rows c.loop-group.invariant.own

pub returns-in-Err-clause-own : goal.returns-in-Err-clause-own
returns-in-Err-clause-own g c = tt

pub returns-in-Err-clause-fault : goal.returns-in-Err-clause-fault
returns-in-Err-clause-fault g c =
    let e = c.args.equipment.now in
    let here = rated_at e c.loop-group.group c.group_rate-rate.result c.outputs.result.now c.group_rate-rate.ensures.rate c.outputs.ensures.rows in
    subst (IsFaultOf e) (sym c.in_group.ensures)
    (fault_in e c.loop-group.group c.group_rate-rate.result c.outputs.result.now c.in-Err.fault here c.loop-group.invariant.could c.in-Err.ensures.planned)

pub loop-group-preserved : goal.loop-group-preserved
loop-group-preserved g c =
    let e = c.args.equipment.now in
    let ss = c.sources-sources.result.now in
    let n = c.loop-group.group in
    let rate = c.group_rate-rate.result in
    let rows = c.outputs.result.now in record {
      planned = planned_next e ss n rate rows (groups_of c.loop-group.plan) (groups_of c.push.new.self) c.in-Ok.table c.push.ensures.groups c.group_rate-rate.ensures.rate c.outputs.ensures.rows c.loop-group.invariant.planned c.in-Ok.ensures.planned;
      own = subst (AllByRecursion (IsLayout ss)) (sym c.push.ensures.groups) (all_push (IsLayout ss) (groups_of c.loop-group.plan) c.in-Ok.table c.loop-group.invariant.own c.in-Ok.ensures.own);
      could = could_next e ss n rate rows c.in-Ok.table c.group_rate-rate.ensures.rate c.outputs.ensures.rows c.loop-group.invariant.could c.in-Ok.ensures.planned;
      number = c.push.ensures.number ∙ c.loop-group.invariant.number;
    }

pub sources-sources-requires : goal.sources-sources-requires
sources-sources-requires g c = tt

pub groups-group-end-requires : goal.groups-group-end-requires
groups-group-end-requires g c = tt

pub in_group-requires : goal.in_group-requires
in_group-requires g c = tt

pub returns-in-Err-clause-planned : goal.returns-in-Err-clause-planned
returns-in-Err-clause-planned g c = tt

pub returns-clause-fault : goal.returns-clause-fault
returns-clause-fault g c = tt

pub empty-plan-requires : goal.empty-plan-requires
empty-plan-requires g c = assumption

pub loop-group-smaller : goal.loop-group-smaller
loop-group-smaller g c = falls (length c.groups-group-end.result.now) c.loop-group.group c.loop-group-test.true
