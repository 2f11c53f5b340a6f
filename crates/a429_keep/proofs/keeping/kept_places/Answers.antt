use Rattle.std.proofs.Common.{◌≡◌, ◌<◌, ◌∙◌, List, ap, arith, length, map, subst, sym}
use Rattle.std.specs.Prelude.{Result, Ok, Err, IfOk, Some, slice_get}
use Rattle.std.specs.List.{AllByRecursion}
use Rattle.a429_word.proofs.Lists.{read_is}
use Rattle.a429_equipment.specs.Sound.{IsSound}
use Rattle.a429_equipment.specs.TableRecord.{TableRecord}
use Rattle.a429_equipment.specs.declared.rows.GroupRow.{GroupRow}
use Rattle.a429_equipment.specs.declared.rows.SourceRow.{SourceRow}
use Rattle.a429_slots.specs.Tables.{PlanTable, groups_of, outputs_of}
use Rattle.std.specs.declared.vec.Vec.{Vec}
use Rattle.std.specs.declared.alloc.Global.{Global}
use Rattle.a429_slots.specs.declared.group_plan.SlotPlace.{SlotPlace}
use Rattle.a429_slots.proofs.Known.{sources_known}
use Rattle.a429_keep.specs.KeptPlans.{kept_places}
use Rattle.a429_keep.specs.Rows.{row_view}
use Rattle.a429_keep.proofs.keeping.kept_places.Goals as goal

pub places_in-requires : goal.places_in-requires
places_in-requires c =
    let q = c.args.proposal.now in
    let sound : IsSound q.station = subst IsSound c.equipment-equipment.ensures.equipment c.rows_are_sound.ensures in
    let there : slice_get (groups_of q.plan) c.args.group ≡ Some c.group-table.result.now = ap (λ (p : PlanTable). slice_get (groups_of p) c.args.group) (sym c.plan.ensures.plan) ∙ c.group-table.ensures in
    let rows : c.sources.result.now ≡ q.station.sources = c.sources.ensures.rows ∙ ap (λ (e : TableRecord). e.sources) c.equipment-equipment.ensures.equipment in
    let known = sources_known q.station q.plan c.args.group c.group-table.result.now sound c.plan.ensures.own there in
    subst (λ (ss : List SourceRow). AllByRecursion (λ o. o.source < length ss) (outputs_of c.group-table.result.now)) (sym rows) known

ok_as : {A E : Type 0} {P Q : A → Type 0} (r : Result A E) → ((x : A) → P x → Q x) → IfOk r P → IfOk r Q
ok_as (Ok x) f held = f x held
ok_as (Err e) f held = tt

pub returns : goal.returns
returns c =
    let q = c.args.proposal.now in
    let there : slice_get (groups_of q.plan) c.args.group ≡ Some c.group-table.result.now = ap (λ (p : PlanTable). slice_get (groups_of p) c.args.group) (sym c.plan.ensures.plan) ∙ c.group-table.ensures in
    let sources : c.sources.result.now ≡ q.station.sources = c.sources.ensures.rows ∙ ap (λ (e : TableRecord). e.sources) c.equipment-equipment.ensures.equipment in
    let groups : c.groups.result.now ≡ q.station.groups = c.groups.ensures.rows ∙ ap (λ (e : TableRecord). e.groups) c.equipment-equipment.ensures.equipment in
    let below : c.args.group < length c.groups.result.now = omega (arith, c.requires, c.equipment-equipment.ensures.own.count, ap length groups) in
    let row : slice_get q.station.groups c.args.group ≡ Some c.index-groups-group.result =
    ap (λ (gs : List GroupRow). slice_get gs c.args.group) (sym groups) ∙ read_is c.groups.result.now c.args.group c.index-groups-group.result below c.index-groups-group.is in
    ok_as c.places_in.result (λ (places : Vec SlotPlace Global) is. record {
      group = c.index-groups-group.result;
      table = c.group-table.result.now;
      row = row;
      there = there;
      are = is ∙ ap (λ (ss : List SourceRow). kept_places ss (map row_view c.args.rows.now) c.index-groups-group.result c.group-table.result.now) sources;
    }) c.places_in.ensures
