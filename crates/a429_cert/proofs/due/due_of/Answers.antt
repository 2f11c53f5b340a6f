use Rattle.std.proofs.Common.{◌≡◌, ◌∙◌, ◌+◌, ◌≤◌, ℕ, List, Result, ap, arith, length, map, refl, subst, sym, take}
use Rattle.std.specs.Prelude.{Some, slice_get, IfErr}
use Rattle.std.specs.List.{AllZip}
use Rattle.std.proofs.lemmas.List.{length-map, take_all}
use Rattle.std.proofs.lemmas.Result.{err_from_is_err_and}
use Rattle.std.proofs.lemmas.Slice.Zip.{length-zip}
use Rattle.a429_word.proofs.Lists.{read_is, zip_next}
use Rattle.a429_equipment.specs.TableRecord.{TableRecord}
use Rattle.a429_equipment.specs.declared.rows.GroupRow.{GroupRow}
use Rattle.a429_equipment.specs.declared.rows.OutputRow.{OutputRow}
use Rattle.a429_slots.specs.Planned.{rated_outputs}
use Rattle.a429_cert.specs.declared.due.DueGroup.{DueGroup}
use Rattle.a429_cert.specs.declared.due.DueTable.{DueTable}
use Rattle.a429_cert.specs.declared.judging.NoVerdict.{NoVerdict}
use Rattle.a429_cert.specs.Due.{IsDueGroup}
use Rattle.a429_cert.specs.Judged.{IsNoVerdict}
use Rattle.a429_cert.proofs.Gathered.{all_fit, fault_in, map_next}
use Rattle.a429_cert.proofs.due.due_of.Goals as goal
use Rattle.a429_slots.proofs.Planning.{rated_at}

pub returns-in_err-outputs-clause-fault : goal.returns-in_err-outputs-clause-fault
returns-in_err-outputs-clause-fault c =
    let e : TableRecord = c.args.equipment.now in
    let (none, is, same) = err_from_is_err_and c.from_residual.result c.from_residual.ensures.1 in
    subst (λ (r : Result DueTable NoVerdict). IfErr r (IsNoVerdict e)) (sym is)
    (subst (IsNoVerdict e) (sym same)
    (fault_in e c.group_rate-rate.result c.loop-group.group c.in_err-outputs.field-0.0 c.group_rate-rate.ensures.rate (all_fit e (take c.loop-group.group (rated_outputs e)) c.loop-group.groups.items c.loop-group.invariant.groups) c.in_err-outputs.ensures.fault))

pub loop-group-preserved : goal.loop-group-preserved
loop-group-preserved c =
    let e : TableRecord = c.args.equipment.now in
    let rows : List GroupRow = c.groups-rows.result.now in
    let row : GroupRow = c.index-rows-group.result in
    let made : DueGroup = record { name = row.name; rate = c.from.result; outputs = c.in_ok-outputs.outputs } in
    let there : slice_get rows c.loop-group.group ≡ Some row = read_is rows c.loop-group.group row (omega arith) c.index-rows-group.is in
    let (outputs, at, zipped) = c.in_ok-outputs.ensures.due in
    record {
      names = ap (map (λ (g : DueGroup). g.name)) c.in_ok-push.ensures.items
          ∙ map_next (λ (r : GroupRow). r.name) (λ (g : DueGroup). g.name) rows c.loop-group.groups.items c.loop-group.group row made there c.loop-group.invariant.names refl;
      groups = subst (λ (gs : List DueGroup). AllZip (IsDueGroup e) (take (c.loop-group.group + 1) (rated_outputs e)) gs) (sym c.in_ok-push.ensures.items)
          (zip_next (IsDueGroup e) (rated_outputs e) c.loop-group.groups.items c.loop-group.group (c.group_rate-rate.result, outputs) made
          (rated_at e c.loop-group.group c.group_rate-rate.result outputs c.group_rate-rate.ensures.rate at) c.loop-group.invariant.groups
          (record { rate = c.from.ensures; outputs = zipped }));
    }

pub returns-clause-due : goal.returns-clause-due
returns-clause-due c =
    let e : TableRecord = c.args.equipment.now in
    let rows : List GroupRow = c.groups-rows.result.now in
    let same : rows ≡ e.groups = c.groups-rows.ensures.rows in
    let ended : length rows ≤ c.loop-group.group = omega arith in
    let rated : length (rated_outputs e) ≤ c.loop-group.group =
    omega (arith, ended, ap length same, length-zip (map (λ (g : GroupRow). g.rate) e.groups) e.outputs, length-map e.groups (λ (g : GroupRow). g.rate)) in
    record {
      version = c.version-version.ensures.version;
      rate = c.to_u64.ensures ∙ c.rate.ensures.rate;
      names = c.loop-group.invariant.names ∙ ap (map (λ (r : GroupRow). r.name)) (take_all c.loop-group.group rows ended ∙ same);
      groups = subst (λ (rs : List (ℕ × List OutputRow)). AllZip (IsDueGroup e) rs c.loop-group.groups.items) (take_all c.loop-group.group (rated_outputs e) rated) c.loop-group.invariant.groups;
    }
