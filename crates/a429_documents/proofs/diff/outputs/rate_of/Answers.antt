use Rattle.std.proofs.Common.{◌≡◌, ◌≤◌, ℕ, Some, sym, subst}
use Rattle.std.specs.Prelude.{option_map, slice_get}
use Rattle.a429_word.proofs.Lists.{all_at}
use Rattle.a429_equipment.specs.Sound.{IsGroupRow, IsSound}
use Rattle.a429_equipment.specs.TableRecord.{TableRecord}
use Rattle.a429_equipment.specs.declared.rows.GroupRow.{GroupRow}
use Rattle.a429_documents.proofs.Changes.{rated, some_rate}
use Rattle.a429_documents.proofs.diff.outputs.rate_of.Goals as goal

pub returns-clause-rate : goal.returns-clause-rate
returns-clause-rate c =
    let told : option_map (λ (g : GroupRow). g.rate) (slice_get c.args.proposal.now.station.groups c.args.group) ≡ Some c.group_rate.result =
    subst (λ (e : TableRecord). option_map (λ (g : GroupRow). g.rate) (slice_get e.groups c.args.group) ≡ Some c.group_rate.result) c.equipment-equipment.ensures.equipment c.group_rate.ensures.rate in
    sym (rated (slice_get c.args.proposal.now.station.groups c.args.group) c.group_rate.result told).0

pub returns-clause-some : goal.returns-clause-some
returns-clause-some c =
    let e : TableRecord = c.equipment-equipment.result.now in
    let (same, row, here, is) = rated (slice_get e.groups c.args.group) c.group_rate.result c.group_rate.ensures.rate in
    let sound : IsSound e = c.rows_are_sound.ensures in
    subst (λ (n : ℕ). 1 ≤ n) is (some_rate row.rate (all_at IsGroupRow e.groups c.args.group row sound.group_rows here).1)
