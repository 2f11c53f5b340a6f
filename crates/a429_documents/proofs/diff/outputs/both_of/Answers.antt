use Rattle.std.proofs.Common.{◌≡◌, ◌<◌, ◌∙◌, ap, length, subst, sym, ℕ, List, Some}
use Rattle.std.specs.Prelude.{slice_get}
use Rattle.a429_word.proofs.Lists.{read_is}
use Rattle.a429_equipment.specs.TableRecord.{TableRecord}
use Rattle.a429_equipment.specs.declared.rows.GroupRow.{GroupRow}
use Rattle.a429_documents.specs.Diff.{number_named, rate_in}
use Rattle.a429_documents.proofs.Changes.{both_is}
use Rattle.a429_documents.proofs.diff.outputs.both_of.Goals as goal

pub returns-in-Some-clause-both : goal.returns-in-Some-clause-both
returns-in-Some-clause-both c =
    let a = c.args.a.now in
    let b = c.args.b.now in
    let row : GroupRow = c.index-groups-group.result in
    let own : c.groups.result.now ≡ a.station.groups = c.groups.ensures.rows ∙ ap (λ (e : TableRecord). e.groups) c.equipment.ensures.equipment in
    let others : c.groups-2.result.now ≡ b.station.groups = c.groups-2.ensures.rows ∙ ap (λ (e : TableRecord). e.groups) c.equipment-2.ensures.equipment in
    let below : c.args.group < length c.groups.result.now = subst (λ (gs : List GroupRow). c.args.group < length gs) (sym own) c.requires in
    let here : slice_get a.station.groups c.args.group ≡ Some row = ap (λ (gs : List GroupRow). slice_get gs c.args.group) (sym own) ∙ read_is c.groups.result.now c.args.group row below c.index-groups-group.is in
    let name : c.as_str-name.result.now ≡ row.name = c.as_str-name.ensures ∙ sym (ap (λ (r : GroupRow). r.name) c.index-groups-group.is) in
    let find : List GroupRow → List ℕ → _ = number_named (λ (h : GroupRow). h.name) in
    let named : find b.station.groups row.name ≡ Some c.in-Some.other =
    ap (find b.station.groups) (sym name) ∙ ap (λ (gs : List GroupRow). find gs c.as_str-name.result.now) (sym others) ∙ sym c.number_named.ensures.number ∙ c.in-Some.is in
    let rate : c.rate_of.result ≡ rate_in a c.args.group = c.rate_of.ensures.rate in
    let new_rate : c.rate_of-in-Some.result ≡ rate_in b c.in-Some.other = c.rate_of-in-Some.ensures.rate in
    (λ i. Some (record { name = name i; rate = rate i; new_rate = new_rate i; first = c.of.ensures i; second = c.of-in-Some.ensures i })) ∙ sym (both_is a b c.args.group c.in-Some.other row here named)
