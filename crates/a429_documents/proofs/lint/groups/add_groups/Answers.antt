use Rattle.std.proofs.Common.{◌≡◌, ◌++◌, ◌<◌, ◌≤◌, ◌∙◌, ap, length, map, subst, sym, ℕ, List}
use Rattle.std.specs.Prelude.{Some, slice_get}
use Rattle.std.proofs.lemmas.List.{length-map}
use Rattle.a429_text.specs.Fields.{Field}
use Rattle.a429_word.proofs.Lists.{all_at, read_is}
use Rattle.a429_equipment.specs.TableRecord.{TableRecord}
use Rattle.a429_equipment.specs.declared.rows.GroupRow.{GroupRow}
use Rattle.a429_equipment.specs.declared.rows.OutputRow.{OutputRow}
use Rattle.a429_equipment.specs.declared.rows.SourceRow.{SourceRow}
use Rattle.a429_pack.specs.declared.demands.Demand.{Demand}
use Rattle.a429_slots.specs.Planned.{HaveSources}
use Rattle.a429_documents.specs.Lint.{group_finding, group_rows}
use Rattle.a429_documents.proofs.Findings.{GroupAt, asked_below, asked_each, group_is, kept_at}
use Rattle.a429_documents.proofs.Ranges.{gathered_more}
use Rattle.a429_documents.proofs.lint.groups.add_groups.Goals as goal

pub bounds-asked-number : goal.bounds-asked-number
bounds-asked-number c =
    let e : TableRecord = c.args.equipment.now in
    let row : GroupRow = c.index-groups-number.result in
    let here : slice_get e.groups c.loop-number.number ≡ Some row = ap (λ (gs : List GroupRow). slice_get gs c.loop-number.number) (sym c.groups-groups.ensures.rows) ∙ read_is c.groups-groups.result.now c.loop-number.number row c.loop-number-test.true c.index-groups-number.is in
    let at : GroupAt e (map (λ v. v.items) c.args.asked.now) c.loop-number.number row c.outputs-rows.result.now = record { all = c.requires.asked; here = here; listed = c.outputs-rows.ensures.rows } in
    subst (λ (n : ℕ). c.loop-number.number < n) (length-map c.args.asked.now (λ v. v.items)) (asked_below e (map (λ v. v.items) c.args.asked.now) c.loop-number.number row c.outputs-rows.result.now at)

pub add_group-requires-clause-known : goal.add_group-requires-clause-known
add_group-requires-clause-known c =
    subst (λ (ss : List SourceRow). HaveSources ss c.outputs-rows.result.now) (sym c.sources-sources.ensures.rows)
    (all_at (HaveSources c.args.equipment.now.sources) c.args.equipment.now.outputs c.loop-number.number c.outputs-rows.result.now c.rows_are_sound.ensures.known_sources c.outputs-rows.ensures.rows)

pub add_group-requires-clause-each : goal.add_group-requires-clause-each
add_group-requires-clause-each c =
    let e : TableRecord = c.args.equipment.now in
    let i = c.loop-number.number in
    let row : GroupRow = c.index-groups-number.result in
    let asked : List (List Demand) = map (λ v. v.items) c.args.asked.now in
    let here : slice_get e.groups i ≡ Some row = ap (λ (gs : List GroupRow). slice_get gs i) (sym c.groups-groups.ensures.rows) ∙ read_is c.groups-groups.result.now i row c.loop-number-test.true c.index-groups-number.is in
    let at : GroupAt e asked i row c.outputs-rows.result.now = record { all = c.requires.asked; here = here; listed = c.outputs-rows.ensures.rows } in
    let below : i < length c.args.asked.now = subst (λ (n : ℕ). i < n) (length-map c.args.asked.now (λ v. v.items)) (asked_below e asked i row c.outputs-rows.result.now at) in
    ap length c.deref.ensures.value ∙ asked_each e asked i row c.outputs-rows.result.now at c.index-asked-number.result.items (kept_at c.args.asked.now i c.index-asked-number.result below c.index-asked-number.is)

pub add_group-requires-clause-few : goal.add_group-requires-clause-few
add_group-requires-clause-few c =
    let e : TableRecord = c.args.equipment.now in
    let i = c.loop-number.number in
    let row : GroupRow = c.index-groups-number.result in
    let rows : List OutputRow = c.outputs-rows.result.now in
    let asked : List (List Demand) = map (λ v. v.items) c.args.asked.now in
    let here : slice_get e.groups i ≡ Some row = ap (λ (gs : List GroupRow). slice_get gs i) (sym c.groups-groups.ensures.rows) ∙ read_is c.groups-groups.result.now i row c.loop-number-test.true c.index-groups-number.is in
    let at : GroupAt e asked i row rows = record { all = c.requires.asked; here = here; listed = c.outputs-rows.ensures.rows } in
    let below : i < length c.args.asked.now = subst (λ (n : ℕ). i < n) (length-map c.args.asked.now (λ v. v.items)) (asked_below e asked i row rows at) in
    let same : length c.deref.result.now ≡ length rows = ap length c.deref.ensures.value ∙ asked_each e asked i row rows at c.index-asked-number.result.items (kept_at c.args.asked.now i c.index-asked-number.result below c.index-asked-number.is) in
    subst (λ (n : ℕ). n ≤ 128) (sym same) (all_at (λ (os : List OutputRow). (1 ≤ length os) × (length os ≤ 128)) e.outputs i rows c.rows_are_sound.ensures.some_outputs c.outputs-rows.ensures.rows).1

pub loop-number-preserved : goal.loop-number-preserved
loop-number-preserved c =
    let e : TableRecord = c.args.equipment.now in
    let i = c.loop-number.number in
    let row : GroupRow = c.index-groups-number.result in
    let rows : List OutputRow = c.outputs-rows.result.now in
    let asked : List (List Demand) = map (λ v. v.items) c.args.asked.now in
    let here : slice_get e.groups i ≡ Some row = ap (λ (gs : List GroupRow). slice_get gs i) (sym c.groups-groups.ensures.rows) ∙ read_is c.groups-groups.result.now i row c.loop-number-test.true c.index-groups-number.is in
    let at : GroupAt e asked i row rows = record { all = c.requires.asked; here = here; listed = c.outputs-rows.ensures.rows } in
    let below : i < length c.args.asked.now = subst (λ (n : ℕ). i < n) (length-map c.args.asked.now (λ v. v.items)) (asked_below e asked i row rows at) in
    let there = kept_at c.args.asked.now i c.index-asked-number.result below c.index-asked-number.is in
    let same : group_finding c.sources-sources.result.now c.args.kind row rows c.deref.result.now ≡ group_rows e asked c.args.kind i =
    ap (λ (ss : List SourceRow). group_finding ss c.args.kind row rows c.deref.result.now) c.sources-sources.ensures.rows
    ∙ ap (λ (ds : List Demand). group_finding e.sources c.args.kind row rows ds) c.deref.ensures.value
    ∙ sym (group_is e asked i row rows at c.args.kind c.index-asked-number.result.items there) in
    gathered_more (group_rows e asked c.args.kind) c.args.found.now c.loop-number.found c.add_group.new.found i c.loop-number.invariant
    (c.add_group.ensures ∙ ap (λ (l : List (List Field)). c.loop-number.found ++ l) same)
