use Rattle.std.proofs.Common.{◌≡◌, ◌≤◌, ◌++◌, ◌∙◌, ◌∷◌, [], ℕ, List, ap, append-nil, arith, length, map, sym}
use Rattle.std.specs.Prelude.{Some, slice_get}
use Rattle.std.proofs.lemmas.List.{take_all}
use Rattle.a429_slots.specs.Tables.{SlotTable, order_of}
use Rattle.a429_documents.specs.PlanRows.{plan_row}
use Rattle.a429_documents.specs.PlannedGroups.{PlannedGroup, PlannedOutput, output_at}
use Rattle.a429_documents.proofs.Margins.{added_more}
use Rattle.a429_documents.proofs.sheets.plan.add_outputs.Goals as goal

pub loop-place-init : goal.loop-place-init
loop-place-init c = sym (append-nil c.args.rows.now)

pub loop-place-preserved : goal.loop-place-preserved
loop-place-preserved c =
    let table : c.group.inside.table.now ≡ c.args.group.now.table = ap (λ (g : PlannedGroup). g.table) c.group.view_is in
    let there : slice_get (order_of c.args.group.now.table) c.loop-place.place ≡ Some c.output_at_place.result =
    ap (λ (t : SlotTable). slice_get (order_of t) c.loop-place.place) (sym table) ∙ c.output_at_place.ensures.value in
    let same : c.output.result ≡ output_at c.args.group.now c.output_at_place.result = c.output.ensures ∙ ap (output_at c.args.group.now) c.number-number.ensures in
    added_more (λ o. plan_row c.args.group.now (output_at c.args.group.now o)) (order_of c.args.group.now.table) c.loop-place.place c.output_at_place.result c.args.rows.now c.loop-place.rows
    c.add_row.new.rows there c.loop-place.invariant
    (c.add_row.ensures ∙ ap (λ (o : PlannedOutput). c.loop-place.rows ++ plan_row c.args.group.now o ∷ []) same)

pub returns : goal.returns
returns c =
    let order : List ℕ = order_of c.args.group.now.table in
    let past : length order ≤ c.loop-place.place = omega (arith, c.loop-place-test.false, c.outputs-place-end.ensures.ordered, ap (λ (g : PlannedGroup). length (order_of g.table)) c.group.view_is) in
    c.loop-place.invariant ∙ ap (λ (os : List ℕ). c.args.rows.now ++ map (λ o. plan_row c.args.group.now (output_at c.args.group.now o)) os) (take_all c.loop-place.place order past)
