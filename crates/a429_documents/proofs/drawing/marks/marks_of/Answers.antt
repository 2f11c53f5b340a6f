use Rattle.std.proofs.Common.{◌≡◌, ◌+◌, ◌++◌, ◌∙◌, [], ap, sym, ℕ, List}
use Rattle.std.specs.Prelude.{Option}
use Rattle.std.specs.Option.{option_map_or}
use Rattle.a429_slots.specs.Tables.{SlotTable}
use Rattle.a429_documents.specs.Drawing.{group_marks, marks_at, slots_of}
use Rattle.a429_documents.specs.declared.drawing.marks.CellMark.{CellMark}
use Rattle.a429_documents.proofs.Ranges.{gathered_more}
use Rattle.a429_documents.proofs.drawing.marks.marks_of.Goals as goal

pub loop-place-preserved : goal.loop-place-preserved
loop-place-preserved c =
    let form = c.args.form in
    let g = c.args.first + c.loop-place.place in
    let marks : List CellMark = c.loop-place.marks in
    let t : SlotTable = c.group-table.result.now in
    let more : c.push_group.new.marks ≡ marks ++ marks_at form c.args.plan.now g =
    c.push_group.ensures ∙ ap (λ (slots : ℕ). marks ++ group_marks g t slots) c.slots_of.ensures
    ∙ sym (ap (λ (o : Option SlotTable). marks ++ option_map_or (λ (t : SlotTable). group_marks g t (slots_of form t)) o []) c.group-table.ensures) in
    gathered_more (λ k. marks_at form c.args.plan.now (c.args.first + k)) [] marks c.push_group.new.marks c.loop-place.place c.loop-place.invariant more
