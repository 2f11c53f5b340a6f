use Rattle.std.proofs.Common.{◌≡◌, ◌++◌, ◌∙◌, [], ℕ, List, Option, Some, ap, sym}
use Rattle.std.specs.Prelude.{slice_get}
use Rattle.std.specs.Option.{option_map_or}
use Rattle.a429_text.specs.Fields.{Field}
use Rattle.a429_word.proofs.Lists.{read_is}
use Rattle.a429_equipment.specs.declared.rows.ReceiverRow.{ReceiverRow}
use Rattle.a429_documents.specs.Lint.{twin_row, twin_rows}
use Rattle.a429_documents.proofs.Ranges.{gathered_more}
use Rattle.a429_documents.proofs.lint.receivers.add_twins.Goals as goal

pub loop-later-preserved : goal.loop-later-preserved
loop-later-preserved c =
    let receivers : List ReceiverRow = c.args.receivers.now in
    let n : ℕ = c.args.number in
    let r : ReceiverRow = c.args.receiver.now in
    let m = c.loop-later.later in
    let other : ReceiverRow = c.index-receivers-later.result in
    let here : slice_get receivers m ≡ Some other = read_is receivers m other c.loop-later-test.true c.index-receivers-later.is in
    let same : twin_row n r m other ≡ twin_rows receivers n r m = sym (ap (λ (o : Option ReceiverRow). option_map_or (twin_row n r m) o []) here) in
    gathered_more (twin_rows receivers n r) c.args.found.now c.loop-later.found c.add_twin.new.found m c.loop-later.invariant
    (c.add_twin.ensures ∙ ap (λ (l : List (List Field)). c.loop-later.found ++ l) same)
