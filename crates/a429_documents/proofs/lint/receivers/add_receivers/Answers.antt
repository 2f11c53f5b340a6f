use Rattle.std.proofs.Common.{◌≡◌, ◌++◌, ◌∙◌, [], ap, sym, List}
use Rattle.std.specs.Prelude.{Option, Some, slice_get}
use Rattle.std.specs.Option.{option_map_or}
use Rattle.a429_text.specs.Fields.{Field}
use Rattle.a429_word.proofs.Lists.{read_is}
use Rattle.a429_equipment.specs.TableRecord.{TableRecord}
use Rattle.a429_equipment.specs.declared.rows.ReceiverRow.{ReceiverRow}
use Rattle.a429_equipment.specs.declared.rows.SourceRow.{SourceRow}
use Rattle.a429_documents.specs.Lint.{receiver_finding, receiver_rows}
use Rattle.a429_documents.proofs.Ranges.{gathered_more}
use Rattle.a429_documents.proofs.lint.receivers.add_receivers.Goals as goal

pub loop-number-preserved : goal.loop-number-preserved
loop-number-preserved c =
    let e : TableRecord = c.args.equipment.now in
    let i = c.loop-number.number in
    let row : ReceiverRow = c.index-receivers-number.result in
    let here : slice_get e.receivers i ≡ Some row = ap (λ (rs : List ReceiverRow). slice_get rs i) (sym c.receivers-receivers.ensures.rows) ∙ read_is c.receivers-receivers.result.now i row c.loop-number-test.true c.index-receivers-number.is in
    let same : receiver_finding c.receivers-receivers.result.now c.sources-sources.result.now c.args.kind i row ≡ receiver_rows e c.args.kind i =
    ap (λ (rs : List ReceiverRow). receiver_finding rs c.sources-sources.result.now c.args.kind i row) c.receivers-receivers.ensures.rows
    ∙ ap (λ (ss : List SourceRow). receiver_finding e.receivers ss c.args.kind i row) c.sources-sources.ensures.rows
    ∙ sym (ap (λ (r : Option ReceiverRow). option_map_or (receiver_finding e.receivers e.sources c.args.kind i) r []) here) in
    gathered_more (receiver_rows e c.args.kind) c.args.found.now c.loop-number.found c.add_receiver.new.found i c.loop-number.invariant
    (c.add_receiver.ensures ∙ ap (λ (l : List (List Field)). c.loop-number.found ++ l) same)
