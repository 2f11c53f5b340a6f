use Rattle.std.proofs.Common.{◌≡◌, ◌++◌, ◌∙◌, [], ap, sym, List}
use Rattle.std.specs.Prelude.{Option, Some, slice_get}
use Rattle.std.specs.Option.{option_map_or}
use Rattle.a429_text.specs.Fields.{Field}
use Rattle.a429_word.proofs.Lists.{read_is}
use Rattle.a429_equipment.specs.TableRecord.{TableRecord}
use Rattle.a429_equipment.specs.declared.rows.ReceiverRow.{ReceiverRow}
use Rattle.a429_equipment.specs.declared.rows.SourceRow.{SourceRow}
use Rattle.a429_documents.specs.Buses.{heard_rows, receiver_rows}
use Rattle.a429_documents.proofs.Ranges.{gathered_more}
use Rattle.a429_documents.proofs.sheets.buses.add_receivers.Goals as goal

pub loop-number-preserved : goal.loop-number-preserved
loop-number-preserved c =
    let e : TableRecord = c.args.equipment.now in
    let i = c.loop-number.number in
    let row : ReceiverRow = c.index-receivers-number.result in
    let here : slice_get e.receivers i ≡ Some row = ap (λ (rs : List ReceiverRow). slice_get rs i) (sym c.receivers-receivers.ensures.rows) ∙ read_is c.receivers-receivers.result.now i row c.loop-number-test.true c.index-receivers-number.is in
    let same : heard_rows c.sources-sources.result.now i row ≡ receiver_rows e i =
    ap (λ (ss : List SourceRow). heard_rows ss i row) c.sources-sources.ensures.rows
    ∙ sym (ap (λ (r : Option ReceiverRow). option_map_or (heard_rows e.sources i) r []) here) in
    gathered_more (receiver_rows e) c.args.rows.now c.loop-number.rows c.add_receiver.new.rows i c.loop-number.invariant
    (c.add_receiver.ensures ∙ ap (λ (l : List (List Field)). c.loop-number.rows ++ l) same)
