use Rattle.std.proofs.Common.{◌≡◌, ◌++◌, ◌∙◌, [], ap, sym, List}
use Rattle.std.specs.Prelude.{Option, Some, slice_get}
use Rattle.std.specs.Option.{option_map_or}
use Rattle.a429_text.specs.Fields.{Field}
use Rattle.a429_word.proofs.Lists.{read_is}
use Rattle.a429_equipment.specs.TableRecord.{TableRecord}
use Rattle.a429_equipment.specs.declared.rows.SourceRow.{SourceRow}
use Rattle.a429_documents.specs.Lint.{source_finding, source_rows}
use Rattle.a429_documents.proofs.Ranges.{gathered_more}
use Rattle.a429_documents.proofs.lint.sources.add_sources.Goals as goal

pub loop-number-preserved : goal.loop-number-preserved
loop-number-preserved c =
    let e : TableRecord = c.args.equipment.now in
    let i = c.loop-number.number in
    let row : SourceRow = c.index-sources-number.result in
    let here : slice_get e.sources i ≡ Some row = ap (λ (ss : List SourceRow). slice_get ss i) (sym c.sources-sources.ensures.rows) ∙ read_is c.sources-sources.result.now i row c.loop-number-test.true c.index-sources-number.is in
    let same : source_finding e c.args.kind i row ≡ source_rows e c.args.kind i = sym (ap (λ (r : Option SourceRow). option_map_or (source_finding e c.args.kind i) r []) here) in
    gathered_more (source_rows e c.args.kind) c.args.found.now c.loop-number.found c.add_source.new.found i c.loop-number.invariant
    (c.add_source.ensures ∙ ap (λ (l : List (List Field)). c.loop-number.found ++ l) same)
