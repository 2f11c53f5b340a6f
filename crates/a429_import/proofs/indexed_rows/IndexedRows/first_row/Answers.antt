use Rattle.std.proofs.Common.{◌∙◌, ap, arith, get_or}
use Rattle.std.specs.Prelude.{slice_index_or}
use Rattle.a429_import.specs.IndexedRows.{numbers_of}
use Rattle.a429_import.proofs.RowsBefore.{row_there, row_within}
use Rattle.a429_import.proofs.indexed_rows.IndexedRows.first_row.Goals as goal

pub index-requires : goal.index-requires
index-requires c =
    let number = c.first_at.ensures ∙ ap (λ n. slice_index_or (numbers_of n) c.args.place 0) c.named.ensures in
    let within = row_within c.args.part c.args.self.now c.args.place c.requires.known c.requires.place in
    omega (arith, number, within, c.args.self.now.rows.ok.0)

pub returns : goal.returns
returns c =
    let row = c.index.result.now in
    let number = c.first_at.ensures ∙ ap (λ n. slice_index_or (numbers_of n) c.args.place 0) c.named.ensures in
    row_there c.args.part c.args.self.now c.args.place c.requires.known row c.requires.place (c.index.ensures ∙ ap (λ n. get_or c.args.self.now.rows.items n row) number)
