use Rattle.std.proofs.Common.{◌∙◌, ap, sym}
use Rattle.std.specs.Prelude.{is_some}
use Rattle.a429_import.specs.declared.firsts.Part.TheVariants.{Sources}
use Rattle.a429_import.specs.ImportRows.{row_view}
use Rattle.a429_import.proofs.Knowing.{found_is_known}
use Rattle.a429_import.proofs.indexed_rows.IndexedRows.has_all_of.Goals as goal

pub returns-then-is_empty : goal.returns-then-is_empty
returns-then-is_empty c =
    let known = c.is_some.ensures ∙ ap is_some c.find.ensures ∙ found_is_known Sources c.args.self.now.sources c.args.self.now.rows.items (row_view c.args.row.now) c.requires.sources in
    rw (sym c.is_empty.ensures ∙ c.if-is_empty.true) known
