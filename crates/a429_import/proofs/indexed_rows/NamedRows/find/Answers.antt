use Rattle.std.proofs.Common.{◌∙◌}
use Rattle.a429_import.proofs.Knowing.{place_found}
use Rattle.a429_import.proofs.indexed_rows.NamedRows.find.Goals as goal

pub returns : goal.returns
returns c = c.get_index_of.ensures.index ∙ place_found c.args.self.now c.args.name.now
