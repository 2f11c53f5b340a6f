use Rattle.std.proofs.Common.{List, ℕ, [], ap, ◌∙◌}
use Rattle.std.specs.Prelude.{Option, unwrap_or}
use Rattle.csv.specs.Records.{fields_of}
use Rattle.a429_text.specs.Aligned.{field_in}
use Rattle.a429_text.proofs.RowFields.{field_is}
use Rattle.a429_text.proofs.fields.TextRow.field.Goals as goal

pub returns-in-Some : goal.returns-in-Some
returns-in-Some c =
    ap (λ (o : Option (List ℕ)). unwrap_or o []) c.in-Some.ensures.value ∙ field_is (fields_of c.self.inside.fields) c.args.column
    ∙ ap (field_in c.args.column) c.self.view_is

pub returns-in-None : goal.returns-in-None
returns-in-None c =
    ap (λ (o : Option (List ℕ)). unwrap_or o []) c.in-None.ensures.value ∙ field_is (fields_of c.self.inside.fields) c.args.column
    ∙ ap (field_in c.args.column) c.self.view_is
