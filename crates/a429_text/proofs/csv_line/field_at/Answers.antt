use Rattle.std.proofs.Common.{◌≡◌, ℕ, zero, suc, List, [], ◌∷◌, refl, ap, ◌∙◌}
use Rattle.std.specs.Prelude.{Option, slice_index_or, unwrap_or}
use Rattle.csv.specs.Records.{field_at, fields_of}
use Rattle.a429_text.proofs.csv_line.field_at.Goals as goal

field_is : (row : List (List ℕ)) (column : ℕ) → unwrap_or (field_at row column) [] ≡ slice_index_or row column []
unfolding field_at
field_is [] column = refl
field_is (field ∷ row) zero = refl
field_is (field ∷ row) (suc column) = field_is row column

pub returns-in-Some : goal.returns-in-Some
returns-in-Some c = ap (λ (o : Option (List ℕ)). unwrap_or o []) c.in-Some.ensures.value ∙ field_is (fields_of c.args.fields.now) c.args.column

pub returns-in-None : goal.returns-in-None
returns-in-None c = ap (λ (o : Option (List ℕ)). unwrap_or o []) c.in-None.ensures.value ∙ field_is (fields_of c.args.fields.now) c.args.column
