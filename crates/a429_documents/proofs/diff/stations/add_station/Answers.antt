use Rattle.std.proofs.Common.{◌≡◌, ◌∷◌, ◌++◌, ◌∙◌, [], Bool, false, List, ap, sym}
use Rattle.std.specs.Prelude.{codes, if◌then◌else◌}
use Rattle.a429_text.specs.Fields.{Field}
use Rattle.a429_equipment.specs.SameStation.{same_station}
use Rattle.a429_documents.specs.Diff.{Subject, change_row, of_kind}
use Rattle.a429_documents.proofs.diff.stations.add_station.Goals as goal

pub returns : goal.returns
returns c =
    let rows : List (List Field) = c.args.rows.now in
    let row : List Field = change_row (of_kind (codes "station")) (codes "another") in
    let said : c.add_row.new.rows ≡ rows ++ row ∷ [] = c.add_row.ensures ∙ ap (λ (s : Subject). rows ++ change_row s (codes "another") ∷ []) c.of_kind.ensures in
    let other : same_station c.args.a.now c.args.b.now ≡ false = sym c.same_station.ensures ∙ c.if-same_station.false in
    said ∙ ap (λ (b : Bool). rows ++ (if b then [] else row ∷ [])) (sym other)
