use Rattle.std.specs.Prelude.{codes}
use Rattle.a429_equipment.specs.SameStation.{same_station}
use Rattle.a429_documents.specs.Diff.{change_row, of_kind}
use Rattle.a429_documents.proofs.NoRows.{none_if, one_none}
use Rattle.std.proofs.Common.{[], ◌∷◌}
use Rattle.a429_documents.proofs.laws.no_station_row_is_one_station.Goals as goal

pub returns : goal.returns
returns c = λ a b sound other.
    let row = change_row (of_kind (codes "station")) (codes "another") in
    (one_none (same_station a b) row, none_if (same_station a b) (row ∷ []))
