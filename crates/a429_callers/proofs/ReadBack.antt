-- A sheet as comma-separated values is read back.
use Rattle.std.proofs.Common.{◌≡◌, ◌≢◌, ◌∙◌, [], ◌∷◌, ℕ, List, map, ap₂, refl, subst}
use Rattle.csv.specs.Reading.{AreRecords, default_config}
use Rattle.csv.specs.Writing.{read_back}
use Rattle.csv.specs.declared.parser.State.TheVariants as st
use Rattle.a429_text.specs.Fields.{texts_of}
use Rattle.a429_text.specs.Sheets.{csv_text_of}
use Rattle.a429_callers.specs.ReadBack.{HaveCells, SheetsAreReadBack}
use Rattle.a429_callers.proofs.Icd.Texts.{records_back}

-- a row with a cell is read as it was written
row_back : (row : List (List ℕ)) → row ≢ [] → read_back row ≡ row
row_back [] some = absurd (some refl)
row_back (cell ∷ row) some = refl

rows_back : (rows : List (List (List ℕ))) → HaveCells rows → map read_back rows ≡ rows
rows_back [] some = refl
rows_back (row ∷ rows) (one, some) = ap₂ (λ (x : List (List ℕ)) (xs : List (List (List ℕ))). x ∷ xs) (row_back row one) (rows_back rows some)

pub sheets_back : SheetsAreReadBack
unfolding csv_text_of
sheets_back columns rows records some plain read =
    let texts : List (List (List ℕ)) = texts_of [] columns rows in
    records_back texts records (subst (λ (text : List ℕ). AreRecords default_config st.StartRecord text records) plain read) ∙ rows_back texts some
