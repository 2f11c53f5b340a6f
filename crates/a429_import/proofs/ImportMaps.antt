-- A heading without texts HEADING=COLUMN.
use Rattle.std.proofs.Common.{Bor, ◌≡◌, ℕ, true, List, [], ◌∷◌, arith, length, refl, subst, sym}
use Rattle.std.specs.Prelude.{◌==◌}
use Rattle.std.proofs.lemmas.Bool.{eqb-true}
use Rattle.std.proofs.lemmas.List.{map-id}
use Rattle.csv.specs.Records.{fields_of}
use Rattle.a429_text.specs.declared.csv_line.CsvLine.{CsvLine}
use Rattle.a429_import.specs.ImportMaps.{IsNamedBy, given_texts}

no_text : (maps : List (Bor (List ℕ))) → (length maps == 0) ≡ true → maps ≡ []
no_text [] none = refl
no_text (text ∷ maps) none = absurd (omega (arith, eqb-true (length (text ∷ maps)) 0 none))

-- without texts the heading stays
pub heading_stays : (maps : List (Bor (List ℕ))) (heading : CsvLine) → (length maps == 0) ≡ true → IsNamedBy (given_texts maps) heading heading
heading_stays maps heading none =
    subst (λ (texts : List (Bor (List ℕ))). IsNamedBy (given_texts texts) heading heading) (sym (no_text maps none)) (record { number = refl; separator = refl; fields = sym (map-id (fields_of heading.fields)) })
