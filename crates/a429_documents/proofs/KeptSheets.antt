-- A sheet with the columns that comments bring.
use Rattle.std.proofs.Common.{◌≡◌, ◌≤◌, ◌∷◌, [], ℕ, suc, List, Bor, arith, drop, length, map, refl, sym}
use Rattle.std.proofs.Math.Seq.{drop-length}
use Rattle.std.proofs.lemmas.List.{append-nil, drop_all, length-map}
use Rattle.a429_text.specs.Fields.{Field}
use Rattle.a429_text.specs.Sheets.{sheet_text}
use Rattle.a429_text.specs.declared.sheets.SheetForm.{SheetForm}
use Rattle.a429_documents.specs.KeptColumns.{Said, kept_sheet, wider_row, with_columns}

pub further_are : (xs : List (Bor (List ℕ))) (own : ℕ) → length xs ≤ own → ◌≡◌ {A = List (List ℕ)} [] (drop own (map (λ name. name.now) xs))
further_are xs own few = sym (drop_all own (map (λ name. name.now) xs) (rw (length-map xs (λ name. name.now)) few))

pub wider_is : (form : SheetForm) (texts : List Said) (own : List (Bor (List ℕ))) (all more : List (List ℕ)) (before rows : List (List Field)) (place : ℕ)
    → all ≡ with_columns (length own) (map (λ name. name.now) own) texts → more ≡ drop (length own) all → rows ≡ map (wider_row texts more place) before
    → sheet_text form all rows ≡ kept_sheet form texts (map (λ name. name.now) own) place before
unfolding kept_sheet
wider_is form texts own all more before rows place a m r = rw (length-map own (λ name. name.now), r, m, a) refl

same_rows : (place : ℕ) (rows : List (List Field)) → map (wider_row [] [] place) rows ≡ rows
same_rows place [] = refl
same_rows place (row ∷ rows) = rw (append-nil row, same_rows place rows) refl

-- without such comments the sheet stays the same
pub none_kept : (form : SheetForm) (names : List (List ℕ)) (place : ℕ) (rows : List (List Field)) → kept_sheet form [] names place rows ≡ sheet_text form names rows
unfolding kept_sheet
none_kept form names place rows = rw (drop-length names, same_rows place rows) refl

-- an empty list has an empty list of comments
pub none_said : {X : Type 0} (f : X → Said) (items : List X) (said : List Said) → length items ≡ 0 → map f items ≡ said → said ≡ []
none_said f [] said e same = sym same
none_said f (x ∷ xs) said e same = absurd (no_item (length xs) e)
  where
    no_item : (n : ℕ) → suc n ≡ 0 → ⊥
    no_item n e = omega arith
