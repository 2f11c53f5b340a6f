-- The columns of aligned rows, one after the other.
use Rattle.std.proofs.Common.{◌≡◌, ℕ, suc, zero, ◌+◌, List, ◌∷◌, [], ◌++◌, length, map, sym, ap, ◌∙◌, append_assoc, arith}
use Rattle.std.specs.Prelude.{codes}
use Rattle.std.specs.List.{flat_map, range_with_len}
use Rattle.std.proofs.lemmas.List.{flat_map_more}
use Rattle.std.proofs.lemmas.List.FromFn.{map-range_with_len_more}
use Rattle.a429_text.specs.Aligned.{column_text, aligned_row}

range_next : (a n : ℕ) → range_with_len a (suc n) ≡ range_with_len a n ++ (a + n) ∷ []
range_next a zero = let e : a ≡ a + 0 = omega arith in ap (λ (m : ℕ). m ∷ []) e
range_next a (suc n) =
    let e : a + 1 + n ≡ a + suc n = omega arith in
    ap (λ (xs : List ℕ). a ∷ xs) (range_next (a + 1) n ∙ ap (λ (m : ℕ). range_with_len (a + 1) n ++ m ∷ []) e)

range_more : (n : ℕ) → range_with_len 0 (n + 1) ≡ range_with_len 0 n ++ n ∷ []
range_more n =
    let e : n + 1 ≡ suc n = omega arith in
    let f : 0 + n ≡ n = omega arith in
    ap (range_with_len 0) e ∙ range_next 0 n ∙ ap (λ (x : ℕ). range_with_len 0 n ++ x ∷ []) f

-- one more column of a row
pub columns_more : (f : ℕ → List ℕ) (old text new : List ℕ) (column : ℕ) → text ≡ old ++ flat_map f (range_with_len 0 column) → new ≡ text ++ f column → new ≡ old ++ flat_map f (range_with_len 0 (column + 1))
columns_more f old text new column so now =
    now ∙ ap (λ (x : List ℕ). x ++ f column) so ∙ flat_map_more f old (range_with_len 0 column) column
    ∙ ap (λ (columns : List ℕ). old ++ flat_map f columns) (sym (range_more column))

-- and the line's end
pub row_ends : (widths : List ℕ) (row : List (List ℕ)) (old text new : List ℕ) (column : ℕ) → column ≡ length row → text ≡ old ++ flat_map (column_text widths row) (range_with_len 0 column) → new ≡ text ++ codes "\n"
    → new ≡ old ++ aligned_row widths row
row_ends widths row old text new column past so now =
    now ∙ ap (λ (x : List ℕ). x ++ codes "\n") so ∙ append_assoc old (flat_map (column_text widths row) (range_with_len 0 column)) (codes "\n")
    ∙ ap (λ (n : ℕ). old ++ (flat_map (column_text widths row) (range_with_len 0 n) ++ codes "\n")) past

-- one more width
pub widths_more : (f : ℕ → ℕ) (old new : List ℕ) (column : ℕ) → old ≡ map f (range_with_len 0 column) → new ≡ old ++ f column ∷ [] → new ≡ map f (range_with_len 0 (column + 1))
widths_more f old new column so now =
    now ∙ ap (λ (x : List ℕ). x ++ f column ∷ []) so ∙ sym (map-range_with_len_more f 0 column column (omega arith))
