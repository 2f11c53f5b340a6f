-- Names that are chosen one after the other.
use Rattle.std.proofs.Common.{◌≡◌, ◌∙◌, ℕ, suc, ◌+◌, ◌-◌, ◌<◌, ◌≤◌, Bool, true, false, cond, not, List, [], ◌∷◌, ◌++◌, append_assoc, drop, length, map, Some, ap, arith, refl, sym}
use Rattle.std.specs.Prelude.{slice_get}
use Rattle.std.proofs.lemmas.List.{drop_all, length-map}
use Rattle.a429_word.proofs.Lists.{drop_at}
use Rattle.a429_import.specs.declared.firsts.Part.{Part}
use Rattle.a429_import.specs.declared.indexed_rows.IndexedRows.{IndexedRows}
use Rattle.a429_import.specs.declared.indexed_rows.NamedRows.{NamedRows}
use Rattle.a429_import.specs.declared.rows.ImportRow.{ImportRow}
use Rattle.a429_import.specs.declared.rows.RowTexts.{RowTexts}
use Rattle.a429_import.specs.ImportTables.{firsts, name_in}
use Rattle.a429_import.specs.IndexedRows.{IsIndexed, IndexesFirsts, named_of, names_of}
use Rattle.a429_import.specs.MadeNames.{numbered_name}
use Rattle.a429_import.proofs.Knowing.{knows_part}
use Rattle.a429_import.specs.NumberRanges.{HaveRanges}
use Rattle.a429_import.specs.Renamed.{chosen, free_name, is_taken, names_after, renamed}

-- ---- a name that is free

pub not_true : (b : Bool) → not b ≡ true → b ≡ false
not_true false is = refl
not_true true is = cc is

pub not_false : (b : Bool) → not b ≡ false → b ≡ true
not_false true is = refl
not_false false is = cc is

pub free_step : (taken : List (List ℕ)) (base end : List ℕ) (limit n : ℕ) → n < limit → is_taken taken (numbered_name base end n) ≡ true
    → free_name taken base end (limit - (n + 1)) (n + 1) ≡ free_name taken base end (limit - n) n
free_step taken base end limit n below is =
    let e : limit - n ≡ suc (limit - (n + 1)) = omega (arith, below) in
    rw e (ap (λ (b : Bool). cond b (free_name taken base end (limit - (n + 1)) (n + 1)) (numbered_name base end n)) (sym is))

pub free_here : (taken : List (List ℕ)) (base end : List ℕ) (limit n : ℕ) → n < limit → is_taken taken (numbered_name base end n) ≡ false → numbered_name base end n ≡ free_name taken base end (limit - n) n
free_here taken base end limit n below is =
    let e : limit - n ≡ suc (limit - (n + 1)) = omega (arith, below) in
    rw e (ap (λ (b : Bool). cond b (free_name taken base end (limit - (n + 1)) (n + 1)) (numbered_name base end n)) (sym is))

pub free_end : (taken : List (List ℕ)) (base end : List ℕ) (limit n : ℕ) → limit ≤ n → [] ≡ free_name taken base end (limit - n) n
free_end taken base end limit n past = let e : limit - n ≡ 0 = omega (arith, past) in rw e refl

-- ---- one more row

pub mapped_more : {X : Type 0} (f : ImportRow → X) (rows : List ImportRow) (k : ℕ) (row : ImportRow) (old new whole : List X) → slice_get rows k ≡ Some row → old ++ map f (drop k rows) ≡ whole → new ≡ old ++ f row ∷ []
    → new ++ map f (drop (k + 1) rows) ≡ whole
mapped_more f rows k row old new whole there so now =
    ap (λ xs. xs ++ map f (drop (k + 1) rows)) now ∙ append_assoc old (f row ∷ []) (map f (drop (k + 1) rows)) ∙ sym (ap (λ (rs : List ImportRow). old ++ map f rs) (drop_at rows k row there)) ∙ so

pub names_more : (plains : List (List ℕ)) (part : Part) (rows : List ImportRow) (k : ℕ) (row : ImportRow) (old new whole : List (List ℕ)) → slice_get rows k ≡ Some row → names_after plains part old (drop k rows) ≡ whole
    → new ≡ old ++ chosen plains old part row ∷ [] → names_after plains part new (drop (k + 1) rows) ≡ whole
names_more plains part rows k row old new whole there so now =
    ap (λ (xs : List (List ℕ)). names_after plains part xs (drop (k + 1) rows)) now ∙ sym (ap (λ (rs : List ImportRow). names_after plains part old rs) (drop_at rows k row there)) ∙ so

-- as many names are known as there are first rows
pub firsts_count : (part : Part) (named : NamedRows) (rows : List ImportRow) → IndexesFirsts part named rows → length (names_of named) ≡ length (firsts part rows)
firsts_count part named rows known = ap length known.names ∙ length-map (firsts part rows) (name_in part)

pub no_more : (part : Part) (known : IndexedRows) (place : ℕ) → IsIndexed known → length (names_of (named_of part known)) ≤ place → drop place (firsts part known.rows.items) ≡ []
no_more part known place knows past =
    let many = firsts_count part (named_of part known) known.rows.items (knows_part part known knows) in
    drop_all place (firsts part known.rows.items) (omega (arith, many, past))

-- ---- the numbers stay

pub same_ranges : (rows all : List ImportRow) → HaveRanges rows → HaveRanges (map (renamed all) rows)
same_ranges [] all are = tt
same_ranges (row ∷ rows) all are = (are.0, same_ranges rows all are.1)

-- ---- the names of a row

abbrev texts_of_row : List ℕ → List ℕ → List ℕ → List ℕ → RowTexts
texts_of_row group source receiver filters = record { group = group; source = source; receiver = receiver; filters = filters }

pub same_texts : (g h s t r u f e : List ℕ) → g ≡ h → s ≡ t → r ≡ u → f ≡ e → texts_of_row g s r f ≡ texts_of_row h t u e
same_texts g h s t r u f e a b c d = rw (a, b, c, d) refl
