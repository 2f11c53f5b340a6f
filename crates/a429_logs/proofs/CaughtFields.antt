-- The fields of a row, caught one after another.
use Rattle.std.proofs.Common.{◌≡◌, ◌∙◌, ◌+◌, ◌<◌, ◌≤◌, ℕ, zero, suc, Bool, true, false, List, [], ◌∷◌, drop, length, refl, sym, ap, arith}
use Rattle.std.specs.Prelude.{◌==◌, Some, None, nat_lt, if◌then◌else◌}
use Rattle.std.proofs.lemmas.Bool.Decides.{nat_tests}
use Rattle.std.proofs.lemmas.List.{length-drop}
use Rattle.a429_logs.specs.LogRows.{caught, caught_in, field_at, word_place}
use Rattle.a429_logs.specs.declared.columns.Places.{Places}

-- the field of a column, if it is among the first ones
unfoldable pub seen : ℕ → ℕ → List (List ℕ) → List ℕ
seen column place fields = if nat_lt column place then field_at column fields else []

pub seen-none : (column : ℕ) (fields : List (List ℕ)) → [] ≡ seen column 0 fields
unfolding seen
seen-none column fields = let none : nat_lt column 0 ≡ false = grind (arith, nat_tests) in rw none refl

same_place : (column place : ℕ) (t : Bool) → (column == place) ≡ t → (field : List ℕ) (fields : List (List ℕ)) → field ≡ field_at place fields
    → caught column place field (seen column place fields) ≡ seen column (place + 1) fields
unfolding seen
same_place column place true e field fields here =
    let same : column ≡ place = grind (arith, nat_tests) in
    let within : nat_lt column (place + 1) ≡ true = grind (arith, nat_tests) in
    rw (e, within) (here ∙ ap (λ (k : ℕ). field_at k fields) (sym same))
same_place column place false e field fields here =
    let onto : nat_lt column (place + 1) ≡ nat_lt column place = grind (arith, nat_tests) in
    rw (e, onto) refl

pub seen-next : (column place : ℕ) (field : List ℕ) (fields : List (List ℕ)) → field ≡ field_at place fields
    → caught column place field (seen column place fields) ≡ seen column (place + 1) fields
seen-next column place field fields here = same_place column place (column == place) refl field fields here

past : (column : ℕ) (fields : List (List ℕ)) → length fields ≤ column → [] ≡ field_at column fields
past column [] above = refl
past zero (x ∷ xs) above = absurd (omega (arith, above))
past (suc column) (x ∷ xs) above = past column xs (omega (arith, above))

all_by : (column : ℕ) (fields : List (List ℕ)) (t : Bool) → nat_lt column (length fields) ≡ t → seen column (length fields) fields ≡ field_at column fields
unfolding seen
all_by column fields true e = rw e refl
all_by column fields false e = rw e (past column fields (grind (arith, nat_tests)))

pub seen-all : (column : ℕ) (fields : List (List ℕ)) → seen column (length fields) fields ≡ field_at column fields
seen-all column fields = all_by column fields (nat_lt column (length fields)) refl

-- the next field, and those after it
pub drop-field : (place : ℕ) (fields : List (List ℕ)) (field : List ℕ) (rest : List (List ℕ)) → drop place fields ≡ field ∷ rest → field ≡ field_at place fields
drop-field zero [] field rest e = absurd (omega (arith, ap (λ (l : List (List ℕ)). length l) e))
drop-field zero (x ∷ xs) field rest e = sym (ap (λ (l : List (List ℕ)). field_at 0 l) e)
drop-field (suc place) [] field rest e = absurd (omega (arith, ap (λ (l : List (List ℕ)). length l) e))
drop-field (suc place) (x ∷ xs) field rest e = drop-field place xs field rest e

pub drop-rest : (place : ℕ) (fields : List (List ℕ)) (field : List ℕ) (rest : List (List ℕ)) → drop place fields ≡ field ∷ rest → drop (place + 1) fields ≡ rest
drop-rest zero [] field rest e = absurd (omega (arith, ap (λ (l : List (List ℕ)). length l) e))
drop-rest zero (x ∷ xs) field rest e = ap (λ (l : List (List ℕ)). drop 1 l) e
drop-rest (suc place) [] field rest e = absurd (omega (arith, ap (λ (l : List (List ℕ)). length l) e))
drop-rest (suc place) (x ∷ xs) field rest e =
    let onto : suc place + 1 ≡ suc (place + 1) = omega arith in
    rw onto (drop-rest place xs field rest e)

-- ---- how many fields there are

pub left-none : (place : ℕ) (fields : List (List ℕ)) → drop place fields ≡ [] → place ≤ length fields → length fields ≡ place
left-none place fields none within = omega (arith, ap (λ (l : List (List ℕ)). length l) none, length-drop place fields, within)

pub left-some : (place : ℕ) (fields : List (List ℕ)) (field : List ℕ) (rest : List (List ℕ)) → drop place fields ≡ field ∷ rest → place < length fields
left-some place fields field rest some = omega (arith, ap (λ (l : List (List ℕ)). length l) some, length-drop place fields)

pub caught-other : (count : ℕ) (places : Places) (fields : List (List ℕ)) → (length fields ≡ count → ⊥) → None ≡ caught_in count places fields
caught-other count places fields other = let no_row : (length fields == count) ≡ false = grind (arith, nat_tests) in rw no_row refl

pub caught-row : (count : ℕ) (places : Places) (fields : List (List ℕ)) (place : ℕ) → place ≡ count → length fields ≡ place
    → Some (record { time = seen places.time place fields; name = seen places.name place fields; word = seen (word_place places.word) place fields })
    ≡ caught_in count places fields
caught-row count places fields place last all =
    let row : (length fields == count) ≡ true = grind (arith, nat_tests) in
    rw (row, sym all, seen-all places.time fields, seen-all places.name fields, seen-all (word_place places.word) fields) refl
