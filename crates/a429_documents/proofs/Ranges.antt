-- Sums and lists over a range of numbers, as loops make them; and pieces of a text.
use Rattle.std.proofs.Common.{◌≡◌, ℕ, suc, ◌+◌, List, [], ◌∷◌, ◌++◌, ap, sym, refl, arith, ◌∙◌, append_assoc}
use Rattle.std.specs.List.{flat_map, range_with_len, sum_by}
use Rattle.std.proofs.lemmas.List.{flat_map_more}
use Rattle.std.proofs.lemmas.List.Sums.{sum_by_push}
use Rattle.a429_word.proofs.Lists.{range_next}

-- pieces of a text, one after the other
pub three : (t0 t1 t2 t3 a b c : List ℕ) → t1 ≡ t0 ++ a → t2 ≡ t1 ++ b → t3 ≡ t2 ++ c → t3 ≡ t0 ++ (a ++ (b ++ c))
three t0 t1 t2 t3 a b c h1 h2 h3 =
    h3 ∙ ap (λ (x : List ℕ). x ++ c) h2 ∙ append_assoc t1 b c ∙ ap (λ (x : List ℕ). x ++ (b ++ c)) h1 ∙ append_assoc t0 a (b ++ c)

-- ---- one more of a range

range_from : (first k : ℕ) → range_with_len first (k + 1) ≡ range_with_len first k ++ (first + k) ∷ []
range_from first k = let more : suc k ≡ k + 1 = omega arith in ap (range_with_len first) (sym more) ∙ range_next first k

pub range_more : (k : ℕ) → range_with_len 0 (k + 1) ≡ range_with_len 0 k ++ k ∷ []
range_more k = let same : 0 + k ≡ k = omega arith in range_from 0 k ∙ ap (λ (j : ℕ). range_with_len 0 k ++ j ∷ []) same

pub summed_more : (f : ℕ → ℕ) (k : ℕ) → sum_by f (range_with_len 0 (k + 1)) ≡ sum_by f (range_with_len 0 k) + f k
summed_more f k = ap (sum_by f) (range_more k) ∙ sum_by_push f (range_with_len 0 k) k

-- what each number of a range gives, one after the other
pub gathered_from : {X : Type 0} (f : ℕ → List X) (old now new : List X) (first k : ℕ) → now ≡ old ++ flat_map f (range_with_len first k) → new ≡ now ++ f (first + k)
    → new ≡ old ++ flat_map f (range_with_len first (k + 1))
gathered_from f old now new first k so more =
    more ∙ ap (λ xs. xs ++ f (first + k)) so ∙ flat_map_more f old (range_with_len first k) (first + k) ∙ ap (λ ks. old ++ flat_map f ks) (sym (range_from first k))

pub gathered_more : {X : Type 0} (f : ℕ → List X) (old now new : List X) (k : ℕ) → now ≡ old ++ flat_map f (range_with_len 0 k) → new ≡ now ++ f k → new ≡ old ++ flat_map f (range_with_len 0 (k + 1))
gathered_more f old now new k so more = let same : k ≡ 0 + k = omega arith in gathered_from f old now new 0 k so (more ∙ ap (λ j. now ++ f j) same)

-- the same as an equation, for loops that add what each number gives
pub flat_from : {X : Type 0} (old : List X) (f : ℕ → List X) (first k : ℕ) → old ++ flat_map f (range_with_len first (k + 1)) ≡ (old ++ flat_map f (range_with_len first k)) ++ f (first + k)
flat_from old f first k = sym (gathered_from f old _ _ first k refl refl)

pub flat_more : {X : Type 0} (old : List X) (f : ℕ → List X) (k : ℕ) → old ++ flat_map f (range_with_len 0 (k + 1)) ≡ (old ++ flat_map f (range_with_len 0 k)) ++ f k
flat_more old f k = sym (gathered_more f old _ _ k refl refl)
