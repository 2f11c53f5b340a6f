-- Lists that arrays keep, and their running sums.
use Rattle.std.proofs.Common.{◌≡◌, ℕ, zero, suc, ◌+◌, ◌-◌, ◌<◌, ◌≤◌, List, [], ◌∷◌, ◌++◌, length, take, get_or, replicate, sum, refl, sym, ap, ◌∙◌, subst, arith, inl, inr, append_assoc, length-append}
use Rattle.std.specs.List.{All}
use Rattle.std.proofs.Math.ListN.{set, get_or-append}
use Rattle.std.proofs.Math.Seq.{set-append_seam, take-append_seam}
use Rattle.std.proofs.lemmas.Bool.{cases_lt}
use Rattle.std.proofs.lemmas.List.{take-take, take_more_set}
use Rattle.std.proofs.lemmas.List.Elements.{All-push}
use Rattle.std.proofs.lemmas.List.Sums.{sum_by-append, sum_by-cons, sum_by-take-le, sum_by_more}
use Rattle.a429_pack.specs.Kept.{padded, starts_from, AreKept, length-kept}
use Rattle.a429_pack.specs.Sums.{start_of, Holds}

-- ---- padded lists

pub padded-set : {A : Type 0} (d : A) (n : ℕ) (xs : List A) (x : A) → length xs < n → set (padded d n xs) (length xs) x ≡ padded d n (xs ++ x ∷ [])
padded-set d n xs x room =
    let rest : ℕ = n - length xs - 1 in
    let more : n - length xs ≡ suc rest = omega arith in
    let less : rest ≡ n - length (xs ++ x ∷ []) = omega (arith, length-append xs (x ∷ [])) in
    ap (λ k. set (xs ++ replicate k d) (length xs) x) more
    ∙ set-append_seam xs d (replicate rest d) x
    ∙ sym (append_assoc xs (x ∷ []) (replicate rest d))
    ∙ ap (λ k. (xs ++ x ∷ []) ++ replicate k d) less

pub padded-front : {A : Type 0} (d : A) (n : ℕ) (xs : List A) (k : ℕ) → length xs ≡ k → take k (padded d n xs) ≡ xs
padded-front d n xs k long = ap (λ j. take j (padded d n xs)) (sym long) ∙ take-append_seam xs (replicate (n - length xs) d)

-- ---- running sums

pub sum-push : (ds : List ℕ) (d : ℕ) → sum (ds ++ d ∷ []) ≡ sum ds + d
sum-push ds d =
    let one : sum (d ∷ []) ≡ d + sum [] = sum_by-cons (λ x. x) d [] in
    let none : sum [] ≡ 0 = refl in
    sum_by-append (λ x. x) ds (d ∷ []) ∙ omega (arith, one, none)

pub length-starts : (s : ℕ) (ds : List ℕ) → length (starts_from s ds) ≡ length ds
length-starts s [] = refl
length-starts s (d ∷ ds) = ap suc (length-starts (s + d) ds)

pub starts-push : (s : ℕ) (ds : List ℕ) (d : ℕ) → starts_from s (ds ++ d ∷ []) ≡ starts_from s ds ++ (s + sum ds) ∷ []
starts-push s [] d = let same : s ≡ s + 0 = omega arith in ap (λ n. n ∷ []) same
starts-push s (x ∷ ds) d =
    let same : s + x + sum ds ≡ s + sum (x ∷ ds) = omega (arith, sum_by-cons (λ x. x) x ds) in
    ap (λ xs. s ∷ xs) (starts-push (s + x) ds d ∙ ap (λ n. starts_from (s + x) ds ++ n ∷ []) same)

start_at : (s : ℕ) (ds : List ℕ) (i : ℕ) → i < length ds → get_or (starts_from s ds) i 0 ≡ s + start_of ds i
start_at s [] i below = absurd (omega arith)
start_at s (d ∷ ds) zero below = omega arith
start_at s (d ∷ ds) (suc i) below =
    start_at (s + d) ds i (omega arith) ∙ omega (arith, sum_by-cons (λ x. x) d (take i ds))

pub start_more : (ds : List ℕ) (i : ℕ) → i < length ds → start_of ds (i + 1) ≡ start_of ds i + get_or ds i 0
start_more ds i below = sum_by_more (λ x. x) ds i 0 below

-- stretches follow one another
pub start_rises : (ds : List ℕ) (i j : ℕ) → i ≤ j → start_of ds i ≤ start_of ds j
start_rises ds i j order = omega (arith, sum_by-take-le (λ x. x) (take j ds) i, ap sum (take-take i j ds order))

stretch_before : (ds : List ℕ) (x i j : ℕ) → Holds ds x i → Holds ds x j → i < j → ⊥
stretch_before ds x i j (inside, low, high) (there, after, end) order =
    omega (arith, start_more ds i inside, start_rises ds (i + 1) j (omega arith))

pub stretches_apart : (ds : List ℕ) (x i j : ℕ) → Holds ds x i → Holds ds x j → i ≡ j
stretches_apart ds x i j first second =
    elim (cases_lt i j) [
      | inl before ↦ absurd (stretch_before ds x i j first second before)
      | inr behind ↦ elim (cases_lt j i) [
        | inl after ↦ absurd (stretch_before ds x j i second first after)
        | inr same ↦ omega arith
      ]
    ]

pub stretch_within : (ds : List ℕ) (x i : ℕ) → Holds ds x i → x < sum ds
stretch_within ds x i (inside, low, high) = omega (arith, start_more ds i inside, sum_by-take-le (λ x. x) ds (i + 1))

-- ---- a table

-- what an array has in front is what it keeps
pub kept_read : {A : Type 0} (d : A) (n : ℕ) (xs : List A) (i : ℕ) → i < length xs → get_or (padded d n xs) i d ≡ get_or xs i d
kept_read d n xs i below = get_or-append xs (replicate (n - length xs) d) d i below

pub start_kept : (n : ℕ) (first second : List ℕ) (count end i : ℕ) → AreKept n first second count end → i < count → get_or second i 0 ≡ start_of (take count first) i
start_kept n first second count end i kept below =
    let long : length (take count first) ≡ count = length-kept 0 n first count kept.room kept.demands in
    ap (λ xs. get_or xs i 0) kept.starts
    ∙ kept_read 0 n (starts_from 0 (take count first)) i (omega (arith, length-starts 0 (take count first)))
    ∙ start_at 0 (take count first) i (omega arith)
    ∙ omega arith

pub kept_more : (n : ℕ) (first second : List ℕ) (count end d : ℕ) → AreKept n first second count end → count < n → length first ≡ n → 1 ≤ d
    → AreKept n (set first count d) (set second count end) (count + 1) (end + d)
kept_more n first second count end d kept room wide some =
    let ds : List ℕ = take count first in
    let long : length ds ≡ count = length-kept 0 n first count kept.room kept.demands in
    let more : take (count + 1) (set first count d) ≡ ds ++ d ∷ [] = take_more_set first count d (omega arith) in
    let behind : starts_from 0 (ds ++ d ∷ []) ≡ starts_from 0 ds ++ end ∷ [] =
    starts-push 0 ds d ∙ ap (λ s. starts_from 0 ds ++ s ∷ []) (omega (arith, kept.total)) in
    let place : length (starts_from 0 ds) ≡ count = length-starts 0 ds ∙ long in
    record {
      room = omega arith;
      demands = ap (λ xs. set xs count d) kept.demands ∙ ap (λ k. set (padded 0 n ds) k d) (sym long)
          ∙ padded-set 0 n ds d (omega arith) ∙ ap (padded 0 n) (sym more);
      starts = ap (λ xs. set xs count end) kept.starts ∙ ap (λ k. set (padded 0 n (starts_from 0 ds)) k end) (sym place)
          ∙ padded-set 0 n (starts_from 0 ds) end (omega arith) ∙ ap (padded 0 n) (sym behind) ∙ ap (λ xs. padded 0 n (starts_from 0 xs)) (sym more);
      total = omega (arith, kept.total, sum-push ds d, ap sum more);
      some = subst (All (λ x. 1 ≤ x)) (sym more) (All-push (λ x. 1 ≤ x) ds d kept.some some);
    }
