-- The figures after one more word.
use Rattle.std.proofs.Common.{◌≡◌, ℕ, ◌+◌, ◌-◌, ◌^◌, ◌<◌, ◌≤◌, List, [], ◌∷◌, ◌++◌, Bool, true, false, cond, length, map, refl, sym, ap, ◌∙◌, inl, inr, arith, length-append}
use Rattle.std.specs.Prelude.{count_by, filter, fold, if◌then◌else◌, max, min, not, ◌==◌}
use Rattle.std.proofs.lemmas.Bool.{cases_Bool}
use Rattle.std.proofs.lemmas.Bool.Decides.{nat_tests}
use Rattle.std.proofs.lemmas.List.{length-map, map-append}
use Rattle.std.proofs.lemmas.List.Sums.{count_by-le-length}
use Rattle.a429_word.specs.Bits.{has_odd_parity}
use Rattle.a429_survey.specs.declared.figures.Figures.{Figures}
use Rattle.a429_survey.specs.declared.figures.SsmCounts.{SsmCounts}
use Rattle.a429_survey.specs.Figures.{Noted, has_ssm, intervals, intervals_after, is_even, last_after, last_of, times_of}
use Rattle.a429_survey.specs.Kept.{counted, figures_of, figures_with, first_figures, least_of, next_figures, one_more, ssm_counts, ssm_with}

-- ---- lists with one more at the end

pub fold_more : {A B : Type 0} (f : B → A → B) (a : B) (xs : List A) (x : A) → fold f a (xs ++ x ∷ []) ≡ f (fold f a xs) x
fold_more f a [] x = refl
fold_more f a (y ∷ ys) x = fold_more f (f a y) ys x

pub filter_more : {A : Type 0} (p : A → Bool) (xs : List A) (x : A) (r : Bool) → p x ≡ r → filter p (xs ++ x ∷ []) ≡ cond r (filter p xs ++ x ∷ []) (filter p xs)
filter_more p [] x true h = rw h refl
filter_more p [] x false h = rw h refl
filter_more {A} p (y ∷ ys) x r h =
    elim (cases_Bool (p y)) [
      | inl passes ↦ rw passes (ap (λ (zs : List A). y ∷ zs) (filter_more p ys x r h) ∙ kept r y (filter p ys) x)
      | inr fails ↦ rw fails (filter_more p ys x r h)
    ]
  where
    kept : (r : Bool) (y : A) (zs : List A) (x : A) → y ∷ cond r (zs ++ x ∷ []) zs ≡ cond r (y ∷ zs ++ x ∷ []) (y ∷ zs)
    kept true y zs x = refl
    kept false y zs x = refl

pub last_more : (n m : ℕ) (ns : List ℕ) → last_after n (ns ++ m ∷ []) ≡ m
last_more n m [] = refl
last_more n m (k ∷ ks) = last_more k m ks

pub intervals_more : (t u : ℕ) (ts : List ℕ) → intervals_after t (ts ++ u ∷ []) ≡ intervals_after t ts ++ (u - last_after t ts) ∷ []
intervals_more t u [] = refl
intervals_more t u (s ∷ ts) = ap (λ (ns : List ℕ). (s - t) ∷ ns) (intervals_more s u ts)

count_more : (p : Noted → Bool) (ws : List Noted) (w : Noted) → count_by p (ws ++ w ∷ []) ≡ count_by p ws + cond (p w) 1 0
count_more p ws w = fold_more (λ (a : ℕ) (x : Noted). a + cond (p x) 1 0) 0 ws w

-- ---- each figure

even_more : (ws : List Noted) (w : Noted) → length ws < 2 ^ 64 - 1 → (if has_odd_parity w.raw then count_by is_even ws else one_more (count_by is_even ws)) ≡ count_by is_even (ws ++ w ∷ [])
even_more ws w few =
    let more = count_more is_even ws w in
    let small : count_by is_even ws ≤ length ws = count_by-le-length is_even ws in
    elim (cases_Bool (has_odd_parity w.raw)) [
      | inl odd ↦ let none : ◌≡◌ {A = ℕ} (cond (not (has_odd_parity w.raw)) 1 0) 0 = rw odd refl in rw odd (omega (arith, more, none))
      | inr even ↦ let one : ◌≡◌ {A = ℕ} (cond (not (has_odd_parity w.raw)) 1 0) 1 = rw even refl in rw even (omega (arith, more, one, small, few))
    ]

counted_more : (p : Noted → Bool) (ws : List Noted) (w : Noted) → length ws < 2 ^ 64 - 1 → counted (p w) (count_by p ws) ≡ count_by p (ws ++ w ∷ [])
counted_more p ws w few =
    let more = count_more p ws w in
    let small : count_by p ws ≤ length ws = count_by-le-length p ws in
    elim (cases_Bool (p w)) [
      | inl counts ↦ let one : ◌≡◌ {A = ℕ} (cond (p w) 1 0) 1 = rw counts refl in rw counts (omega (arith, more, one, small, few))
      | inr fails ↦ let none : ◌≡◌ {A = ℕ} (cond (p w) 1 0) 0 = rw fails refl in rw fails (omega (arith, more, none))
    ]

same_counts : (a b c d a' b' c' d' : ℕ) → a ≡ a' → b ≡ b' → c ≡ c' → d ≡ d'
    → ◌≡◌ {A = SsmCounts} record { zero = a; one = b; two = c; three = d } record { zero = a'; one = b'; two = c'; three = d' }
same_counts a b c d a' b' c' d' p q r s = rw (p, q, r, s) refl

ssm_more : (ws : List Noted) (w : Noted) → length ws < 2 ^ 64 - 1 → ssm_with w.raw (ssm_counts ws) ≡ ssm_counts (ws ++ w ∷ [])
ssm_more ws w few =
    same_counts _ _ _ _ _ _ _ _ (counted_more (has_ssm 0) ws w few) (counted_more (has_ssm 1) ws w few) (counted_more (has_ssm 2) ws w few) (counted_more (has_ssm 3) ws w few)

least_more : (t : ℕ) (ts : List ℕ) (interval count : ℕ) → count ≡ length ts + 1
    → (if count == 1 then interval else min (least_of (intervals_after t ts)) interval) ≡ least_of (intervals_after t ts ++ interval ∷ [])
least_more t [] interval count is = rw is refl
least_more t (u ∷ ts) interval count is =
    let several : (count == 1) ≡ false = grind (arith, nat_tests) in
    rw several (sym (fold_more min (u - t) (intervals_after u ts) interval))

same_figures : (a b c d e f g : ℕ) (h : SsmCounts) (a' b' c' d' e' f' g' : ℕ) (h' : SsmCounts) → a ≡ a' → b ≡ b' → c ≡ c' → d ≡ d' → e ≡ e' → f ≡ f' → g ≡ g' → h ≡ h'
    → ◌≡◌ {A = Figures} record { words = a; even = b; least = c; greatest = d; first = e; last = f; last_word = g; ssm = h }
    record { words = a'; even = b'; least = c'; greatest = d'; first = e'; last = f'; last_word = g'; ssm = h' }
same_figures a b c d e f g h a' b' c' d' e' f' g' h' p q r s t u v w = rw (p, q, r, s, t, u, v, w) refl

-- ---- all of them

next_are : (v : Noted) (vs : List Noted) (w : Noted) → length (v ∷ vs) < 2 ^ 64 - 1
    → next_figures (w.time - last_of (times_of (v ∷ vs))) w.time w.raw (figures_of (v ∷ vs)) ≡ figures_of (v ∷ vs ++ w ∷ [])
unfolding figures_of
next_are v vs w few =
    let interval : ℕ = w.time - last_of (times_of (v ∷ vs)) in
    let times : times_of (vs ++ w ∷ []) ≡ times_of vs ++ w.time ∷ [] = map-append (λ (x : Noted). x.time) vs (w ∷ []) in
    let raws : map (λ (x : Noted). x.raw) (vs ++ w ∷ []) ≡ map (λ (x : Noted). x.raw) vs ++ w.raw ∷ [] = map-append (λ (x : Noted). x.raw) vs (w ∷ []) in
    let ranges : intervals (times_of (v ∷ vs ++ w ∷ [])) ≡ intervals (times_of (v ∷ vs)) ++ interval ∷ [] =
    ap (intervals_after v.time) times ∙ intervals_more v.time w.time (times_of vs) in
    let long : length (v ∷ vs) ≡ length (times_of vs) + 1 = omega (arith, length-map vs (λ (x : Noted). x.time)) in
    same_figures _ _ _ _ _ _ _ _ _ _ _ _ _ _ _ _
    (omega (arith, few, length-append (v ∷ vs) (w ∷ [])))
    (even_more (v ∷ vs) w few)
    (least_more v.time (times_of vs) interval (length (v ∷ vs)) long ∙ ap least_of (sym ranges))
    (sym (fold_more max 0 (intervals (times_of (v ∷ vs))) interval) ∙ ap (fold max 0) (sym ranges))
    refl
    (sym (ap (last_after v.time) times ∙ last_more v.time w.time (times_of vs)))
    (sym (ap (last_after v.raw) raws ∙ last_more v.raw w.raw (map (λ (x : Noted). x.raw) vs)))
    (ssm_more (v ∷ vs) w few)

first_even : (w : Noted) → ◌≡◌ {A = ℕ} (if has_odd_parity w.raw then 0 else 1) (count_by is_even (w ∷ []))
first_even w =
    elim (cases_Bool (has_odd_parity w.raw)) [
      | inl odd ↦ rw odd refl
      | inr even ↦ rw even refl
    ]

first_are : (w : Noted) → first_figures w.time w.raw ≡ figures_of (w ∷ [])
unfolding figures_of
first_are w = same_figures _ _ _ _ _ _ _ _ _ _ _ _ _ _ _ _ refl (first_even w) refl refl refl refl refl (ssm_more [] w (omega arith))

with_next : (f : Figures) (time raw : ℕ) → (f.words == 0) ≡ false → figures_with time raw f ≡ next_figures (time - f.last) time raw f
with_next f time raw some = ap (λ (b : Bool). if b then first_figures time raw else next_figures (time - f.last) time raw f) some

pub figures_more : (ws : List Noted) (w : Noted) → length ws < 2 ^ 64 - 1 → figures_with w.time w.raw (figures_of ws) ≡ figures_of (ws ++ w ∷ [])
unfolding figures_of
figures_more [] w few = first_are w
figures_more (v ∷ vs) w few =
    let some : (length (v ∷ vs) == 0) ≡ false = grind (arith, nat_tests) in
    with_next (figures_of (v ∷ vs)) w.time w.raw some ∙ next_are v vs w few
