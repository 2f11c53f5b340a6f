-- First sends of words, and lists that are gathered place by place.
use Rattle.std.proofs.Common.{◌≡◌, ℕ, suc, ◌+◌, ◌-◌, ◌*◌, ◌<◌, ◌≤◌, List, [], ◌∷◌, ◌++◌, length, drop, get_or, Bool, true, false, true≢false, refl, sym, ap, subst, ◌∙◌, inl, inr, arith, append-nil, append_assoc}
use Rattle.std.specs.Prelude.{Option, Some, None, slice_get, flat_map, nat_lt, not, ◌&&◌}
use Rattle.std.specs.List.{position_or_len, range_with_len}
use Rattle.std.specs.Option.{option_map_or}
use Rattle.std.specs.List.Sorted.{IsNonDecreasingBy}
use Rattle.std.proofs.Math.Nat.{mul-le-mul_right}
use Rattle.std.proofs.lemmas.Bool.{cases_lt}
use Rattle.std.proofs.lemmas.Bool.Decides.{nat_tests}
use Rattle.std.proofs.lemmas.Grind.{flat_map-append}
use Rattle.std.proofs.lemmas.List.{get_or_default}
use Rattle.std.proofs.lemmas.List.Folds.{find_at}
use Rattle.std.proofs.lemmas.Option.{slice_get-get_or, slice_get_past}
use Rattle.std.proofs.lemmas.List.Sums.{fails_before_first, passes_at_first, prefix_len-le-length}
use Rattle.a429_word.proofs.Lists.{range_next}
use Rattle.a429_judge.specs.declared.facts.Facts.{Facts}
use Rattle.a429_judge.specs.declared.facts.Mark.{Mark}
use Rattle.a429_judge.specs.declared.facts.Span.{Span}
use Rattle.a429_judge.specs.Judging.{due_since, is_answered, is_in_reach, is_right, mark_at, no_mark, time_at}
use Rattle.a429_judge.specs.Figures.{answer_to, delay_of}
use Rattle.a429_judge.proofs.Scanning.{any_at, false_unless, none_at, right_from}

-- ---- lists that are gathered

flat_more : {X Y : Type 0} (f : X → List Y) (xs : List X) (x : X) → flat_map f (xs ++ x ∷ []) ≡ flat_map f xs ++ f x
flat_more {X} {Y} f xs x = flat_map-append f xs (x ∷ []) ∙ ap (λ (ys : List Y). flat_map f xs ++ ys) (append-nil (f x))

range_more : (n : ℕ) → range_with_len 0 (n + 1) ≡ range_with_len 0 n ++ n ∷ []
range_more n =
    let e : n + 1 ≡ suc n = omega arith in
    let f : 0 + n ≡ n = omega arith in
    ap (range_with_len 0) e ∙ range_next 0 n ∙ ap (λ (x : ℕ). range_with_len 0 n ++ x ∷ []) f

pub range_items : {Y : Type 0} (f : ℕ → List Y) (n : ℕ) (old now next : List Y) → now ≡ old ++ flat_map f (range_with_len 0 n) → next ≡ now ++ f n → next ≡ old ++ flat_map f (range_with_len 0 (n + 1))
range_items {Y} f n old now next now_is next_is =
    next_is ∙ ap (λ (rs : List Y). rs ++ f n) now_is ∙ append_assoc old (flat_map f (range_with_len 0 n)) (f n)
    ∙ ap (λ (rs : List Y). old ++ rs) (sym (ap (flat_map f) (range_more n) ∙ flat_more f (range_with_len 0 n) n))

-- ---- first places

pub first_within : {X : Type 0} (p : X → Bool) (xs : List X) → position_or_len p xs ≤ length xs
first_within p xs = prefix_len-le-length (λ x. not (p x)) xs

pub first_more : {X : Type 0} (p : X → Bool) (xs : List X) (k : ℕ) (d : X) → k ≤ position_or_len p xs → k < length xs → p (get_or xs k d) ≡ false → k + 1 ≤ position_or_len p xs
first_more p xs k d le lt fails = elim (cases_lt k (position_or_len p xs)) [
  | inl less ↦ omega (arith, less)
  | inr most ↦
      let same : position_or_len p xs ≡ k = omega (arith, le, most) in
      let passes : p (get_or xs (position_or_len p xs) d) ≡ true = passes_at_first p xs d (omega (arith, same, lt)) in
      absurd (true≢false (sym passes ∙ ap (λ (n : ℕ). p (get_or xs n d)) same ∙ fails))
]

pub first_here : {X : Type 0} (p : X → Bool) (xs : List X) (k : ℕ) (d : X) → k ≤ position_or_len p xs → p (get_or xs k d) ≡ true → k ≡ position_or_len p xs
first_here p xs k d le passes = elim (cases_lt k (position_or_len p xs)) [
  | inl less ↦ absurd (true≢false (sym passes ∙ fails_before_first p xs k d less))
  | inr most ↦ omega (arith, le, most)
]

pub first_none : {X : Type 0} (p : X → Bool) (xs : List X) (k : ℕ) → k ≤ position_or_len p xs → length xs ≤ k → k ≡ position_or_len p xs
first_none p xs k le most = omega (arith, le, most, first_within p xs)

-- if each element that passes the second test passes the first, the first place of the first test is no later
pub first_earlier : {X : Type 0} (p q : X → Bool) (xs : List X) (d : X) → ((x : X) → q x ≡ true → p x ≡ true) → position_or_len p xs ≤ position_or_len q xs
first_earlier p q xs d h = elim (cases_lt (position_or_len q xs) (position_or_len p xs)) [
  | inl less ↦
      let within : position_or_len q xs < length xs = omega (arith, less, first_within p xs) in
      let passes : q (get_or xs (position_or_len q xs) d) ≡ true = passes_at_first q xs d within in
      absurd (true≢false (sym (h (get_or xs (position_or_len q xs) d) passes) ∙ fails_before_first p xs (position_or_len q xs) d less))
  | inr most ↦ most
]

pub answer_stays : (f : Facts) (accepted sends : List Mark) (word answer : ℕ) → answer ≡ position_or_len (λ s. is_right f s (drop word accepted)) sends → answer ≤ position_or_len (λ s. is_right f s (drop (word + 1) accepted)) sends
answer_stays f accepted sends word answer is =
    let later = first_earlier (λ s. is_right f s (drop word accepted)) (λ s. is_right f s (drop (word + 1) accepted)) sends no_mark (λ s h. right_from f s word (word + 1) accepted (omega arith) h) in
    omega (arith, is, later)

-- ---- the first of the sends in order decides

reach_before : (f : Facts) (since t u : ℕ) → t ≤ u → is_in_reach f since u ≡ true → is_in_reach f since t ≡ true
reach_before f since t u le h =
    let product : t * f.rate ≤ u * f.rate = mul-le-mul_right f.rate le in
    grind (arith, nat_tests, product)

decides_at : (f : Facts) (span : Span) (accepted sends : List Mark) (word answer : ℕ) (b : Bool) → IsNonDecreasingBy (λ (s : Mark). s.time) sends → answer ≡ position_or_len (λ s. is_right f s (drop word accepted)) sends → answer < length sends
    → is_in_reach f (due_since span (mark_at accepted word)) (get_or sends answer no_mark).time ≡ b → is_answered f span accepted sends word ≡ b
decides_at f span accepted sends word answer true rise is lt reach =
    let right : is_right f (get_or sends answer no_mark) (drop word accepted) ≡ true =
    subst (λ (n : ℕ). is_right f (get_or sends n no_mark) (drop word accepted) ≡ true) (sym is) (passes_at_first (λ s. is_right f s (drop word accepted)) sends no_mark (omega (arith, is, lt))) in
    let both : (is_in_reach f (due_since span (mark_at accepted word)) (get_or sends answer no_mark).time && is_right f (get_or sends answer no_mark) (drop word accepted)) ≡ true = grind (arith, reach, right) in
    any_at (λ s. is_in_reach f (due_since span (mark_at accepted word)) s.time && is_right f s (drop word accepted)) sends answer no_mark lt both
decides_at f span accepted sends word answer false rise is lt reach =
    none_at (λ s. is_in_reach f (due_since span (mark_at accepted word)) s.time && is_right f s (drop word accepted)) sends (λ k d within. elim (cases_lt k answer) [
      | inl before ↦
          let wrong : is_right f (get_or sends k d) (drop word accepted) ≡ false = fails_before_first (λ s. is_right f s (drop word accepted)) sends k d (omega (arith, is, before)) in
          grind (arith, wrong)
      | inr after ↦
          let later : (get_or sends answer d).time ≤ (get_or sends k d).time = rise answer k d after within in
          let same : get_or sends answer d ≡ get_or sends answer no_mark = get_or_default sends answer d no_mark lt in
          let times : (get_or sends answer no_mark).time ≤ (get_or sends k d).time = subst (λ (m : Mark). m.time ≤ (get_or sends k d).time) same later in
          let far : is_in_reach f (due_since span (mark_at accepted word)) (get_or sends k d).time ≡ false =
          false_unless (is_in_reach f (due_since span (mark_at accepted word)) (get_or sends k d).time) (λ e. true≢false (sym (reach_before f (due_since span (mark_at accepted word)) (get_or sends answer no_mark).time (get_or sends k d).time times e) ∙ reach)) in
          grind (arith, far)
    ])

pub first_decides : (f : Facts) (span : Span) (accepted sends : List Mark) (word answer : ℕ) → IsNonDecreasingBy (λ (s : Mark). s.time) sends → answer ≡ position_or_len (λ s. is_right f s (drop word accepted)) sends → answer < length sends
    → is_in_reach f (due_since span (mark_at accepted word)) (get_or sends answer no_mark).time ≡ is_answered f span accepted sends word
first_decides f span accepted sends word answer rise is lt =
    sym (decides_at f span accepted sends word answer (is_in_reach f (due_since span (mark_at accepted word)) (get_or sends answer no_mark).time) rise is lt refl)

pub none_answers : (f : Facts) (span : Span) (accepted sends : List Mark) (word answer : ℕ) → answer ≡ position_or_len (λ s. is_right f s (drop word accepted)) sends → length sends ≤ answer → nat_lt answer (length sends) ≡ is_answered f span accepted sends word
none_answers f span accepted sends word answer is most =
    let none : is_answered f span accepted sends word ≡ false = none_at (λ s. is_in_reach f (due_since span (mark_at accepted word)) s.time && is_right f s (drop word accepted)) sends (λ k d within.
    let wrong : is_right f (get_or sends k d) (drop word accepted) ≡ false = fails_before_first (λ s. is_right f s (drop word accepted)) sends k d (omega (arith, is, within, most)) in
    grind (arith, wrong)) in
    grind (arith, nat_tests, none)

-- ---- how late words are sent

pub delayed_at : (f : Facts) (accepted sends : List Mark) (word answer : ℕ) → answer ≡ position_or_len (λ s. is_right f s (drop word accepted)) sends → answer < length sends
    → delay_of f accepted sends word ≡ ((get_or sends answer no_mark).time - time_at accepted word) ∷ []
delayed_at f accepted sends word answer is lt =
    let found : answer_to f accepted sends word ≡ Some (get_or sends answer no_mark) =
    find_at (λ s. is_right f s (drop word accepted)) sends ∙ ap (slice_get sends) (sym is) ∙ slice_get-get_or sends answer no_mark lt in
    ap (λ (o : Option Mark). option_map_or (λ s. (s.time - time_at accepted word) ∷ []) o []) found

pub not_delayed : (f : Facts) (accepted sends : List Mark) (word answer : ℕ) → answer ≡ position_or_len (λ s. is_right f s (drop word accepted)) sends → length sends ≤ answer
    → delay_of f accepted sends word ≡ []
not_delayed f accepted sends word answer is most =
    let none : answer_to f accepted sends word ≡ None =
    find_at (λ s. is_right f s (drop word accepted)) sends ∙ ap (slice_get sends) (sym is) ∙ slice_get_past sends answer most in
    ap (λ (o : Option Mark). option_map_or (λ s. (s.time - time_at accepted word) ∷ []) o []) none
