-- The slots of a right box, its sends and their intervals.
use Rattle.std.proofs.Common.{◌≡◌, ℕ, zero, suc, ◌+◌, ◌-◌, ◌*◌, ◌<◌, ◌≤◌, List, [], ◌∷◌, length, drop, get_or, Bool, true, false, true≢false, refl, sym, ap, ◌∙◌, inl, inr, ◌⊎◌, arith, length-drop}
use Rattle.std.specs.Prelude.{nat_lt, slice_get}
use Rattle.std.specs.List.{list_any}
use Rattle.std.specs.Option.{option_map_or}
use Rattle.std.proofs.Math.Nat.{mul-le-mul_right, mul-lt-mul_of_pos_right, le_of_mul-le-mul_right, one-le-mul}
use Rattle.std.proofs.lemmas.Bool.{cases_lt}
use Rattle.std.proofs.lemmas.Bool.Decides.{nat_tests}
use Rattle.std.proofs.lemmas.List.{get_or-drop, get_or_default}
use Rattle.a429_judge.specs.declared.facts.Facts.{Facts}
use Rattle.a429_judge.specs.declared.facts.Mark.{Mark}
use Rattle.a429_judge.specs.declared.facts.Span.{Span}
use Rattle.a429_judge.specs.Judging.{is_by, is_known, is_past, is_right, is_twice, mark_at, no_mark, time_at, value_findings}
use Rattle.a429_judge.specs.Laws.{AreNear, ArePlanned, AreSlots, IsRightBox, length_of}
use Rattle.a429_judge.proofs.Scanning.{any_at, false_unless, right_here, none_at, right_from, right_value, step_at, twice_from, unknown_value}

-- ---- windows in finer units

pub not_past : (f : Facts) (finer t : ℕ) (a : Mark) → 1 ≤ finer → t * (f.rate * finer) ≤ (a.time + f.tolerance) * (f.rate * finer) + 36000000 * finer → is_past f t a ≡ false
not_past f finer t a fine le = false_unless (is_past f t a) (λ e.
    let before : (a.time + f.tolerance) * f.rate + 36000000 < t * f.rate = grind (arith, nat_tests, e) in
    let product : ((a.time + f.tolerance) * f.rate + 36000000) * finer < t * f.rate * finer = mul-lt-mul_of_pos_right before fine in
    omega (arith, product, le))

pub by_end : (f : Facts) (units t : ℕ) (a : Mark) → 1 ≤ units → a.time * units ≤ (t + f.tolerance) * units → a.time ≤ t + f.tolerance
by_end f units t a some le = le_of_mul-le-mul_right le some

-- ---- words

-- a word is right by the place of an accepted one
pub right_at : (f : Facts) (s : Mark) (xs : List Mark) (i p : ℕ) → i ≤ p → p < length xs → (mark_at xs p).raw ≡ s.raw → is_by f s.time (mark_at xs p) ≡ true
    → ((j : ℕ) → p < j → j < length xs → is_past f s.time (mark_at xs j) ≡ false) → is_right f s (drop i xs) ≡ true
right_at f s xs i p le lt raw by past =
    let none : list_any (is_past f s.time) (drop (p + 1) xs) ≡ false = none_at (is_past f s.time) (drop (p + 1) xs) (λ k d within.
    let inside : p + 1 + k < length xs = omega (arith, within, length-drop (p + 1) xs) in
    let at : get_or (drop (p + 1) xs) k d ≡ get_or xs (p + 1 + k) no_mark = get_or-drop (p + 1) xs k d ∙ get_or_default xs (p + 1 + k) d no_mark inside in
    ap (is_past f s.time) at ∙ past (p + 1 + k) (omega arith) inside) in
    right_from f s i p xs le (right_here f s no_mark xs p (p + 1) refl (omega (arith, lt)) raw by none)

-- two places of a list pass a test
pub twice_at : (test : Mark → Bool) (xs : List Mark) (m p q : ℕ) → m ≤ p → p < q → q < length xs → test (mark_at xs p) ≡ true → test (mark_at xs q) ≡ true → is_twice test (drop m xs) ≡ true
twice_at test xs m p q le less lt at_p at_q =
    let sum : p + 1 + (q - (p + 1)) ≡ q = omega (arith, less) in
    let later : test (get_or (drop (p + 1) xs) (q - (p + 1)) no_mark) ≡ true = ap test (get_or-drop (p + 1) xs (q - (p + 1)) no_mark ∙ ap (λ (n : ℕ). get_or xs n no_mark) sum) ∙ at_q in
    let any : list_any test (drop (p + 1) xs) ≡ true = any_at test (drop (p + 1) xs) (q - (p + 1)) no_mark (omega (arith, lt, less, length-drop (p + 1) xs)) later in
    let here : is_twice test (drop p xs) ≡ true = rw (step_at xs p (p + 1) no_mark refl (omega (arith, less, lt))) (rw at_p (rw any refl)) in
    twice_from test m p xs le here

-- ---- slots

-- slots do not go back, and each is later than the one before
pub slots_grow : (f : Facts) (finer wrong drift : ℕ) (begin : ℕ → ℕ) (n d : ℕ) → AreNear f finer wrong drift → AreSlots f finer drift begin → begin n + d ≤ begin (n + d)
slots_grow f finer wrong drift begin n zero near s = let e : n ≡ n + 0 = omega arith in let g = ap begin e in omega (arith, g)
slots_grow f finer wrong drift begin n (suc d) near s =
    let rest = slots_grow f finer wrong drift begin n d near s in
    let next = s.soonest (n + d) in
    let e : n + d + 1 ≡ n + suc d = omega arith in
    let g = ap begin e in
    omega (arith, rest, next, near.slower, g)

pub slots_rise : (f : Facts) (finer wrong drift : ℕ) (begin : ℕ → ℕ) (m n : ℕ) → AreNear f finer wrong drift → AreSlots f finer drift begin → m ≤ n → begin m ≤ begin n
slots_rise f finer wrong drift begin m n near s le =
    let grow = slots_grow f finer wrong drift begin m (n - m) near s in
    let e : m + (n - m) ≡ n = omega (arith, le) in
    let g = ap begin e in
    omega (arith, grow, g)

-- a slot later than another begins a period later, less the drift
pub slots_apart : (f : Facts) (finer wrong drift : ℕ) (begin : ℕ → ℕ) (m n : ℕ) → AreNear f finer wrong drift → AreSlots f finer drift begin → m < n → begin m + length_of f finer ≤ begin n + drift
slots_apart f finer wrong drift begin m n near s lt =
    let next = s.soonest m in
    let rise = slots_rise f finer wrong drift begin (m + 1) n near s (omega (arith, lt)) in
    omega (arith, next, rise)

-- slots that are d periods apart
pub slots_far : (f : Facts) (finer wrong drift : ℕ) (begin : ℕ → ℕ) (m d : ℕ) → AreNear f finer wrong drift → AreSlots f finer drift begin → begin m + d * (length_of f finer - drift) ≤ begin (m + d)
slots_far f finer wrong drift begin m zero near s = let e : m ≡ m + 0 = omega arith in let g = ap begin e in omega (arith, g)
slots_far f finer wrong drift begin m (suc d) near s =
    let rest = slots_far f finer wrong drift begin m d near s in
    let next = s.soonest (m + d) in
    let e : m + d + 1 ≡ m + suc d = omega arith in
    let g = ap begin e in
    let slower = near.slower in
    omega (arith, rest, next, g, slower)

-- the first slot from one on that is at or after a moment
pub record IsFirstSlot (begin : ℕ → ℕ) (x from n : ℕ) : Type 0 where
  pub least : from ≤ n
  pub reached : x ≤ begin n
  pub first : (n ≡ from) ⊎ ((from < n) × (begin (n - 1) < x))

pub first_after : (begin : ℕ → ℕ) (x from n : ℕ) → begin from < x → IsFirstSlot begin x (from + 1) n → IsFirstSlot begin x from n
first_after begin x from n before s = record {
  least = omega (arith, s.least);
  reached = s.reached;
  first = elim s.first [
    | inl is ↦
        let e : n - 1 ≡ from = omega (arith, is) in
        let g = ap begin e in
        inr (omega (arith, is), omega (arith, before, g))
    | inr later ↦ inr (omega (arith, later.0), later.1)
  ];
}

pub first_slot : (begin : ℕ → ℕ) (x from d : ℕ) → x ≤ begin (from + d) → (n : ℕ) × IsFirstSlot begin x from n
first_slot begin x from zero le =
    let e : from + 0 ≡ from = omega arith in
    let g = ap begin e in
    (from, record { least = omega arith; reached = omega (arith, le, g); first = inl refl })
first_slot begin x from (suc d) le = elim (cases_lt (begin from) x) [
  | inl before ↦
      let e : from + suc d ≡ from + 1 + d = omega arith in
      let g = ap begin e in
      let rest = first_slot begin x (from + 1) d (omega (arith, le, g)) in
      (rest.0, first_after begin x from rest.0 before rest.1)
  | inr after ↦ (from, record { least = omega arith; reached = after; first = inl refl })
]

-- ---- the sends of a right box

pub some_units : (f : Facts) (span : Span) (accepted sends : List Mark) → ArePlanned f → (b : IsRightBox f span accepted sends) → 1 ≤ f.rate * b.finer
some_units f span accepted sends plan b = one-le-mul plan.rate b.near.fine

pub word_by : (f : Facts) (span : Span) (accepted sends : List Mark) (k : ℕ) → ArePlanned f → (b : IsRightBox f span accepted sends) → k < length sends → time_at b.words (b.word k) ≤ time_at sends k + f.tolerance
word_by f span accepted sends k plan b lt =
    let since = b.since k lt in
    let early = b.early k lt in
    let time = b.piece.late (b.word k) (b.known k lt) in
    let bounded = b.near.bounded in
    by_end f (f.rate * b.finer) (time_at sends k) (mark_at b.words (b.word k)) (some_units f span accepted sends plan b) (omega (arith, since, early, time, bounded))

pub later_not_past : (f : Facts) (span : Span) (accepted sends : List Mark) (k j : ℕ) → (b : IsRightBox f span accepted sends) → k < length sends → b.word k < j → j < length b.words → is_past f (time_at sends k) (mark_at b.words j) ≡ false
later_not_past f span accepted sends k j b lt more within =
    let until = b.until k j lt more within in
    let late = b.late k lt in
    let time = b.piece.early j within in
    let bounded = b.near.bounded in
    let short = b.short in
    not_past f b.finer (time_at sends k) (mark_at b.words j) b.near.fine (omega (arith, until, late, time, bounded, short))

-- the place of a word in the log
pub record IsLogged (f : Facts) (span : Span) (accepted sends : List Mark) (b : IsRightBox f span accepted sends) (k : ℕ) : Type 0 where
  pub least : b.piece.skipped ≤ b.word k
  pub most : b.word k < b.piece.skipped + length accepted

pub same_at : (f : Facts) (span : Span) (accepted sends : List Mark) (b : IsRightBox f span accepted sends) (j : ℕ) → b.piece.skipped ≤ j → j < b.piece.skipped + length accepted
    → mark_at accepted (j - b.piece.skipped) ≡ mark_at b.words j
same_at f span accepted sends b j least most =
    let e : b.piece.skipped + (j - b.piece.skipped) ≡ j = omega (arith, least) in
    b.piece.same (j - b.piece.skipped) (omega (arith, least, most)) ∙ ap (mark_at b.words) e

-- a word that was accepted by a moment before the end of the log is not after its piece
pub is_before_rest : (f : Facts) (span : Span) (accepted sends : List Mark) (b : IsRightBox f span accepted sends) (j : ℕ) → j < length b.words → time_at b.words j < span.heard → j < b.piece.skipped + length accepted
is_before_rest f span accepted sends b j within before = elim (cases_lt j (b.piece.skipped + length accepted)) [
  | inl less ↦ less
  | inr more ↦ let rest = b.piece.rest j more within in absurd {A = j < b.piece.skipped + length accepted} (omega (arith, rest, before))
]

pub first_known : (f : Facts) (t : ℕ) (xs : List Mark) → option_map_or (is_past f t) (slice_get xs 0) false ≡ true → (0 < length xs) × (is_past f t (mark_at xs 0) ≡ true)
first_known f t [] h = absurd (true≢false (sym h))
first_known f t (x ∷ xs) h = (omega arith, h)

pub known_parts : (f : Facts) (span : Span) (xs : List Mark) (t : ℕ) → is_known f span xs t ≡ true → (0 < length xs) × (is_past f t (mark_at xs 0) ≡ true) × (t + f.tolerance < span.heard)
known_parts f span xs t h =
    let first : option_map_or (is_past f t) (slice_get xs 0) false ≡ true = grind (arith, h) in
    let end : nat_lt (t + f.tolerance) span.heard ≡ true = grind (arith, h) in
    let parts = first_known f t xs first in
    (parts.0, parts.1, grind (arith, nat_tests, end))

pub known_is_logged : (f : Facts) (span : Span) (accepted sends : List Mark) (k : ℕ) → ArePlanned f → (b : IsRightBox f span accepted sends) → k < length sends → is_known f span accepted (time_at sends k) ≡ true → IsLogged f span accepted sends b k
known_is_logged f span accepted sends k plan b lt h =
    let parts = known_parts f span accepted (time_at sends k) h in
    let by = word_by f span accepted sends k plan b lt in record {
      least = elim (cases_lt (b.word k) b.piece.skipped) [
        | inl less ↦
            let within : b.piece.skipped < length b.words = omega (arith, parts.0, b.piece.within) in
            let e : b.piece.skipped + 0 ≡ b.piece.skipped = omega arith in
            let at : mark_at accepted 0 ≡ mark_at b.words b.piece.skipped = b.piece.same 0 parts.0 ∙ ap (mark_at b.words) e in
            let out : is_past f (time_at sends k) (mark_at accepted 0) ≡ false = ap (is_past f (time_at sends k)) at ∙ later_not_past f span accepted sends k b.piece.skipped b lt less within in
            absurd (true≢false (sym parts.1 ∙ out))
        | inr most ↦ most
      ];
      most = is_before_rest f span accepted sends b (b.word k) (b.known k lt) (omega (arith, by, parts.2));
    }

-- a send of a word in the log is right
pub logged_right : (f : Facts) (span : Span) (accepted sends : List Mark) (k i : ℕ) → ArePlanned f → (b : IsRightBox f span accepted sends) → k < length sends → IsLogged f span accepted sends b k → i ≤ b.word k - b.piece.skipped
    → is_right f (mark_at sends k) (drop i accepted) ≡ true
logged_right f span accepted sends k i plan b lt l le =
    let place = b.word k - b.piece.skipped in
    let same : mark_at accepted place ≡ mark_at b.words (b.word k) = same_at f span accepted sends b (b.word k) l.least l.most in
    let times = ap (λ (m : Mark). m.time) same in
    let raws : (mark_at accepted place).raw ≡ (mark_at sends k).raw = ap (λ (m : Mark). m.raw) same ∙ b.same k lt in
    let by_word = word_by f span accepted sends k plan b lt in
    let by : time_at accepted place ≤ time_at sends k + f.tolerance = omega (arith, times, by_word) in
    right_at f (mark_at sends k) accepted i place le (omega (arith, l.least, l.most)) raws (grind (arith, nat_tests, by)) (λ j more within.
    ap (is_past f (time_at sends k)) (b.piece.same j within)
    ∙ later_not_past f span accepted sends k (b.piece.skipped + j) b lt (omega (arith, more, l.least)) (omega (arith, within, b.piece.within)))

pub right_if_known : (f : Facts) (span : Span) (accepted sends : List Mark) (k : ℕ) (known : Bool) → ArePlanned f → (b : IsRightBox f span accepted sends) → k < length sends → is_known f span accepted (time_at sends k) ≡ known → value_findings f span accepted (mark_at sends k) ≡ []
right_if_known f span accepted sends k true plan b lt e =
    right_value f span (mark_at sends k) accepted (logged_right f span accepted sends k 0 plan b lt (known_is_logged f span accepted sends k plan b lt e) (omega arith))
right_if_known f span accepted sends k false plan b lt e = unknown_value f span (mark_at sends k) accepted e

-- ---- intervals

pub not_soon : (f : Facts) (span : Span) (accepted sends : List Mark) (k : ℕ) → ArePlanned f → (b : IsRightBox f span accepted sends) → k + 1 < length sends → time_at sends k + f.least ≤ time_at sends (k + 1) + f.tolerance
not_soon f span accepted sends k plan b lt =
    let here : k < length sends = omega (arith, lt) in
    let apart = slots_apart f b.finer b.wrong b.drift b.begin (b.slot k) (b.slot (k + 1)) b.near b.slots (b.in_order k lt) in
    let late = b.late k here in
    let early = b.early (k + 1) lt in
    let bounded = b.near.bounded in
    let least : f.least * f.rate * b.finer ≤ f.period * 36000000 * b.finer = mul-le-mul_right b.finer plan.least in
    let all : (time_at sends k + f.least) * (f.rate * b.finer) ≤ (time_at sends (k + 1) + f.tolerance) * (f.rate * b.finer) = omega (arith, apart, late, early, least, bounded) in
    le_of_mul-le-mul_right all (some_units f span accepted sends plan b)

-- a time that is at most as late as the record of the slot after a send
pub within_reach : (f : Facts) (span : Span) (accepted sends : List Mark) (k t : ℕ) → ArePlanned f → (b : IsRightBox f span accepted sends) → k < length sends → t * (f.rate * b.finer) ≤ b.begin (b.slot k + 1) + b.delay + b.wrong
    → t ≤ time_at sends k + f.greatest + f.tolerance
within_reach f span accepted sends k t plan b lt le =
    let next = b.slots.latest (b.slot k) in
    let early = b.early k lt in
    let bounded = b.near.bounded in
    let greatest : f.period * 36000000 * b.finer ≤ f.greatest * f.rate * b.finer = mul-le-mul_right b.finer plan.greatest in
    let all : t * (f.rate * b.finer) ≤ (time_at sends k + f.greatest + f.tolerance) * (f.rate * b.finer) = omega (arith, le, next, early, greatest, bounded) in
    le_of_mul-le-mul_right all (some_units f span accepted sends plan b)
