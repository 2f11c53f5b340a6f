-- Accepted words within the windows of sends.
use Rattle.std.proofs.Common.{◌≡◌, ℕ, zero, suc, ◌+◌, ◌-◌, ◌*◌, ◌<◌, ◌≤◌, List, [], ◌∷◌, length, drop, get_or, Bool, true, false, refl, sym, ap, subst, ◌∙◌, inl, inr, ◌⊎◌, arith, true≢false, length-drop, drop-cons}
use Rattle.std.specs.Prelude.{◌++◌, if◌then◌else◌, nat_le, nat_lt, not, ◌&&◌, ◌||◌, ◌==◌}
use Rattle.std.specs.List.{list_any, position_or_len}
use Rattle.std.specs.List.Sorted.{IsNonDecreasingBy, IsPartitionPoint, IsPartitionedBy}
use Rattle.std.proofs.Math.Nat.{mul-le-mul_right}
use Rattle.std.proofs.lemmas.Bool.{lt-ltb, cases_lt}
use Rattle.std.proofs.lemmas.Bool.Decides.{nat_tests}
use Rattle.std.proofs.lemmas.List.{get_or-drop}
use Rattle.std.proofs.lemmas.List.Sums.{position_or_len_is}
use Rattle.std.proofs.lemmas.List.Sorted.{IsPartitionedBy-leb}
use Rattle.a429_judge.specs.declared.facts.Facts.{Facts}
use Rattle.a429_judge.specs.declared.facts.Mark.{Mark}
use Rattle.a429_judge.specs.declared.facts.Span.{Span}
use Rattle.a429_judge.specs.declared.findings.Kind.TheVariants.{Wrong, Stale}
use Rattle.a429_judge.specs.Judging.{finding_if, has_room, is_accepted, is_before_next, is_by, is_equal, is_known, is_of_one, is_past, is_right, is_stale, is_twice, is_wrong, may_be_used_up, no_mark, since, time_at, value_findings}

pub false_unless : (b : Bool) → (b ≡ true → ⊥) → b ≡ false
false_unless true h = absurd (h refl)
false_unless false h = refl

pub or_cases : (a b : Bool) → (a || b) ≡ true → (a ≡ true) ⊎ (b ≡ true)
or_cases true b h = inl refl
or_cases false b h = inr h

or_none : (a b : Bool) → (a || b) ≡ false → (a ≡ false) × (b ≡ false)
or_none true b h = absurd (true≢false h)
or_none false b h = (refl, h)

or_false : (b : Bool) → (b || false) ≡ b
or_false true = refl
or_false false = refl

drop_none : (k : ℕ) → ◌≡◌ {A = List Mark} (drop k []) []
drop_none zero = refl
drop_none (suc k) = refl

-- what is left from a place on begins with the element there
pub step_at : {X : Type 0} (xs : List X) (k n : ℕ) (d : X) → k + 1 ≡ n → n ≤ length xs → drop k xs ≡ get_or xs k d ∷ drop n xs
step_at {X} xs k n d e le =
    let lt : k < length xs = omega arith in
    let same : suc k ≡ n = omega arith in
    drop-cons xs k d lt ∙ ap (λ (m : ℕ). get_or xs k d ∷ drop m xs) same

pub parted_by : (f : Facts) (t : ℕ) (xs : List Mark) → IsNonDecreasingBy (λ (a : Mark). a.time) xs → IsPartitionedBy (is_by f t) xs
parted_by f t xs rise = IsPartitionedBy-leb (λ (a : Mark). a.time) xs (t + f.tolerance) rise

-- an earlier word is before a window too
past_before : (f : Facts) (t : ℕ) (a b : Mark) → a.time ≤ b.time → is_past f t b ≡ true → is_past f t a ≡ true
past_before f t a b le h =
    let less : a.time + f.tolerance ≤ b.time + f.tolerance = omega arith in
    let product : (a.time + f.tolerance) * f.rate ≤ (b.time + f.tolerance) * f.rate = mul-le-mul_right f.rate less in
    grind (arith, nat_tests, product)

pub parted_past : (f : Facts) (t : ℕ) (xs : List Mark) → IsNonDecreasingBy (λ (a : Mark). a.time) xs → IsPartitionedBy (is_past f t) xs
parted_past f t xs rise = λ i j d le lt h. past_before f t (get_or xs i d) (get_or xs j d) (rise i j d le lt) h

-- what is before a window is by its end
pub past_by : (f : Facts) (t : ℕ) (a : Mark) → is_by f t a ≡ false → is_past f t a ≡ false
past_by f t a h =
    let more : t ≤ a.time + f.tolerance = grind (arith, nat_tests) in
    let product : t * f.rate ≤ (a.time + f.tolerance) * f.rate = mul-le-mul_right f.rate more in
    grind (arith, nat_tests, product)

-- an earlier word may be used up if a later one may
by_before : (f : Facts) (t : ℕ) (a b : Mark) → a.time ≤ b.time → is_by f t b ≡ true → is_by f t a ≡ true
by_before f t a b le h = grind (arith, nat_tests, le, h)

room_before : (f : Facts) (hold t : ℕ) (a b : Mark) → a.time ≤ b.time → has_room f hold t b ≡ true → has_room f hold t a ≡ true
room_before f hold t a b le h =
    let product : a.time * f.rate ≤ b.time * f.rate = mul-le-mul_right f.rate le in
    grind (arith, nat_tests, product, h)

used_before : (f : Facts) (t first hold last : ℕ) (a b : Mark) (test : Bool) → a.time ≤ b.time → (if test then is_by f t b else is_by f first b && has_room f hold last b) ≡ true
    → (if test then is_by f t a else is_by f first a && has_room f hold last a) ≡ true
used_before f t first hold last a b true le h = by_before f t a b le h
used_before f t first hold last a b false le h =
    let by : is_by f first b ≡ true = grind (arith, h) in
    let room : has_room f hold last b ≡ true = grind (arith, h) in
    let by_a : is_by f first a ≡ true = by_before f first a b le by in
    let room_a : has_room f hold last a ≡ true = room_before f hold last a b le room in
    grind (arith, by_a, room_a)

pub parted_used : (f : Facts) (span : Span) (sends : List Mark) (k hold : ℕ) (xs : List Mark) → IsNonDecreasingBy (λ (a : Mark). a.time) xs → IsPartitionedBy (may_be_used_up f span sends k hold) xs
parted_used f span sends k hold xs rise = λ i j d le lt h.
    used_before f (time_at sends (k - hold)) span.first hold (time_at sends (k - 1)) (get_or xs i d) (get_or xs j d) (nat_le hold k) (rise i j d le lt) h

-- ---- scanning back

-- none of these words is by the end of the window
pub none_by : (f : Facts) (s : Mark) (xs : List Mark) → ((k : ℕ) (d : Mark) → k < length xs → is_by f s.time (get_or xs k d) ≡ false) → (is_right f s xs ≡ false) × (list_any (is_past f s.time) xs ≡ false)
none_by f s [] h = (refl, refl)
none_by f s (x ∷ xs) h =
    let first : is_by f s.time x ≡ false = h 0 x (omega arith) in
    let past : is_past f s.time x ≡ false = past_by f s.time x first in
    let rest = none_by f s xs (λ k d lt. h (suc k) d (omega arith)) in
    let right : is_right f s xs ≡ false = rest.0 in
    let others : list_any (is_past f s.time) xs ≡ false = rest.1 in
    (grind (arith, first, right), grind (arith, past, others))

pub none_from : (f : Facts) (s : Mark) (xs : List Mark) (n : ℕ) → ((k : ℕ) (d : Mark) → n ≤ k → k < length xs → is_by f s.time (get_or xs k d) ≡ false) → (is_right f s (drop n xs) ≡ false) × (list_any (is_past f s.time) (drop n xs) ≡ false)
none_from f s xs n h =
    none_by f s (drop n xs) (λ k d lt.
    let within : n + k < length xs = omega (arith, lt, length-drop n xs) in
    let late : is_by f s.time (get_or xs (n + k) d) ≡ false = h (n + k) d (omega arith) within in
    subst (λ (m : Mark). is_by f s.time m ≡ false) (sym (get_or-drop n xs k d)) late)

pub drop_later : (n k : ℕ) (xs : List Mark) → drop (n + k) xs ≡ drop k (drop n xs)
drop_later zero k xs = let e : zero + k ≡ k = omega arith in ap (λ (n : ℕ). drop n xs) e
drop_later (suc n) k [] = let e : suc n + k ≡ suc (n + k) = omega arith in ap (λ (m : ℕ). drop m []) e ∙ sym (drop_none k)
drop_later (suc n) k (x ∷ xs) = let e : suc n + k ≡ suc (n + k) = omega arith in ap (λ (m : ℕ). drop m (x ∷ xs)) e ∙ drop_later n k xs

right_of_drop : (f : Facts) (s : Mark) (k : ℕ) (xs : List Mark) → is_right f s (drop k xs) ≡ true → is_right f s xs ≡ true
right_of_drop f s zero xs h = h
right_of_drop f s (suc k) [] h = h
right_of_drop f s (suc k) (x ∷ xs) h = let rest : is_right f s xs ≡ true = right_of_drop f s k xs h in grind (arith, rest)

pub any_of_drop : (p : Mark → Bool) (k : ℕ) (xs : List Mark) → list_any p (drop k xs) ≡ true → list_any p xs ≡ true
any_of_drop p zero xs h = h
any_of_drop p (suc k) [] h = h
any_of_drop p (suc k) (x ∷ xs) h = let rest : list_any p xs ≡ true = any_of_drop p k xs h in grind (arith, rest)

stopped : (f : Facts) (s : Mark) (k : ℕ) (xs : List Mark) → list_any (is_past f s.time) (drop k xs) ≡ true → is_right f s (drop k xs) ≡ false → is_right f s xs ≡ false
stopped f s zero xs h r = r
stopped f s (suc k) [] h r = r
stopped f s (suc k) (x ∷ xs) h r =
    let rest : is_right f s xs ≡ false = stopped f s k xs h r in
    let past : list_any (is_past f s.time) xs ≡ true = any_of_drop (is_past f s.time) k xs h in
    grind (arith, rest, past)

-- from a later place on it is right, so it is from this one on
pub right_from : (f : Facts) (s : Mark) (n m : ℕ) (xs : List Mark) → n ≤ m → is_right f s (drop m xs) ≡ true → is_right f s (drop n xs) ≡ true
right_from f s n m xs le h =
    let sum : n + (m - n) ≡ m = omega (arith, le) in
    right_of_drop f s (m - n) (drop n xs) (subst (λ (ys : List Mark). is_right f s ys ≡ true) (drop_later n (m - n) xs) (subst (λ (k : ℕ). is_right f s (drop k xs) ≡ true) (sym sum) h))

-- it is not, so it is not from a later place on
pub wrong_later : (f : Facts) (s : Mark) (n m : ℕ) (xs : List Mark) → n ≤ m → is_right f s (drop n xs) ≡ false → is_right f s (drop m xs) ≡ false
wrong_later f s n m xs le h = false_unless (is_right f s (drop m xs)) (λ e. true≢false (sym (right_from f s n m xs le e) ∙ h))

pub stopped_from : (f : Facts) (s : Mark) (n m : ℕ) (xs : List Mark) → n ≤ m → list_any (is_past f s.time) (drop m xs) ≡ true → is_right f s (drop m xs) ≡ false → is_right f s (drop n xs) ≡ false
stopped_from f s n m xs le h r =
    let sum : n + (m - n) ≡ m = omega (arith, le) in
    let same : drop m xs ≡ drop (m - n) (drop n xs) = sym (ap (λ (k : ℕ). drop k xs) sum) ∙ drop_later n (m - n) xs in
    stopped f s (m - n) (drop n xs) (subst (λ (ys : List Mark). list_any (is_past f s.time) ys ≡ true) same h) (subst (λ (ys : List Mark). is_right f s ys ≡ false) same r)

-- what is right was accepted
right_accepted : (f : Facts) (s : Mark) (xs : List Mark) → is_right f s xs ≡ true → is_accepted f xs s ≡ true
right_accepted f s [] h = absurd (true≢false (sym h))
right_accepted f s (x ∷ xs) h = elim (or_cases (is_equal f s x && not (list_any (is_past f s.time) xs)) (is_right f s xs) h) [
  | inl here ↦ grind (arith, here)
  | inr later ↦ let rest : is_accepted f xs s ≡ true = right_accepted f s xs later in grind (arith, rest)
]

-- nothing is found of a word that the log does not know
pub unknown_value : (f : Facts) (span : Span) (s : Mark) (xs : List Mark) → is_known f span xs s.time ≡ false → value_findings f span xs s ≡ []
unknown_value f span s xs u = rw u refl

value_by : (f : Facts) (s : Mark) (xs : List Mark) (known : Bool) → is_right f s xs ≡ true → (if known then finding_if (is_wrong f xs s) Wrong s ++ finding_if (is_stale f xs s) Stale s else []) ≡ []
value_by f s xs true h =
    let accepted : is_accepted f xs s ≡ true = right_accepted f s xs h in
    rw accepted (rw h refl)
value_by f s xs false h = refl

pub right_value : (f : Facts) (span : Span) (s : Mark) (xs : List Mark) → is_right f s xs ≡ true → value_findings f span xs s ≡ []
right_value f span s xs h = value_by f s xs (is_known f span xs s.time) h

pub wrong_value : (f : Facts) (span : Span) (s : Mark) (xs : List Mark) → is_known f span xs s.time ≡ true → is_right f s xs ≡ false → is_accepted f xs s ≡ false → value_findings f span xs s ≡ record { kind = Wrong; mark = s } ∷ []
wrong_value f span s xs u r h = rw u (rw h refl)

pub stale_value : (f : Facts) (span : Span) (s : Mark) (xs : List Mark) → is_known f span xs s.time ≡ true → is_right f s xs ≡ false → is_accepted f xs s ≡ true → value_findings f span xs s ≡ record { kind = Stale; mark = s } ∷ []
stale_value f span s xs u r h = rw u (rw h (rw r refl))

-- ---- one step back

pub right_here : (f : Facts) (s d : Mark) (xs : List Mark) (k n : ℕ) → k + 1 ≡ n → n ≤ length xs → (get_or xs k d).raw ≡ s.raw → is_by f s.time (get_or xs k d) ≡ true → list_any (is_past f s.time) (drop n xs) ≡ false → is_right f s (drop k xs) ≡ true
right_here f s d xs k n e lt raw by past = rw (step_at xs k n d e lt) (grind (arith, nat_tests, raw, by, past))

pub passed_at : (f : Facts) (s d : Mark) (xs : List Mark) (k n : ℕ) → k + 1 ≡ n → n ≤ length xs → ((get_or xs k d).raw ≡ s.raw → ⊥) → is_right f s (drop n xs) ≡ false → is_right f s (drop k xs) ≡ false
passed_at f s d xs k n e lt raw rest = rw (step_at xs k n d e lt) (grind (arith, nat_tests, raw, rest))

pub past_at : (f : Facts) (s d : Mark) (xs : List Mark) (k n : ℕ) (b : Bool) → k + 1 ≡ n → n ≤ length xs → is_past f s.time (get_or xs k d) ≡ b → list_any (is_past f s.time) (drop n xs) ≡ false → list_any (is_past f s.time) (drop k xs) ≡ b
past_at f s d xs k n b e lt past rest = rw (step_at xs k n d e lt) (rw past (rw rest (or_false b)))

-- ---- a word between two places

pub parted_next : (f : Facts) (t : ℕ) (xs : List Mark) → IsNonDecreasingBy (λ (a : Mark). a.time) xs → IsPartitionedBy (is_before_next f t) xs
parted_next f t xs rise = λ i j d le lt h.
    let less : (get_or xs i d).time + f.tolerance ≤ (get_or xs j d).time + f.tolerance = omega (arith, rise i j d le lt) in
    let product : ((get_or xs i d).time + f.tolerance) * f.rate ≤ ((get_or xs j d).time + f.tolerance) * f.rate = mul-le-mul_right f.rate less in
    grind (arith, nat_tests, product)

pub any_at : {X : Type 0} (p : X → Bool) (xs : List X) (k : ℕ) (d : X) → k < length xs → p (get_or xs k d) ≡ true → list_any p xs ≡ true
any_at p [] k d lt h = absurd (omega (arith, lt))
any_at p (x ∷ xs) zero d lt h = grind (arith, h)
any_at p (x ∷ xs) (suc k) d lt h = let rest : list_any p xs ≡ true = any_at p xs k d (omega (arith, lt)) h in grind (arith, rest)

pub none_at : {X : Type 0} (p : X → Bool) (xs : List X) → ((k : ℕ) (d : X) → k < length xs → p (get_or xs k d) ≡ false) → list_any p xs ≡ false
none_at p [] h = refl
none_at p (x ∷ xs) h =
    let rest : list_any p xs ≡ false = none_at p xs (λ k d lt. h (suc k) d (omega (arith, lt))) in
    let first : p x ≡ false = h 0 x (omega arith) in
    grind (arith, first, rest)

-- some element passes the second test and not the first, if each test is passed up to a place
pub any_between : (p q : Mark → Bool) (xs : List Mark) (i j : ℕ) → IsPartitionPoint (λ a. p a ≡ true) (λ a. p a ≡ false) xs i → IsPartitionPoint (λ a. q a ≡ true) (λ a. q a ≡ false) xs j → i ≤ length xs → j ≤ length xs → nat_lt i j ≡ list_any (λ a. q a && not (p a)) xs
any_between p q xs i j at_p at_q within_p within_q = elim (cases_lt i j) [
  | inl less ↦
      let in_q : q (get_or xs i no_mark) ≡ true = at_q.0 i no_mark (omega arith) less in
      let out_p : p (get_or xs i no_mark) ≡ false = at_p.1 i no_mark (omega arith) (omega arith) in
      let both : (q (get_or xs i no_mark) && not (p (get_or xs i no_mark))) ≡ true = grind (arith, in_q, out_p) in
      let any : list_any (λ a. q a && not (p a)) xs ≡ true = any_at (λ a. q a && not (p a)) xs i no_mark (omega arith) both in
      lt-ltb i j less ∙ sym any
  | inr most ↦
      let none : list_any (λ a. q a && not (p a)) xs ≡ false = none_at (λ a. q a && not (p a)) xs (λ k d lt. elim (cases_lt k i) [
        | inl below ↦ let in_p : p (get_or xs k d) ≡ true = at_p.0 k d (omega arith) below in grind (arith, in_p)
        | inr above ↦ let out_q : q (get_or xs k d) ≡ false = at_q.1 k d (omega arith) lt in grind (arith, out_q)
      ]) in
      grind (arith, nat_tests, none)
]

-- ---- two words that pass a test

pub none_twice : (p : Mark → Bool) (xs : List Mark) → list_any p xs ≡ false → is_twice p xs ≡ false
none_twice p [] h = refl
none_twice p (x ∷ xs) h =
    let parts = or_none (p x) (list_any p xs) h in
    let here : p x ≡ false = parts.0 in
    let rest : is_twice p xs ≡ false = none_twice p xs parts.1 in
    grind (arith, here, rest)

twice_of_drop : (p : Mark → Bool) (k : ℕ) (xs : List Mark) → is_twice p (drop k xs) ≡ true → is_twice p xs ≡ true
twice_of_drop p zero xs h = h
twice_of_drop p (suc k) [] h = h
twice_of_drop p (suc k) (x ∷ xs) h = let rest : is_twice p xs ≡ true = twice_of_drop p k xs h in grind (arith, rest)

pub twice_from : (p : Mark → Bool) (n m : ℕ) (xs : List Mark) → n ≤ m → is_twice p (drop m xs) ≡ true → is_twice p (drop n xs) ≡ true
twice_from p n m xs le h =
    let sum : n + (m - n) ≡ m = omega (arith, le) in
    twice_of_drop p (m - n) (drop n xs) (subst (λ (ys : List Mark). is_twice p ys ≡ true) (drop_later n (m - n) xs) (subst (λ (k : ℕ). is_twice p (drop k xs) ≡ true) (sym sum) h))

pub once_later : (p : Mark → Bool) (n m : ℕ) (xs : List Mark) → n ≤ m → is_twice p (drop n xs) ≡ false → is_twice p (drop m xs) ≡ false
once_later p n m xs le h = false_unless (is_twice p (drop m xs)) (λ e. true≢false (sym (twice_from p n m xs le e) ∙ h))

-- one step back: the element does not pass; it passes and none did; it passes and one did
pub step_none : (p : Mark → Bool) (xs : List Mark) (k n : ℕ) (d : Mark) → k + 1 ≡ n → n ≤ length xs → p (get_or xs k d) ≡ false → (list_any p (drop k xs) ≡ list_any p (drop n xs)) × (is_twice p (drop k xs) ≡ is_twice p (drop n xs))
step_none p xs k n d e le h = rw (step_at xs k n d e le) (rw h (refl, refl))

pub step_first : (p : Mark → Bool) (xs : List Mark) (k n : ℕ) (d : Mark) → k + 1 ≡ n → n ≤ length xs → p (get_or xs k d) ≡ true → list_any p (drop n xs) ≡ false → (list_any p (drop k xs) ≡ true) × (is_twice p (drop k xs) ≡ false)
step_first p xs k n d e le h none =
    let rest : is_twice p (drop n xs) ≡ false = none_twice p (drop n xs) none in
    rw (step_at xs k n d e le) (rw h (rw none (rw rest (refl, refl))))

pub step_second : (p : Mark → Bool) (xs : List Mark) (k n : ℕ) (d : Mark) → k + 1 ≡ n → n ≤ length xs → p (get_or xs k d) ≡ true → list_any p (drop n xs) ≡ true → is_twice p (drop k xs) ≡ true
step_second p xs k n d e le h some = rw (step_at xs k n d e le) (rw h (rw some refl))

pub none_equal : (f : Facts) (s : Mark) (xs : List Mark) (n : ℕ) → ((k : ℕ) (d : Mark) → n ≤ k → k < length xs → is_by f s.time (get_or xs k d) ≡ false) → list_any (is_equal f s) (drop n xs) ≡ false
none_equal f s xs n h =
    none_at (is_equal f s) (drop n xs) (λ k d lt.
    let within : n + k < length xs = omega (arith, lt, length-drop n xs) in
    let late : is_by f s.time (get_or xs (n + k) d) ≡ false = h (n + k) d (omega arith) within in
    let late_there : is_by f s.time (get_or (drop n xs) k d) ≡ false = subst (λ (m : Mark). is_by f s.time m ≡ false) (sym (get_or-drop n xs k d)) late in
    grind (arith, late_there))

-- the place at which the words before a window end
pub past_ends : (f : Facts) (t : ℕ) (xs : List Mark) (n : ℕ) → IsPartitionPoint (λ a. is_past f t a ≡ true) (λ a. is_past f t a ≡ false) xs n → n ≤ length xs → position_or_len (λ a. not (is_past f t a)) xs ≡ n
past_ends f t xs n at le =
    position_or_len_is (λ a. not (is_past f t a)) xs n no_mark le
    (λ k lt. let in_past : is_past f t (get_or xs k no_mark) ≡ true = at.0 k no_mark (omega arith) lt in grind (arith, in_past))
    (λ lt. let out_past : is_past f t (get_or xs n no_mark) ≡ false = at.1 n no_mark (omega arith) lt in grind (arith, out_past))

pub of_one_is : (f : Facts) (span : Span) (accepted : List Mark) (first s : Mark) (n : ℕ) (b : Bool) → first.raw ≡ s.raw → is_known f span accepted first.time ≡ true
    → is_known f span accepted s.time ≡ true → is_right f first accepted ≡ true → is_right f s accepted ≡ true
    → n ≡ position_or_len (λ a. not (is_past f first.time a)) accepted → b ≡ is_twice (is_equal f s) (drop (n - 1) accepted) → not b ≡ is_of_one f span accepted first s
of_one_is f span accepted first s n b raw known_first known right_first right at twice =
    let raws : (first.raw == s.raw) ≡ true = grind (arith, nat_tests, raw) in
    let value : is_twice (is_equal f s) (since f first.time accepted) ≡ b = sym (twice ∙ ap (λ (k : ℕ). is_twice (is_equal f s) (drop (k - 1) accepted)) at) in
    rw raws (rw known_first (rw known (rw right_first (rw right (rw value refl)))))
