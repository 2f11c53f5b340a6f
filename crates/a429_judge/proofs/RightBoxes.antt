-- Nothing is found at a right box.
use Rattle.std.proofs.Common.{◌≡◌, ℕ, zero, suc, ◌+◌, ◌-◌, ◌*◌, ◌<◌, ◌≤◌, List, [], length, drop, Bool, true, false, true≢false, refl, sym, ap, subst, ◌∙◌, inl, inr, ◌⊎◌, arith, Some, None}
use Rattle.std.specs.Prelude.{Option, flat_map, if◌then◌else◌, is_some, nat_le, nat_lt, not, ◌&&◌}
use Rattle.std.specs.List.{list_any, position_or_len, range_with_len}
use Rattle.std.specs.Option.{option_map_or}
use Rattle.std.proofs.Math.Nat.{mul-le-mul_left, mul-le-mul_right, mul-lt-mul_of_pos_right, le_of_mul-le-mul_right, one-le-mul}
use Rattle.std.proofs.lemmas.Bool.{cases_lt}
use Rattle.std.proofs.lemmas.Bool.Decides.{nat_tests}
use Rattle.std.proofs.lemmas.List.{get_or_default}
use Rattle.std.proofs.lemmas.List.Sums.{fails_before_first, prefix_len-le-length}
use Rattle.a429_judge.specs.declared.duties.Duty.{Duty}
use Rattle.a429_judge.specs.declared.facts.Facts.{Facts}
use Rattle.a429_judge.specs.declared.facts.Mark.{Mark}
use Rattle.a429_judge.specs.declared.facts.Span.{Span}
use Rattle.a429_judge.specs.declared.findings.Finding.{Finding}
use Rattle.a429_judge.specs.declared.findings.Kind.{Kind}
use Rattle.a429_judge.specs.declared.findings.Kind.TheVariants.{Missed, Silent}
use Rattle.a429_judge.specs.Judging.{all_missed, due_since, end_findings, findings, finding_if, has_room, is_again, is_answered, is_before_next, is_by, is_ended, is_equal, is_excused, is_far, is_in_reach, is_known, is_late, is_left, is_missed, is_of_one, is_past, is_right, is_seen, is_silent, is_soon, is_twice, mark_at, may_be_used_up, no_mark, send_findings, since, time_at, value_findings, word_findings}
use Rattle.a429_judge.specs.Judgements.{accepted_by, found_at, is_alike, sent_by}
use Rattle.a429_judge.specs.Recordings.{Recording, span_of}
use Rattle.a429_judge.specs.Laws.{AreNear, ArePlanned, IsRightBox, length_of}
use Rattle.a429_judge.proofs.Scanning.{any_at, false_unless, none_at}
use Rattle.a429_judge.proofs.BoxSends.{by_end, first_slot, is_before_rest, IsFirstSlot, IsLogged, known_is_logged, later_not_past, logged_right, not_soon, right_if_known, same_at, slots_far, slots_grow, slots_rise, some_units, twice_at, within_reach, word_by}

-- ---- holds

-- why a hold leaves the slot after send k empty
abbrev IsUsedUp : (f : Facts) (span : Span) (accepted sends : List Mark) → IsRightBox f span accepted sends → ℕ → Type 0
IsUsedUp f span accepted sends b k =
    (hold : ℕ) × (f.hold ≡ Some hold) × ((j : ℕ) → b.word k < j → j < length b.words → b.begin (b.slot k + 1) < b.moment j)
    × (((hold ≤ k + 1) × (b.word (k + 1 - hold) ≡ b.word k))
    ⊎ ((m : ℕ) × (k + 1 < hold) × (m < b.from) × (m + hold ≤ b.slot k + 1) × (b.moment (b.word k) ≤ b.begin m)))

-- a word that was accepted before the slot after send k is not after the word of that send
not_newer : (f : Facts) (span : Span) (accepted sends : List Mark) (k j : ℕ) → (b : IsRightBox f span accepted sends) → k < length sends → IsUsedUp f span accepted sends b k → j < length b.words
    → is_before_next f (time_at sends k) (mark_at b.words j) ≡ true → j ≤ b.word k
not_newer f span accepted sends k j b lt used within e = elim (cases_lt (b.word k) j) [
  | inl more ↦
      let before : (time_at b.words j + f.tolerance) * f.rate + 36000000 < time_at sends k * f.rate + f.period * 36000000 = grind (arith, nat_tests, e) in
      let product : ((time_at b.words j + f.tolerance) * f.rate + 36000000) * b.finer < (time_at sends k * f.rate + f.period * 36000000) * b.finer = mul-lt-mul_of_pos_right before b.near.fine in
      let later = used.2 j more within in
      let next = b.slots.soonest (b.slot k) in
      let late = b.late k lt in
      let time = b.piece.early j within in
      absurd {A = j ≤ b.word k} (omega (arith, product, later, next, late, time, b.near.bounded, b.short))
  | inr most ↦ most
]

-- a word that came in before a slot before the log
unlogged_by : (f : Facts) (span : Span) (accepted sends : List Mark) (k j m : ℕ) → ArePlanned f → (b : IsRightBox f span accepted sends) → k < length sends → j ≤ b.word k → m < b.from → b.moment (b.word k) ≤ b.begin m
    → time_at b.words j ≤ span.first + f.tolerance
unlogged_by f span accepted sends k j m plan b lt le before since =
    let sorted : time_at b.words j ≤ time_at b.words (b.word k) = b.piece.rise j (b.word k) no_mark le (b.known k lt) in
    let product : time_at b.words j * (f.rate * b.finer) ≤ time_at b.words (b.word k) * (f.rate * b.finer) = mul-le-mul_right (f.rate * b.finer) sorted in
    let time = b.piece.late (b.word k) (b.known k lt) in
    let at = b.before m before in
    by_end f (f.rate * b.finer) span.first (mark_at b.words j) (some_units f span accepted sends plan b) (omega (arith, product, time, at, since, b.near.bounded))

-- a slot of the box is long enough
step_fits : (f : Facts) (finer wrong drift : ℕ) → AreNear f finer wrong drift → (f.period * 36000000 - f.tolerance * f.rate) * finer ≤ length_of f finer - drift
step_fits f finer wrong drift near = elim (cases_lt (f.tolerance * f.rate) (f.period * 36000000)) [
  | inl less ↦
      let split : (f.period * 36000000 - f.tolerance * f.rate + f.tolerance * f.rate) * finer ≡ f.period * 36000000 * finer = ap (λ (n : ℕ). n * finer) (omega (arith, less)) in
      omega (arith, split, near.bounded, near.slower)
  | inr more ↦
      let none : f.period * 36000000 - f.tolerance * f.rate ≡ 0 = omega (arith, more) in
      let product : (f.period * 36000000 - f.tolerance * f.rate) * finer ≡ 0 * finer = ap (λ (n : ℕ). n * finer) none in
      omega (arith, product)
]

unlogged_fits : (f : Facts) (span : Span) (accepted sends : List Mark) (k j m hold : ℕ) → ArePlanned f → (b : IsRightBox f span accepted sends) → k < length sends → j ≤ b.word k → 1 ≤ hold → m + hold ≤ b.slot k + 1 → b.moment (b.word k) ≤ b.begin m
    → time_at b.words j * f.rate + (hold - 1) * (f.period * 36000000 - f.tolerance * f.rate) ≤ (time_at sends k + f.tolerance) * f.rate
unlogged_fits f span accepted sends k j m hold plan b lt le some room since =
    let step = f.period * 36000000 - f.tolerance * f.rate in
    let sorted : time_at b.words j ≤ time_at b.words (b.word k) = b.piece.rise j (b.word k) no_mark le (b.known k lt) in
    let product : time_at b.words j * (f.rate * b.finer) ≤ time_at b.words (b.word k) * (f.rate * b.finer) = mul-le-mul_right (f.rate * b.finer) sorted in
    let time = b.piece.late (b.word k) (b.known k lt) in
    let early = b.early k lt in
    let far = slots_far f b.finer b.wrong b.drift b.begin m (hold - 1) b.near b.slots in
    let up = slots_rise f b.finer b.wrong b.drift b.begin (m + (hold - 1)) (b.slot k) b.near b.slots (omega (arith, room, some)) in
    let fits = step_fits f b.finer b.wrong b.drift b.near in
    let steps : (hold - 1) * (step * b.finer) ≤ (hold - 1) * (length_of f b.finer - b.drift) = mul-le-mul_left (hold - 1) fits in
    let all : (time_at b.words j * f.rate + (hold - 1) * step) * b.finer ≤ (time_at sends k + f.tolerance) * f.rate * b.finer = omega (arith, product, time, early, far, up, steps, since, b.near.bounded) in
    le_of_mul-le-mul_right all b.near.fine

used_by : (f : Facts) (span : Span) (sends : List Mark) (n hold : ℕ) (a : Mark) → nat_le hold n ≡ true → is_by f (time_at sends (n - hold)) a ≡ true → may_be_used_up f span sends n hold a ≡ true
used_by f span sends n hold a test by = rw test by

unused_by : (f : Facts) (span : Span) (sends : List Mark) (n hold : ℕ) (a : Mark) → nat_le hold n ≡ false → is_by f span.first a ≡ true → has_room f hold (time_at sends (n - 1)) a ≡ true → may_be_used_up f span sends n hold a ≡ true
unused_by f span sends n hold a test by room = rw test (rw by room)

word_is_used_up : (f : Facts) (span : Span) (accepted sends : List Mark) (k j : ℕ) → ArePlanned f → (b : IsRightBox f span accepted sends) → k < length sends → (u : IsUsedUp f span accepted sends b k) → j ≤ b.word k
    → may_be_used_up f span sends (k + 1) u.0 (mark_at b.words j) ≡ true
word_is_used_up f span accepted sends k j plan b lt u le = elim u.3 [
  | inl sent ↦
      let some = plan.hold u.0 u.1 in
      let first : k + 1 - u.0 < length sends = omega (arith, lt, some) in
      let by = word_by f span accepted sends (k + 1 - u.0) plan b first in
      let sorted : time_at b.words j ≤ time_at b.words (b.word k) = b.piece.rise j (b.word k) no_mark le (b.known k lt) in
      let at = ap (time_at b.words) sent.1 in
      let in_time : time_at b.words j ≤ time_at sends (k + 1 - u.0) + f.tolerance = omega (arith, by, sorted, at) in
      let least = sent.0 in
      used_by f span sends (k + 1) u.0 (mark_at b.words j) (grind (arith, nat_tests, least)) (grind (arith, nat_tests, in_time))
  | inr unlogged ↦
      let some = plan.hold u.0 u.1 in
      let few = unlogged.1 in
      let by = unlogged_by f span accepted sends k j unlogged.0 plan b lt le unlogged.2 unlogged.4 in
      let fits = unlogged_fits f span accepted sends k j unlogged.0 u.0 plan b lt le some unlogged.3 unlogged.4 in
      let e : k + 1 - 1 ≡ k = omega arith in
      let at = ap (time_at sends) e in
      let room_here : has_room f u.0 (time_at sends k) (mark_at b.words j) ≡ true = grind (arith, nat_tests, fits) in
      let room : has_room f u.0 (time_at sends (k + 1 - 1)) (mark_at b.words j) ≡ true = ap (λ (t : ℕ). has_room f u.0 t (mark_at b.words j)) at ∙ room_here in
      unused_by f span sends (k + 1) u.0 (mark_at b.words j) (grind (arith, nat_tests, few)) (grind (arith, nat_tests, by)) room
]

excused_by : (f : Facts) (span : Span) (accepted sends : List Mark) (n hold : ℕ) (held : Option ℕ) → held ≡ Some hold → list_any (is_left f span sends n hold) accepted ≡ false
    → option_map_or (λ h. not (list_any (is_left f span sends n h) accepted)) held false ≡ true
excused_by f span accepted sends n hold held is none =
    ap (λ (o : Option ℕ). option_map_or (λ h. not (list_any (is_left f span sends n h) accepted)) o false) is ∙ ap not none

-- nothing had to be sent
none_left : (f : Facts) (span : Span) (accepted sends : List Mark) (k i : ℕ) → ArePlanned f → (b : IsRightBox f span accepted sends) → k < length sends → (u : IsUsedUp f span accepted sends b k) → i < length accepted
    → is_left f span sends (k + 1) u.0 (mark_at accepted i) ≡ false
none_left f span accepted sends k i plan b lt u within = false_unless (is_left f span sends (k + 1) u.0 (mark_at accepted i)) (λ e.
    let e_k : k + 1 - 1 ≡ k = omega arith in
    let at = ap (time_at sends) e_k in
    let same = b.piece.same i within in
    let before_next : is_before_next f (time_at sends (k + 1 - 1)) (mark_at accepted i) ≡ true = grind (arith, e) in
    let out : may_be_used_up f span sends (k + 1) u.0 (mark_at accepted i) ≡ false = grind (arith, e) in
    let before : is_before_next f (time_at sends k) (mark_at b.words (b.piece.skipped + i)) ≡ true =
    subst (λ (m : Mark). is_before_next f (time_at sends k) m ≡ true) same (subst (λ (t : ℕ). is_before_next f t (mark_at accepted i) ≡ true) at before_next) in
    let inside : b.piece.skipped + i < length b.words = omega (arith, within, b.piece.within) in
    let old = not_newer f span accepted sends k (b.piece.skipped + i) b lt u inside before in
    let used = word_is_used_up f span accepted sends k (b.piece.skipped + i) plan b lt u old in
    true≢false (sym used ∙ (ap (may_be_used_up f span sends (k + 1) u.0) (sym same) ∙ out)))

used_is_excused : (f : Facts) (span : Span) (accepted sends : List Mark) (k : ℕ) → ArePlanned f → (b : IsRightBox f span accepted sends) → k < length sends → (u : IsUsedUp f span accepted sends b k) → is_excused f span accepted sends (k + 1) ≡ true
used_is_excused f span accepted sends k plan b lt u =
    let none : list_any (is_left f span sends (k + 1) u.0) accepted ≡ false = none_at (is_left f span sends (k + 1) u.0) accepted (λ i d within.
    ap (is_left f span sends (k + 1) u.0) (get_or_default accepted i d no_mark within) ∙ none_left f span accepted sends k i plan b lt u within) in
    excused_by f span accepted sends (k + 1) u.0 f.hold u.1 none

-- ---- times

not_late : (f : Facts) (span : Span) (accepted sends : List Mark) (k : ℕ) → ArePlanned f → (b : IsRightBox f span accepted sends) → k + 1 < length sends → is_late f span accepted sends (k + 1) ≡ false
not_late f span accepted sends k plan b lt =
    let here : k < length sends = omega (arith, lt) in
    let before : k + 1 - 1 ≡ k = omega arith in
    elim (b.next k here) [
      | inl used ↦
          let at_slot = ap b.begin used.1 in
          let late = b.late (k + 1) lt in
          let near : time_at sends (k + 1) ≤ time_at sends k + f.greatest + f.tolerance = within_reach f span accepted sends k (time_at sends (k + 1)) plan b here (omega (arith, late, at_slot)) in
          let at : time_at sends (k + 1 - 1) ≡ time_at sends k = ap (time_at sends) before in
          let not_far : is_far f sends (k + 1) ≡ false = grind (arith, nat_tests, near, at) in
          rw not_far refl
      | inr rest ↦ elim rest [
        | inl ended ↦ absurd (omega (arith, ended.0, lt))
        | inr held ↦
            let excused : is_excused f span accepted sends (k + 1) ≡ true = used_is_excused f span accepted sends k plan b here held in
            grind (arith, excused)
      ]
    ]

ends_by : (f : Facts) (span : Span) (accepted sends : List Mark) (k : ℕ) → ArePlanned f → (b : IsRightBox f span accepted sends) → length sends ≡ k + 1 → is_silent f span accepted sends ≡ false
ends_by f span accepted sends k plan b size =
    let here : k < length sends = omega (arith, size) in
    let last : length sends - 1 ≡ k = omega (arith, size) in
    elim (b.next k here) [
      | inl used ↦ absurd (omega (arith, used.0, size))
      | inr rest ↦ elim rest [
        | inl ended ↦
            let near : span.last ≤ time_at sends k + f.greatest + f.tolerance = within_reach f span accepted sends k span.last plan b here ended.1 in
            let at : time_at sends (length sends - 1) ≡ time_at sends k = ap (time_at sends) last in
            let not_ended : is_ended f span sends ≡ false = grind (arith, nat_tests, near, at) in
            rw not_ended refl
        | inr held ↦
            let excused : is_excused f span accepted sends (length sends) ≡ true = ap (is_excused f span accepted sends) size ∙ used_is_excused f span accepted sends k plan b here held in
            grind (arith, excused)
      ]
    ]

not_silent : (f : Facts) (span : Span) (accepted sends : List Mark) (n : ℕ) → ArePlanned f → (b : IsRightBox f span accepted sends) → length sends ≡ n → is_silent f span accepted sends ≡ false
not_silent f span accepted sends zero plan b size =
    let none : is_ended f span sends ≡ false = grind (arith, nat_tests, size) in
    rw none refl
not_silent f span accepted sends (suc k) plan b size = ends_by f span accepted sends k plan b (omega (arith, size))

-- ---- words that were sent too often

-- the first place of a test is at most one after a place after which all pass
first_at_most : (test : Mark → Bool) (xs : List Mark) (p : ℕ) → p < length xs → ((j : ℕ) → p < j → j < length xs → test (mark_at xs j) ≡ true) → position_or_len test xs ≤ p + 1
first_at_most test xs p lt h = elim (cases_lt (p + 1) (position_or_len test xs)) [
  | inl more ↦
      let within : position_or_len test xs ≤ length xs = prefix_len-le-length (λ x. not (test x)) xs in
      let passes : test (mark_at xs (p + 1)) ≡ true = h (p + 1) (omega arith) (omega (arith, more, within)) in
      absurd (true≢false (sym passes ∙ fails_before_first test xs (p + 1) no_mark more))
  | inr most ↦ most
]

two_words : (f : Facts) (span : Span) (accepted sends : List Mark) (k j : ℕ) → ArePlanned f → (b : IsRightBox f span accepted sends) → k < length sends → j < length sends → IsLogged f span accepted sends b k → IsLogged f span accepted sends b j
    → b.word j < b.word k → (mark_at sends j).raw ≡ (mark_at sends k).raw → is_twice (is_equal f (mark_at sends k)) (since f (time_at sends j) accepted) ≡ true
two_words f span accepted sends k j plan b lt lt_j l l_j less raw =
    let test = is_equal f (mark_at sends k) in
    let p = b.word j - b.piece.skipped in
    let q = b.word k - b.piece.skipped in
    let same_p : mark_at accepted p ≡ mark_at b.words (b.word j) = same_at f span accepted sends b (b.word j) l_j.least l_j.most in
    let same_q : mark_at accepted q ≡ mark_at b.words (b.word k) = same_at f span accepted sends b (b.word k) l.least l.most in
    let time_p = ap (λ (m : Mark). m.time) same_p in
    let time_q = ap (λ (m : Mark). m.time) same_q in
    let by_word = word_by f span accepted sends k plan b lt in
    let sorted : time_at b.words (b.word j) ≤ time_at b.words (b.word k) = b.piece.rise (b.word j) (b.word k) no_mark (omega (arith, less)) (b.known k lt) in
    let by_q : time_at accepted q ≤ time_at sends k + f.tolerance = omega (arith, by_word, time_q) in
    let by_p : time_at accepted p ≤ time_at sends k + f.tolerance = omega (arith, by_word, sorted, time_p) in
    let raw_q : (mark_at accepted q).raw ≡ (mark_at sends k).raw = ap (λ (m : Mark). m.raw) same_q ∙ b.same k lt in
    let raw_p : (mark_at accepted p).raw ≡ (mark_at sends k).raw = ap (λ (m : Mark). m.raw) same_p ∙ b.same j lt_j ∙ raw in
    let at_q : test (mark_at accepted q) ≡ true = grind (arith, nat_tests, by_q, raw_q) in
    let at_p : test (mark_at accepted p) ≡ true = grind (arith, nat_tests, by_p, raw_p) in
    let first : position_or_len (λ a. not (is_past f (time_at sends j) a)) accepted ≤ p + 1 =
    first_at_most (λ a. not (is_past f (time_at sends j) a)) accepted p (omega (arith, l_j.least, l_j.most)) (λ i more within.
    let out : is_past f (time_at sends j) (mark_at accepted i) ≡ false = ap (is_past f (time_at sends j)) (b.piece.same i within)
    ∙ later_not_past f span accepted sends j (b.piece.skipped + i) b lt_j (omega (arith, more, l_j.least)) (omega (arith, within, b.piece.within)) in
    grind (arith, out)) in
    twice_at test accepted (position_or_len (λ a. not (is_past f (time_at sends j) a)) accepted - 1) p q (omega (arith, first)) (omega (arith, less, l.least, l_j.least)) (omega (arith, l.least, l.most)) at_p at_q

not_of_one : (f : Facts) (span : Span) (accepted sends : List Mark) (k hold : ℕ) → ArePlanned f → (b : IsRightBox f span accepted sends) → k < length sends
    → f.hold ≡ Some hold → hold ≤ k → is_of_one f span accepted (mark_at sends (k - hold)) (mark_at sends k) ≡ false
not_of_one f span accepted sends k hold plan b lt is le =
    false_unless (is_of_one f span accepted (mark_at sends (k - hold)) (mark_at sends k)) (λ e.
    let raw : (mark_at sends (k - hold)).raw ≡ (mark_at sends k).raw = grind (arith, nat_tests, e) in
    let known_first : is_known f span accepted (time_at sends (k - hold)) ≡ true = grind (arith, e) in
    let known : is_known f span accepted (time_at sends k) ≡ true = grind (arith, e) in
    let once : is_twice (is_equal f (mark_at sends k)) (since f (time_at sends (k - hold)) accepted) ≡ false = grind (arith, e) in
    let first : k - hold < length sends = omega (arith, lt) in
    let twice = two_words f span accepted sends k (k - hold) plan b lt first (known_is_logged f span accepted sends k plan b lt known)
    (known_is_logged f span accepted sends (k - hold) plan b first known_first) (b.held k hold is le lt) raw in
    true≢false (sym twice ∙ once))

again_by : (f : Facts) (span : Span) (accepted sends : List Mark) (k : ℕ) (held : Option ℕ) → ((hold : ℕ) → held ≡ Some hold → hold ≤ k → is_of_one f span accepted (mark_at sends (k - hold)) (mark_at sends k) ≡ false)
    → option_map_or (λ hold. nat_le hold k && is_of_one f span accepted (mark_at sends (k - hold)) (mark_at sends k)) held false ≡ false
again_by f span accepted sends k None h = refl
again_by f span accepted sends k (Some hold) h = elim (cases_lt k hold) [
  | inl less ↦ let more : nat_le hold k ≡ false = grind (arith, nat_tests, less) in rw more refl
  | inr most ↦ let one : is_of_one f span accepted (mark_at sends (k - hold)) (mark_at sends k) ≡ false = h hold refl most in grind (arith, one)
]

not_again : (f : Facts) (span : Span) (accepted sends : List Mark) (k : ℕ) → ArePlanned f → (b : IsRightBox f span accepted sends) → k < length sends → is_again f span accepted sends k ≡ false
not_again f span accepted sends k plan b lt = again_by f span accepted sends k f.hold (λ hold is le. not_of_one f span accepted sends k hold plan b lt is le)

-- ---- accepted words

-- a send at or after an accepted word is of it or of a later one
word_is_newer : (f : Facts) (span : Span) (accepted sends : List Mark) (k j : ℕ) → (b : IsRightBox f span accepted sends) → k < length sends → j < length b.words → b.moment j ≤ b.begin (b.slot k) → j ≤ b.word k
word_is_newer f span accepted sends k j b lt within reached = elim (cases_lt (b.word k) j) [
  | inl less ↦ let until = b.until k j lt less within in absurd {A = j ≤ b.word k} (omega (arith, until, reached))
  | inr most ↦ most
]

-- until when the log of what was sent must have a word, in the box's units
abbrev limit_of : Facts → ℕ → Span → Mark → ℕ
limit_of f finer span a = (due_since span a + f.tolerance) * (f.rate * finer) + (f.period + 1) * 36000000 * finer

-- a send in the first slot at or after a word is in time
sent_in_time : (f : Facts) (span : Span) (accepted sends : List Mark) (i n k : ℕ) → ArePlanned f → (b : IsRightBox f span accepted sends) → i < length accepted → k < length sends → b.slot k ≡ n
    → b.moment (b.piece.skipped + i) ≤ b.begin n → b.begin n + b.delay + b.wrong < limit_of f b.finer span (mark_at accepted i) → limit_of f b.finer span (mark_at accepted i) ≤ span.heard * (f.rate * b.finer) → is_answered f span accepted sends i ≡ true
sent_in_time f span accepted sends i n k plan b within lt is reached soon ends =
    let at = ap b.begin is in
    let late = b.late k lt in
    let inside : b.piece.skipped + i < length b.words = omega (arith, within, b.piece.within) in
    let newer = word_is_newer f span accepted sends k (b.piece.skipped + i) b lt inside (omega (arith, reached, at)) in
    let time = b.piece.late (b.word k) (b.known k lt) in
    let since = b.since k lt in
    let before : time_at b.words (b.word k) * (f.rate * b.finer) < span.heard * (f.rate * b.finer) = omega (arith, time, since, at, soon, ends) in
    let earlier : time_at b.words (b.word k) < span.heard = elim (cases_lt (time_at b.words (b.word k)) span.heard) [
      | inl less ↦ less
      | inr more ↦ let product : span.heard * (f.rate * b.finer) ≤ time_at b.words (b.word k) * (f.rate * b.finer) = mul-le-mul_right (f.rate * b.finer) more in absurd {A = time_at b.words (b.word k) < span.heard} (omega (arith, product, before))
    ] in
    let logged : IsLogged f span accepted sends b k = record {
      least = omega (arith, newer);
      most = is_before_rest f span accepted sends b (b.word k) (b.known k lt) earlier;
    } in
    let reach_finer : time_at sends k * f.rate * b.finer ≤ ((due_since span (mark_at accepted i) + f.tolerance) * f.rate + (f.period + 1) * 36000000) * b.finer = omega (arith, late, at, soon) in
    let reach : time_at sends k * f.rate ≤ (due_since span (mark_at accepted i) + f.tolerance) * f.rate + (f.period + 1) * 36000000 = le_of_mul-le-mul_right reach_finer b.near.fine in
    let in_reach : is_in_reach f (due_since span (mark_at accepted i)) (time_at sends k) ≡ true = reach_is f (due_since span (mark_at accepted i)) (time_at sends k) reach in
    let right : is_right f (mark_at sends k) (drop i accepted) ≡ true = logged_right f span accepted sends k i plan b lt logged (omega (arith, newer)) in
    any_at (λ s. is_in_reach f (due_since span (mark_at accepted i)) s.time && is_right f s (drop i accepted)) sends k no_mark lt (grind (arith, in_reach, right))
  where
    reach_is : (f : Facts) (since t : ℕ) → t * f.rate ≤ (since + f.tolerance) * f.rate + (f.period + 1) * 36000000 → is_in_reach f since t ≡ true
    reach_is f since t le = grind (arith, nat_tests, le)

-- the first slot from `from` on at or after a word begins soon
begins_soon : (f : Facts) (span : Span) (accepted sends : List Mark) (i n : ℕ) → ArePlanned f → (b : IsRightBox f span accepted sends) → i < length accepted → IsFirstSlot b.begin (b.moment (b.piece.skipped + i)) b.from n
    → b.begin n + b.delay + b.wrong < limit_of f b.finer span (mark_at accepted i)
begins_soon f span accepted sends i n plan b within s =
    let inside : b.piece.skipped + i < length b.words = omega (arith, within, b.piece.within) in
    let times = ap (λ (m : Mark). m.time) (b.piece.same i within) in
    let time = b.piece.early (b.piece.skipped + i) inside in
    let bounded = b.near.bounded in
    let short = b.short in
    let base : 1 ≤ 36000000 = omega arith in
    let some : 1 ≤ 36000000 * b.finer = one-le-mul base b.near.fine in
    let due : time_at accepted i ≤ due_since span (mark_at accepted i) = omega arith in
    let due_first : span.first ≤ due_since span (mark_at accepted i) = omega arith in
    let product : time_at accepted i * (f.rate * b.finer) ≤ due_since span (mark_at accepted i) * (f.rate * b.finer) = mul-le-mul_right (f.rate * b.finer) due in
    let product_first : span.first * (f.rate * b.finer) ≤ due_since span (mark_at accepted i) * (f.rate * b.finer) = mul-le-mul_right (f.rate * b.finer) due_first in
    let time_same : time_at accepted i * (f.rate * b.finer) ≡ time_at b.words (b.piece.skipped + i) * (f.rate * b.finer) = ap (λ (t : ℕ). t * (f.rate * b.finer)) times in
    elim s.first [
      | inl is ↦
          let at = ap b.begin is in
          omega (arith, b.opens, at, product_first, bounded, some)
      | inr later ↦
          let next = b.slots.latest (n - 1) in
          let e : n - 1 + 1 ≡ n = omega (arith, later.0) in
          let at = ap b.begin e in
          omega (arith, next, at, later.1, time, time_same, product, bounded, short, some)
    ]

some_hold : (held : Option ℕ) (hold : ℕ) → held ≡ Some hold → is_some held ≡ true
some_hold None hold h = absurd (cc)
some_hold (Some most) hold h = refl

-- a slot before is not after the word, too, if a hold may leave slots empty
none_before : (f : Facts) (span : Span) (accepted sends : List Mark) (i n m hold : ℕ) → ArePlanned f → (b : IsRightBox f span accepted sends) → i < length accepted → IsFirstSlot b.begin (b.moment (b.piece.skipped + i)) b.from n
    → is_seen f span (mark_at accepted i) ≡ true → f.hold ≡ Some hold → m < n → b.moment (b.piece.skipped + i) ≤ b.begin m → ⊥
none_before f span accepted sends i n m hold plan b within s seen is less reached =
    let held = some_hold f.hold hold is in
    let after_bit : nat_lt (span.first + f.tolerance) (time_at accepted i) ≡ true = grind (arith, seen, held) in
    let after : span.first + f.tolerance < time_at accepted i = grind (arith, nat_tests, after_bit) in
    elim s.first [
      | inl at ↦
          let inside : b.piece.skipped + i < length b.words = omega (arith, within, b.piece.within) in
          let times = ap (λ (a : Mark). a.time) (b.piece.same i within) in
          let time = b.piece.late (b.piece.skipped + i) inside in
          let before = b.before m (omega (arith, at, less)) in
          let some = some_units f span accepted sends plan b in
          let next_after : span.first + f.tolerance + 1 ≤ time_at accepted i = omega (arith, after) in
          let product : (span.first + f.tolerance + 1) * (f.rate * b.finer) ≤ time_at accepted i * (f.rate * b.finer) = mul-le-mul_right (f.rate * b.finer) next_after in
          let time_same : time_at accepted i * (f.rate * b.finer) ≡ time_at b.words (b.piece.skipped + i) * (f.rate * b.finer) = ap (λ (t : ℕ). t * (f.rate * b.finer)) times in
          omega (arith, time, before, some, product, time_same, reached, b.near.bounded)
      | inr later ↦
          let rise = slots_rise f b.finer b.wrong b.drift b.begin m (n - 1) b.near b.slots (omega (arith, less)) in
          omega (arith, rise, later.1, reached)
    ]

answered : (f : Facts) (span : Span) (accepted sends : List Mark) (i : ℕ) → ArePlanned f → (b : IsRightBox f span accepted sends) → span.heard ≤ span.last → i < length accepted → is_seen f span (mark_at accepted i) ≡ true → is_answered f span accepted sends i ≡ true
answered f span accepted sends i plan b order within seen =
    let x = b.moment (b.piece.skipped + i) in
    let grow = slots_grow f b.finer b.wrong b.drift b.begin b.from x b.near b.slots in
    let slot = first_slot b.begin x b.from x (omega (arith, grow)) in
    let inside : b.piece.skipped + i < length b.words = omega (arith, within, b.piece.within) in
    let seen_bit : nat_le ((due_since span (mark_at accepted i) + f.tolerance) * f.rate + (f.period + 1) * 36000000) (span.heard * f.rate) ≡ true = grind (arith, seen) in
    let seen_by = le_by ((due_since span (mark_at accepted i) + f.tolerance) * f.rate + (f.period + 1) * 36000000) (span.heard * f.rate) seen_bit in
    let ends : ((due_since span (mark_at accepted i) + f.tolerance) * f.rate + (f.period + 1) * 36000000) * b.finer ≤ span.heard * f.rate * b.finer = mul-le-mul_right b.finer seen_by in
    let ends_finer : limit_of f b.finer span (mark_at accepted i) ≤ span.heard * (f.rate * b.finer) = omega (arith, ends) in
    let soon = begins_soon f span accepted sends i slot.0 plan b within slot.1 in
    let last : span.heard * (f.rate * b.finer) ≤ span.last * (f.rate * b.finer) = mul-le-mul_right (f.rate * b.finer) order in
    elim (b.whole slot.0 (b.piece.skipped + i) slot.1.least inside slot.1.reached (omega (arith, soon, ends_finer, last))) [
      | inl sent ↦ sent_in_time f span accepted sends i slot.0 sent.0 plan b within sent.1 sent.2 slot.1.reached soon ends_finer
      | inr held ↦ absurd (none_before f span accepted sends i slot.0 held.1 held.0 plan b within slot.1 seen held.2 held.3 held.4)
    ]
  where
    le_by : (m n : ℕ) → nat_le m n ≡ true → m ≤ n
    le_by m n h = grind (arith, nat_tests, h)

not_missed : (f : Facts) (span : Span) (accepted sends : List Mark) (i : ℕ) → ArePlanned f → (b : IsRightBox f span accepted sends) → span.heard ≤ span.last → i < length accepted → is_missed f span accepted sends i ≡ false
not_missed f span accepted sends i plan b order within = go (is_seen f span (mark_at accepted i)) refl where
  go : (seen : Bool) → is_seen f span (mark_at accepted i) ≡ seen → is_missed f span accepted sends i ≡ false
  go true e = let sent : is_answered f span accepted sends i ≡ true = answered f span accepted sends i plan b order within e in rw sent (rw e refl)
  go false e = rw e refl

-- ---- nothing is found

none_found : (kind : Kind) (m : Mark) (test : Bool) → test ≡ false → finding_if test kind m ≡ []
none_found kind m test h = ap (λ (b : Bool). finding_if b kind m) h

none_of_send : (f : Facts) (span : Span) (accepted sends : List Mark) (k : ℕ) → value_findings f span accepted (mark_at sends k) ≡ [] → is_soon f sends k ≡ false → is_late f span accepted sends k ≡ false → is_again f span accepted sends k ≡ false
    → send_findings f span accepted sends k ≡ []
unfolding send_findings
none_of_send f span accepted sends k value soon late again = rw value (rw soon (rw late (rw again refl)))

first_in_time : (f : Facts) (span : Span) (accepted sends : List Mark) → (is_soon f sends 0 ≡ false) × (is_late f span accepted sends 0 ≡ false)
first_in_time f span accepted sends = (refl, refl)

next_in_time : (f : Facts) (span : Span) (accepted sends : List Mark) (k : ℕ) → ArePlanned f → (b : IsRightBox f span accepted sends) → k + 1 < length sends
    → (is_soon f sends (k + 1) ≡ false) × (is_late f span accepted sends (k + 1) ≡ false)
next_in_time f span accepted sends k plan b lt =
    let apart : time_at sends k + f.least ≤ time_at sends (k + 1) + f.tolerance = not_soon f span accepted sends k plan b lt in
    let before : k + 1 - 1 ≡ k = omega arith in
    let at : time_at sends (k + 1 - 1) ≡ time_at sends k = ap (time_at sends) before in
    (grind (arith, nat_tests, apart, at), not_late f span accepted sends k plan b lt)

in_time : (f : Facts) (span : Span) (accepted sends : List Mark) (k : ℕ) → ArePlanned f → (b : IsRightBox f span accepted sends) → k < length sends
    → (is_soon f sends k ≡ false) × (is_late f span accepted sends k ≡ false)
in_time f span accepted sends zero plan b lt = first_in_time f span accepted sends
in_time f span accepted sends (suc k) plan b lt =
    let e : k + 1 ≡ suc k = omega arith in
    subst (λ (n : ℕ). (is_soon f sends n ≡ false) × (is_late f span accepted sends n ≡ false)) e (next_in_time f span accepted sends k plan b (omega (arith, lt)))

flat_none : {Y : Type 0} (f : ℕ → List Y) (from n : ℕ) → ((k : ℕ) → k < from + n → f k ≡ []) → flat_map f (range_with_len from n) ≡ []
flat_none {Y} f from zero h = refl
flat_none {Y} f from (suc n) h =
    rw (h from (omega arith)) (flat_none f (from + 1) n (λ k lt. h k (omega (arith, lt))))

none_at_end : (f : Facts) (span : Span) (accepted sends : List Mark) → is_silent f span accepted sends ≡ false → end_findings f span accepted sends ≡ []
unfolding end_findings
none_at_end f span accepted sends h = none_found Silent (mark_at sends (length sends - 1)) (is_silent f span accepted sends) h

right_box_finds_none : (f : Facts) (span : Span) (accepted sends : List Mark) → ArePlanned f → span.heard ≤ span.last → (b : IsRightBox f span accepted sends) → findings f span accepted sends ≡ []
unfolding findings word_findings
right_box_finds_none f span accepted sends plan order b =
    let of_sends : flat_map (send_findings f span accepted sends) (range_with_len 0 (length sends)) ≡ [] = flat_none (send_findings f span accepted sends) 0 (length sends) (λ k lt.
    let inside : k < length sends = omega (arith, lt) in
    let times = in_time f span accepted sends k plan b inside in
    none_of_send f span accepted sends k (right_if_known f span accepted sends k (is_known f span accepted (time_at sends k)) plan b inside refl) times.0 times.1 (not_again f span accepted sends k plan b inside)) in
    let of_end : end_findings f span accepted sends ≡ [] = none_at_end f span accepted sends (not_silent f span accepted sends (length sends) plan b refl) in
    let of_words : all_missed f span accepted sends ≡ [] = flat_none (word_findings f span accepted sends) 0 (length accepted) (λ i lt.
    none_found Missed (mark_at accepted i) (is_missed f span accepted sends i) (not_missed f span accepted sends i plan b order (omega (arith, lt)))) in
    rw of_sends (rw of_end (rw of_words refl))

if_none : (alike : Bool) (found : List Finding) → found ≡ [] → (if alike then [] else found) ≡ []
if_none true found h = refl
if_none false found h = h

pub right_box_has_none : (duties : List Duty) (d : Duty) (r : Recording) → ArePlanned d.facts → IsRightBox d.facts (span_of d.group r) (accepted_by d r) (sent_by d r) → found_at duties d r ≡ []
right_box_has_none duties d r plan b =
    if_none (is_alike duties d) (findings d.facts (span_of d.group r) (accepted_by d r) (sent_by d r))
    (right_box_finds_none d.facts (span_of d.group r) (accepted_by d r) (sent_by d r) plan (omega arith) b)
