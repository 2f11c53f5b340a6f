-- What is said of words that are right, in their own terms.
use Rattle.std.proofs.Common.{◌≡◌, ℕ, zero, suc, ◌+◌, ◌-◌, ◌*◌, ◌<◌, ◌≤◌, List, [], ◌∷◌, ◌++◌, length, get_or, Bool, true, false, true≢false, refl, sym, ap, subst, ◌∙◌, inl, inr, ◌⊎◌, arith, Some, None}
use Rattle.std.specs.Prelude.{Option, flat_map, if◌then◌else◌, max, nat_le, nat_lt, not, slice_get, ◌&&◌, ◌==◌}
use Rattle.std.specs.List.{list_any, range_with_len}
use Rattle.std.specs.Option.{option_map_or}
use Rattle.std.specs.List.Sorted.{IsNonDecreasingBy}
use Rattle.std.proofs.Math.Nat.{mul-le-mul_right}
use Rattle.std.proofs.lemmas.Bool.Decides.{nat_tests}
use Rattle.std.proofs.lemmas.List.FromFn.{get_or-range_with_len, length-range_with_len}
use Rattle.a429_judge.specs.declared.duties.Duty.{Duty}
use Rattle.a429_judge.specs.declared.facts.Facts.{Facts}
use Rattle.a429_judge.specs.declared.facts.Mark.{Mark}
use Rattle.a429_judge.specs.declared.facts.Span.{Span}
use Rattle.a429_judge.specs.declared.findings.Finding.{Finding}
use Rattle.a429_judge.specs.declared.findings.Kind.{Kind}
use Rattle.a429_judge.specs.declared.judgements.Verdict.{Verdict}
use Rattle.a429_judge.specs.declared.judgements.Verdict.TheVariants as verdict
use Rattle.a429_judge.specs.declared.findings.Kind.TheVariants.{Wrong, Stale, Soon, Late, Again, Silent}
use Rattle.a429_judge.specs.Recordings.{Recording, span_of}
use Rattle.a429_judge.specs.Judging.{all_missed, end_findings, findings, finding_if, has_room, is_again, is_wrong, is_stale, is_accepted, is_before_next, is_by, is_ended, is_equal, is_excused, is_far, is_known, is_late, is_left, is_past, is_right, is_silent, is_soon, mark_at, may_be_used_up, no_mark, send_findings, time_at, value_findings}
use Rattle.a429_judge.specs.Judgements.{accepted_by, sent_by, found_at, is_alike, judgement_of, judgement_by, known_sends, quiet_verdict, verdict_of}
use Rattle.a429_judge.specs.Laws.{EndsInTime, IsHeld, IsInTime, IsLatestAt, IsWithinLog, WasLatest}
use Rattle.a429_judge.proofs.Scanning.{any_at, false_unless, or_cases}

-- ---- a right word was the latest

none_at_place : {X : Type 0} (p : X → Bool) (xs : List X) (k : ℕ) (d : X) → list_any p xs ≡ false → k < length xs → p (get_or xs k d) ≡ false
none_at_place p xs k d none lt = false_unless (p (get_or xs k d)) (λ e. true≢false (sym (any_at p xs k d lt e) ∙ none))

-- the later of a word's time and the beginning of a window
abbrev moment_of : Facts → Mark → Mark → ℕ
moment_of f s a = max (a.time * f.rate) (s.time * f.rate - (36000000 + f.tolerance * f.rate))

until_later : (f : Facts) (s a : Mark) (later : List Mark) → IsNonDecreasingBy (λ (a : Mark). a.time) (a ∷ later) → list_any (is_past f s.time) later ≡ false → (j : ℕ) → 0 < j → j < length (a ∷ later) → moment_of f s a ≤ time_at (a ∷ later) j * f.rate
until_later f s a later rise none zero more lt = absurd (omega (arith, more))
until_later f s a later rise none (suc j) more lt =
    let within : j < length later = omega (arith, lt) in
    let after : a.time ≤ (get_or later j no_mark).time = rise 0 (suc j) no_mark (omega arith) (omega (arith, within)) in
    let product : a.time * f.rate ≤ (get_or later j no_mark).time * f.rate = mul-le-mul_right f.rate after in
    let not_past : is_past f s.time (get_or later j no_mark) ≡ false = none_at_place (is_past f s.time) later j no_mark none within in
    let bound : s.time * f.rate ≤ ((get_or later j no_mark).time + f.tolerance) * f.rate + 36000000 = grind (arith, nat_tests, not_past) in
    omega (arith, product, bound)

until_next : (f : Facts) (a : Mark) (later : List Mark) (i m : ℕ) → IsLatestAt f later i m → (j : ℕ) → suc i < j → j < length (a ∷ later) → m ≤ time_at (a ∷ later) j * f.rate
until_next f a later i m h zero more lt = absurd (omega (arith, more))
until_next f a later i m h (suc j) more lt = h.until j (omega (arith, more)) (omega (arith, lt))

pub right_is_latest : (f : Facts) (s : Mark) (xs : List Mark) → IsNonDecreasingBy (λ (a : Mark). a.time) xs → is_right f s xs ≡ true → WasLatest f xs s
right_is_latest f s [] rise h = absurd (true≢false (sym h))
right_is_latest f s (a ∷ later) rise h = elim (or_cases (is_equal f s a && not (list_any (is_past f s.time) later)) (is_right f s later) h) [
  | inl here ↦
      let by : is_by f s.time a ≡ true = grind (arith, here) in
      let raw : (a.raw == s.raw) ≡ true = grind (arith, here) in
      let none : list_any (is_past f s.time) later ≡ false = grind (arith, here) in
      let most : a.time ≤ s.time + f.tolerance = grind (arith, nat_tests, by) in
      let product : a.time * f.rate ≤ (s.time + f.tolerance) * f.rate = mul-le-mul_right f.rate most in record {
        place = 0;
        moment = moment_of f s a;
        same = grind (arith, nat_tests, raw);
        latest = record { known = omega arith; since = omega arith; until = until_later f s a later rise none };
        begins = omega arith;
        ends = omega (arith, product);
      }
  | inr there ↦
      let r : WasLatest f later s = right_is_latest f s later (λ i j d le lt. rise (suc i) (suc j) d (omega (arith, le)) (omega (arith, lt))) there in record {
        place = suc r.place;
        moment = r.moment;
        same = r.same;
        latest = record { known = omega (arith, r.latest.known); since = r.latest.since; until = until_next f a later r.place r.moment r.latest };
        begins = r.begins;
        ends = r.ends;
      }
]

-- ---- no finding, so nothing is wrong

not_true : (b : Bool) → not b ≡ true → b ≡ false
not_true true h = sym h
not_true false h = refl

no_items : {X : Type 0} (xs ys : List X) → xs ++ ys ≡ [] → (xs ≡ []) × (ys ≡ [])
no_items [] ys h = (refl, h)
no_items (x ∷ xs) ys h = absurd (cc)

no_finding : (b : Bool) (kind : Kind) (m : Mark) → finding_if b kind m ≡ [] → b ≡ false
no_finding true kind m h = absurd (cc)
no_finding false kind m h = refl

no_part : {X Y : Type 0} (f : X → List Y) (xs : List X) (k : ℕ) (d : X) → flat_map f xs ≡ [] → k < length xs → f (get_or xs k d) ≡ []
no_part f [] k d h lt = absurd (omega (arith, lt))
no_part f (x ∷ xs) zero d h lt = (no_items (f x) (flat_map f xs) h).0
no_part f (x ∷ xs) (suc k) d h lt = no_part f xs k d (no_items (f x) (flat_map f xs) h).1 (omega (arith, lt))

no_place : {Y : Type 0} (f : ℕ → List Y) (n k : ℕ) → flat_map f (range_with_len 0 n) ≡ [] → k < n → f k ≡ []
no_place {Y} f n k h lt =
    let sum : 0 + k ≡ k = omega arith in
    let is : get_or (range_with_len 0 n) k 0 ≡ k = get_or-range_with_len 0 n k 0 lt ∙ sum in
    subst (λ (i : ℕ). f i ≡ []) is (no_part f (range_with_len 0 n) k 0 h (omega (arith, lt, length-range_with_len 0 n)))

-- of an ok output there is no finding, and it sent something
quiet_sends : (none unheard many : Bool) → (if none then (if unheard then verdict.NotSent else verdict.TooShort) else if many then verdict.Ok else verdict.TooShort) ≡ verdict.Ok → none ≡ false
quiet_sends true true many h = absurd (cc)
quiet_sends true false many h = absurd (cc)
quiet_sends false unheard many h = refl

picked : (alike empty unsent : Bool) (quiet : Verdict) → (if alike then verdict.Alike else if empty then quiet else if unsent then verdict.NotSent else verdict.Bad) ≡ verdict.Ok → (alike ≡ false) × (empty ≡ true) × (quiet ≡ verdict.Ok)
picked true empty unsent quiet h = absurd (cc)
picked false true unsent quiet h = (refl, refl, h)
picked false false true quiet h = absurd (cc)
picked false false false quiet h = absurd (cc)

is_empty : (found : List Finding) → (length found == 0) ≡ true → found ≡ []
is_empty [] h = refl
is_empty (x ∷ found) h = let none : length (x ∷ found) ≡ 0 = grind (arith, nat_tests, h) in absurd (omega (arith, none))

ok_by : (alike : Bool) (heard sent known : ℕ) (found : List Finding) → verdict_of alike heard sent known found ≡ verdict.Ok → (alike ≡ false) × (found ≡ []) × (0 < sent)
ok_by alike heard sent known found h =
    let parts = picked alike (length found == 0) (sent == 0) (quiet_verdict heard sent known) h in
    let none : (sent == 0) ≡ false = quiet_sends (sent == 0) (heard == 0) (nat_le 2 sent && nat_lt 0 known) parts.2 in
    (parts.0, is_empty found parts.1, grind (arith, nat_tests, none))

pub ok_finds_none : (duties : List Duty) (d : Duty) (r : Recording) → (judgement_of duties d r).verdict ≡ verdict.Ok
    → (findings d.facts (span_of d.group r) (accepted_by d r) (sent_by d r) ≡ []) × (0 < length (sent_by d r))
unfolding judgement_by
ok_finds_none duties d r h =
    let known = known_sends d.facts (span_of d.group r) (accepted_by d r) (sent_by d r) in
    let parts = ok_by (is_alike duties d) (length (accepted_by d r)) (length (sent_by d r)) known (found_at duties d r) h in
    (ap (λ (b : Bool). if b then [] else findings d.facts (span_of d.group r) (accepted_by d r) (sent_by d r)) (sym parts.0) ∙ parts.1, parts.2)

-- of such an output each send is right and in time
record SendIsRight (f : Facts) (span : Span) (accepted sends : List Mark) (k : ℕ) : Type 0 where
  pub value : value_findings f span accepted (mark_at sends k) ≡ []
  pub soon : is_soon f sends k ≡ false
  pub late : is_late f span accepted sends k ≡ false

each_send : (f : Facts) (span : Span) (accepted sends : List Mark) (k : ℕ) → findings f span accepted sends ≡ [] → k < length sends → SendIsRight f span accepted sends k
unfolding findings send_findings
each_send f span accepted sends k none lt =
    let of_sends = (no_items (flat_map (send_findings f span accepted sends) (range_with_len 0 (length sends))) (end_findings f span accepted sends ++ all_missed f span accepted sends) none).0 in
    let of_send = no_place (send_findings f span accepted sends) (length sends) k of_sends lt in
    let s = mark_at sends k in
    let value = no_items (value_findings f span accepted s) (finding_if (is_soon f sends k) Soon s ++ (finding_if (is_late f span accepted sends k) Late s ++ finding_if (is_again f span accepted sends k) Again s)) of_send in
    let times = no_items (finding_if (is_soon f sends k) Soon s) (finding_if (is_late f span accepted sends k) Late s ++ finding_if (is_again f span accepted sends k) Again s) value.1 in
    let rest = no_items (finding_if (is_late f span accepted sends k) Late s) (finding_if (is_again f span accepted sends k) Again s) times.1 in record {
      value = value.0;
      soon = no_finding (is_soon f sends k) Soon s times.0;
      late = no_finding (is_late f span accepted sends k) Late s rest.0;
    }

right_by : (a b : Bool) → not a ≡ false → (a && not b) ≡ false → b ≡ true
right_by true true h g = refl
right_by true false h g = absurd (true≢false g)
right_by false b h g = absurd (true≢false h)

known_value : (f : Facts) (accepted : List Mark) (s : Mark) (known : Bool) → known ≡ true → (if known then finding_if (is_wrong f accepted s) Wrong s ++ finding_if (is_stale f accepted s) Stale s else []) ≡ [] → is_right f s accepted ≡ true
known_value f accepted s true e h =
    let parts = no_items (finding_if (is_wrong f accepted s) Wrong s) (finding_if (is_stale f accepted s) Stale s) h in
    right_by (is_accepted f accepted s) (is_right f s accepted) (no_finding (is_wrong f accepted s) Wrong s parts.0) (no_finding (is_stale f accepted s) Stale s parts.1)
known_value f accepted s false e h = absurd (true≢false (sym e))

first_past : (f : Facts) (t : ℕ) (xs : List Mark) → 0 < length xs → is_past f t (mark_at xs 0) ≡ true → option_map_or (is_past f t) (slice_get xs 0) false ≡ true
first_past f t [] lt h = absurd (omega (arith, lt))
first_past f t (x ∷ xs) lt h = h

within_is_known : (f : Facts) (span : Span) (accepted : List Mark) (t : ℕ) → IsWithinLog f span accepted t → is_known f span accepted t ≡ true
within_is_known f span accepted t w =
    let after = w.after in
    let past : is_past f t (mark_at accepted 0) ≡ true = grind (arith, nat_tests, after) in
    let first = first_past f t accepted w.some past in
    let before = w.before in
    let end : nat_lt (t + f.tolerance) span.heard ≡ true = grind (arith, nat_tests, before) in
    rw first end

pub sends_are_right : (f : Facts) (span : Span) (accepted sends : List Mark) (k : ℕ) → IsNonDecreasingBy (λ (a : Mark). a.time) accepted → findings f span accepted sends ≡ [] → k < length sends → IsWithinLog f span accepted (time_at sends k)
    → WasLatest f accepted (mark_at sends k)
sends_are_right f span accepted sends k rise none lt within =
    let r = each_send f span accepted sends k none lt in
    let known = within_is_known f span accepted (time_at sends k) within in
    right_is_latest f (mark_at sends k) accepted rise (known_value f accepted (mark_at sends k) (is_known f span accepted (time_at sends k)) known r.value)

-- ---- holds

not_left : (a b : Bool) → (a && not b) ≡ false → a ≡ true → b ≡ true
not_left true true h e = refl
not_left true false h e = absurd (true≢false h)
not_left false b h e = absurd (true≢false (sym e))

used_if_sent : (f : Facts) (first hold last t : ℕ) (a : Mark) (test : Bool) → test ≡ true → (if test then is_by f t a else is_by f first a && has_room f hold last a) ≡ true → is_by f t a ≡ true
used_if_sent f first hold last t a true e h = h
used_if_sent f first hold last t a false e h = absurd (true≢false (sym e))

used_if_unlogged : (f : Facts) (first hold last t : ℕ) (a : Mark) (test : Bool) → test ≡ false → (if test then is_by f t a else is_by f first a && has_room f hold last a) ≡ true → (is_by f first a && has_room f hold last a) ≡ true
used_if_unlogged f first hold last t a true e h = absurd (true≢false e)
used_if_unlogged f first hold last t a false e h = h

-- no word had to be sent
used_at : (f : Facts) (span : Span) (accepted sends : List Mark) (k hold i : ℕ) → list_any (is_left f span sends k hold) accepted ≡ false → i < length accepted
    → (time_at accepted i + f.tolerance) * f.rate + 36000000 < time_at sends (k - 1) * f.rate + f.period * 36000000 → may_be_used_up f span sends k hold (mark_at accepted i) ≡ true
used_at f span accepted sends k hold i none lt before =
    let out : is_left f span sends k hold (mark_at accepted i) ≡ false = none_at_place (is_left f span sends k hold) accepted i no_mark none lt in
    let early : is_before_next f (time_at sends (k - 1)) (mark_at accepted i) ≡ true = grind (arith, nat_tests, before) in
    not_left (is_before_next f (time_at sends (k - 1)) (mark_at accepted i)) (may_be_used_up f span sends k hold (mark_at accepted i)) out early

held_by : (f : Facts) (span : Span) (accepted sends : List Mark) (k hold : ℕ) → f.hold ≡ Some hold → list_any (is_left f span sends k hold) accepted ≡ false → IsHeld f span accepted sends k
held_by f span accepted sends k hold is none = record {
  hold = hold;
  held = is;
  sent = λ i le lt before.
      let by : is_by f (time_at sends (k - hold)) (mark_at accepted i) ≡ true =
      used_if_sent f span.first hold (time_at sends (k - 1)) (time_at sends (k - hold)) (mark_at accepted i) (nat_le hold k) (grind (arith, nat_tests, le)) (used_at f span accepted sends k hold i none lt before) in
      grind (arith, nat_tests, by);
  unlogged = λ i few lt before.
      let both = used_if_unlogged f span.first hold (time_at sends (k - 1)) (time_at sends (k - hold)) (mark_at accepted i) (nat_le hold k) (grind (arith, nat_tests, few)) (used_at f span accepted sends k hold i none lt before) in
      let by : is_by f span.first (mark_at accepted i) ≡ true = grind (arith, both) in
      let room : has_room f hold (time_at sends (k - 1)) (mark_at accepted i) ≡ true = grind (arith, both) in
      (grind (arith, nat_tests, by), grind (arith, nat_tests, room));
}

excused_is_held : (f : Facts) (span : Span) (accepted sends : List Mark) (k : ℕ) (hold : Option ℕ) → f.hold ≡ hold
    → option_map_or (λ h. not (list_any (is_left f span sends k h) accepted)) hold false ≡ true → IsHeld f span accepted sends k
excused_is_held f span accepted sends k None is h = absurd (true≢false (sym h))
excused_is_held f span accepted sends k (Some hold) is h = held_by f span accepted sends k hold is (not_true (list_any (is_left f span sends k hold) accepted) h)

late_by : (a b : Bool) → (a && not b) ≡ false → (a ≡ false) ⊎ (b ≡ true)
late_by false b h = inl refl
late_by true true h = inr refl
late_by true false h = absurd (true≢false h)

pub sends_are_in_time : (f : Facts) (span : Span) (accepted sends : List Mark) (k : ℕ) → findings f span accepted sends ≡ [] → 0 < k → k < length sends → IsInTime f span accepted sends k
sends_are_in_time f span accepted sends k none more lt =
    let r = each_send f span accepted sends k none lt in
    let soon : is_soon f sends k ≡ false = r.soon in record {
      soonest = grind (arith, nat_tests, soon, more);
      latest = elim (late_by (is_far f sends k) (is_excused f span accepted sends k) r.late) [
        | inl near ↦ inl (grind (arith, nat_tests, near, more))
        | inr excused ↦ inr (excused_is_held f span accepted sends k f.hold refl excused)
      ];
    }

-- ---- the end

not_silent : (f : Facts) (span : Span) (accepted sends : List Mark) → findings f span accepted sends ≡ [] → is_silent f span accepted sends ≡ false
unfolding findings end_findings
not_silent f span accepted sends none =
    let rest = (no_items (flat_map (send_findings f span accepted sends) (range_with_len 0 (length sends))) (end_findings f span accepted sends ++ all_missed f span accepted sends) none).1 in
    let end = (no_items (end_findings f span accepted sends) (all_missed f span accepted sends) rest).0 in
    no_finding (is_silent f span accepted sends) Silent (mark_at sends (length sends - 1)) end

pub ends_in_time : (f : Facts) (span : Span) (accepted sends : List Mark) → findings f span accepted sends ≡ [] → 0 < length sends → EndsInTime f span accepted sends
ends_in_time f span accepted sends none some =
    elim (late_by (is_ended f span sends) (is_excused f span accepted sends (length sends)) (not_silent f span accepted sends none)) [
      | inl near ↦ inl (grind (arith, nat_tests, near, some))
      | inr excused ↦ inr (excused_is_held f span accepted sends (length sends) f.hold refl excused)
    ]
