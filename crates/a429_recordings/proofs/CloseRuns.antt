-- The last words at each receiver that follow each other closely, as they are counted.
use Rattle.std.proofs.Common.{◌≡◌, ◌∙◌, ◌+◌, ◌-◌, ◌^◌, ◌<◌, ◌≤◌, ℕ, zero, suc, Bool, true, false, inl, inr, List, [], ◌∷◌, ◌++◌, length, length-append, take, drop, append_assoc, append-nil, ap, refl, sym, subst, arith}
use Rattle.std.specs.Prelude.{◌==◌, Option, Some, None, if◌then◌else◌, min, nat_lt, slice_get, slice_set}
use Rattle.std.proofs.lemmas.Bool.{cases_eq, cases_lt, eq-eqb, lt-ltb, ltb-true, ne_eqb}
use Rattle.std.proofs.lemmas.List.{length-set, take-append-drop}
use Rattle.std.proofs.lemmas.List.Elements.{filter_map-append}
use Rattle.std.proofs.lemmas.Option.{none-some, same_Some, slice_get_within}
use Rattle.a429_word.proofs.Lists.{drop_at, get_set_other, get_set_same, get_within}
use Rattle.a429_recordings.specs.CloseWords.{AreClose, AreCloseFrom, AreSpaced, CountsRun, HoldsOfRuns, KeepsRun, KeepsRuns, closest_after, run_after, runs_after, times_at}
use Rattle.a429_recordings.specs.declared.simulate.close.CloseRun.{CloseRun}
use Rattle.a429_recordings.specs.declared.simulate.log.LogWord.{LogWord}
use Rattle.a429_recordings.proofs.SimulationEnds.{get_push_cases}

-- ---- the times at one receiver

close_more : (xs : List ℕ) (t last : ℕ) → AreClose xs → ((i u : ℕ) → i + 1 ≡ length xs → slice_get xs i ≡ Some u → u ≡ last) → t < last + 360 → AreClose (xs ++ t ∷ [])
close_more xs t last all ends near i a b here next = elim (get_push_cases xs t (i + 1) b next) [
  | inl old ↦ elim (get_push_cases xs t i a here) [
    | inl own ↦ all i a b own old
    | inr end ↦ absurd (omega (arith, end.0, slice_get_within xs (i + 1) b old))
  ]
  | inr new ↦ elim (get_push_cases xs t i a here) [
    | inl own ↦ omega (arith, near, new.1, ends i a new.0 own)
    | inr end ↦ absurd (omega (arith, end.0, new.0))
  ]
]

last_more : (xs : List ℕ) (t i u : ℕ) → i + 1 ≡ length (xs ++ t ∷ []) → slice_get (xs ++ t ∷ []) i ≡ Some u → u ≡ t
last_more xs t i u end here = elim (get_push_cases xs t i u here) [
  | inl old ↦ absurd (omega (arith, end, length-append xs (t ∷ []), slice_get_within xs i u old))
  | inr new ↦ new.1
]

one_close : (t : ℕ) → AreClose (t ∷ [])
one_close t i a b here next = absurd (omega (arith, slice_get_within (t ∷ []) (i + 1) b next))

run_more : (times : List ℕ) (run : CloseRun) (t : ℕ) → KeepsRun times run → KeepsRun (times ++ t ∷ []) (run_after run t)
run_more times run t K = by (nat_lt (t - run.last) 360) refl
  where
    by : (b : Bool) → nat_lt (t - run.last) 360 ≡ b → KeepsRun (times ++ t ∷ []) (run_after run t)
    by true near =
        let words : (run_after run t).words ≡ min (run.words + 1) (2 ^ 64 - 1) = rw near refl in
        let close : t - run.last < 360 = ltb-true (t - run.last) 360 near in
        record {
          before = K.before;
          close = K.close ++ t ∷ [];
          all = ap (λ (xs : List ℕ). xs ++ t ∷ []) K.all ∙ append_assoc K.before K.close (t ∷ []);
          are_close = close_more K.close t run.last K.are_close K.last (omega (arith, close));
          count = omega (arith, words, K.count, length-append K.close (t ∷ []));
          last = last_more K.close t;
        }
    by false far =
        let words : (run_after run t).words ≡ 1 = rw far refl in
        record {
          before = times;
          close = t ∷ [];
          all = refl;
          are_close = one_close t;
          count = omega (arith, words);
          last = last_more [] t;
        }

-- ---- how many times are close

get_first : (xs ys : List ℕ) (i x : ℕ) → slice_get xs i ≡ Some x → slice_get (xs ++ ys) i ≡ Some x
get_first [] ys i x here = absurd (none-some x here)
get_first (z ∷ xs) ys zero x here = here
get_first (z ∷ xs) ys (suc i) x here = get_first xs ys i x here

get_end : (xs : List ℕ) (x i : ℕ) → i ≡ length xs → slice_get (xs ++ x ∷ []) i ≡ Some x
get_end [] x i end = subst (λ (k : ℕ). slice_get (x ∷ []) k ≡ Some x) (sym end) refl
get_end (z ∷ xs) x zero end = absurd (omega (arith, end))
get_end (z ∷ xs) x (suc i) end = get_end xs x i (omega (arith, end))

front_close : (times : List ℕ) (t i n : ℕ) → AreCloseFrom (times ++ t ∷ []) i n → AreCloseFrom times i n
front_close times t i n close j a b low high here next =
    close j a b low high (get_first times (t ∷ []) j a here) (get_first times (t ∷ []) (j + 1) b next)

shorter_close : (times : List ℕ) (i n : ℕ) → AreCloseFrom times i (n + 1) → AreCloseFrom times i n
shorter_close times i n close j a b low high = close j a b low (omega (arith, high))

-- the run has one time at least, and one more than before if the last two times are close
run_begins : (run : CloseRun) (t : ℕ) → 1 ≤ (run_after run t).words
run_begins run t = by (nat_lt (t - run.last) 360) refl
  where
    by : (b : Bool) → nat_lt (t - run.last) 360 ≡ b → 1 ≤ (run_after run t).words
    by true near =
        let words : (run_after run t).words ≡ min (run.words + 1) (2 ^ 64 - 1) = rw near refl in
        omega (arith, words)
    by false far =
        let words : (run_after run t).words ≡ 1 = rw far refl in
        omega (arith, words)

run_goes_on : (run : CloseRun) (t : ℕ) → t < run.last + 360 → (run_after run t).words ≤ 100 → (run_after run t).words ≡ run.words + 1
run_goes_on run t near few =
    let less : t - run.last < 360 = omega (arith, near) in
    let words : (run_after run t).words ≡ min (run.words + 1) (2 ^ 64 - 1) = rw (lt-ltb (t - run.last) 360 less) refl in
    omega (arith, words, few)

-- close times at the end, after one more time
ends_more : (times : List ℕ) (run : CloseRun) (t : ℕ) → CountsRun times run → (run_after run t).words ≤ 100 → (i n : ℕ) → i + n ≡ length (times ++ t ∷ []) → AreCloseFrom (times ++ t ∷ []) i n → n ≤ (run_after run t).words
ends_more times run t C few i zero end close = omega arith
ends_more times run t C few i (suc zero) end close = run_begins run t
ends_more times run t C few i (suc (suc n)) end close =
    let most : i + n + 1 ≡ length times = omega (arith, end, length-append times (t ∷ [])) in
    let before : n + 1 ≤ run.words = C.ends i (n + 1) (omega (arith, most)) (front_close times t i (n + 1) (λ j a b low high. close j a b low (omega (arith, high)))) in
    let last : (x : ℕ) × (slice_get times (i + n) ≡ Some x) = get_within times (i + n) (omega (arith, most)) in
    let kept : last.0 ≡ run.last = C.last (i + n) last.0 most last.1 in
    let near : t < last.0 + 360 = close (i + n) last.0 t (omega arith) (omega arith) (get_first times (t ∷ []) (i + n) last.0 last.1) (get_end times t (i + n + 1) most) in
    let goes_on : (run_after run t).words ≡ run.words + 1 = run_goes_on run t (omega (arith, near, kept)) few in
    omega (arith, goes_on, before)

counts_more : (times : List ℕ) (run : CloseRun) (t : ℕ) → CountsRun times run → (run_after run t).words ≤ 100 → CountsRun (times ++ t ∷ []) (run_after run t)
counts_more times run t C few = record {
  most = most;
  ends = ends_more times run t C few;
  last = λ i u end here. last_more times t i u end here;
}
  where
    most : (i n : ℕ) → i + n ≤ length (times ++ t ∷ []) → AreCloseFrom (times ++ t ∷ []) i n → n ≤ 100
    most i n fits close = elim (cases_lt (i + n) (length (times ++ t ∷ []))) [
      | inl inside ↦ C.most i n (omega (arith, inside, length-append times (t ∷ []))) (front_close times t i n close)
      | inr end ↦
          let here : n ≤ (run_after run t).words = ends_more times run t C few i n (omega (arith, fits, end)) close in
          omega (arith, here, few)
    ]

-- ---- the words of a log

own_time : (r : ℕ) (w : LogWord) (words : List LogWord) → w.receiver ≡ r → times_at r (w ∷ words) ≡ w.time ∷ times_at r words
own_time r w words own =
    let is : (w.receiver == r) ≡ true = eq-eqb w.receiver r own in
    rw is refl

other_time : (r : ℕ) (w : LogWord) (words : List LogWord) → (w.receiver ≡ r → ⊥) → times_at r (w ∷ words) ≡ times_at r words
other_time r w words other =
    let is : (w.receiver == r) ≡ false = ne_eqb w.receiver r other in
    rw is refl

own_more : (r : ℕ) (words : List LogWord) (w : LogWord) → w.receiver ≡ r → times_at r (words ++ w ∷ []) ≡ times_at r words ++ w.time ∷ []
own_more r words w own =
    filter_map-append (λ (v : LogWord). if v.receiver == r then Some v.time else None) words (w ∷ [])
    ∙ ap (λ (ts : List ℕ). times_at r words ++ ts) (own_time r w [] own)

other_more : (r : ℕ) (words : List LogWord) (w : LogWord) → (w.receiver ≡ r → ⊥) → times_at r (words ++ w ∷ []) ≡ times_at r words
other_more r words w other =
    filter_map-append (λ (v : LogWord). if v.receiver == r then Some v.time else None) words (w ∷ [])
    ∙ (ap (λ (ts : List ℕ). times_at r words ++ ts) (other_time r w [] other) ∙ append-nil (times_at r words))

-- what is true of all runs is true after one more word too, if it is true of the run of its receiver
all_more : (Holds : List ℕ → CloseRun → Type 0) (words : List LogWord) (runs : List CloseRun) (w : LogWord) → HoldsOfRuns Holds words runs
    → ((run : CloseRun) → slice_get runs w.receiver ≡ Some run → Holds (times_at w.receiver words ++ w.time ∷ []) (run_after run w.time)) → HoldsOfRuns Holds (words ++ w ∷ []) (runs_after runs w)
all_more Holds words runs w K own_holds = by (slice_get runs w.receiver) refl
  where
    others : (r : ℕ) (run : CloseRun) → (w.receiver ≡ r → ⊥) → Holds (times_at r words) run → Holds (times_at r (words ++ w ∷ [])) run
    others r run other H = subst (λ (ts : List ℕ). Holds ts run) (sym (other_more r words w other)) H

    by : (x : Option CloseRun) → slice_get runs w.receiver ≡ x → HoldsOfRuns Holds (words ++ w ∷ []) (runs_after runs w)
    by None none =
        let same : runs_after runs w ≡ runs = rw none refl in
        subst (HoldsOfRuns Holds (words ++ w ∷ [])) (sym same) (λ r run here.
        others r run (λ own. none-some run (sym none ∙ (ap (slice_get runs) own ∙ here))) (K r run here))
    by (Some old) there =
        let more : CloseRun = run_after old w.time in
        let after : runs_after runs w ≡ slice_set runs w.receiver more = rw there refl in
        let own_more_holds : Holds (times_at w.receiver (words ++ w ∷ [])) more =
        subst (λ (ts : List ℕ). Holds ts more) (sym (own_more w.receiver words w refl)) (own_holds old there) in
        subst (HoldsOfRuns Holds (words ++ w ∷ [])) (sym after) (λ r run here. elim (cases_eq w.receiver r) [
          | inl own ↦
              let set : slice_get (slice_set runs w.receiver more) w.receiver ≡ Some more = get_set_same runs w.receiver more (slice_get_within runs w.receiver old there) in
              let is : more ≡ run = same_Some more run (sym set ∙ (ap (slice_get (slice_set runs w.receiver more)) own ∙ here)) in
              subst (λ (k : ℕ). Holds (times_at k (words ++ w ∷ [])) run) own (subst (Holds (times_at w.receiver (words ++ w ∷ []))) is own_more_holds)
          | inr other ↦ others r run other (K r run (sym (get_set_other runs w.receiver r more (λ same. other (sym same))) ∙ here))
        ])

many_more : (runs : List CloseRun) (w : LogWord) → length runs ≡ 16 → length (runs_after runs w) ≡ 16
many_more runs w many = by (slice_get runs w.receiver) refl
  where
    by : (x : Option CloseRun) → slice_get runs w.receiver ≡ x → length (runs_after runs w) ≡ 16
    by None none =
        let same : runs_after runs w ≡ runs = rw none refl in
        ap length same ∙ many
    by (Some old) there =
        let after : runs_after runs w ≡ slice_set runs w.receiver (run_after old w.time) = rw there refl in
        ap length after ∙ (length-set runs w.receiver (run_after old w.time) ∙ many)

pub runs_more : (words : List LogWord) (runs : List CloseRun) (w : LogWord) → KeepsRuns words runs → closest_after runs w ≤ 100 → KeepsRuns (words ++ w ∷ []) (runs_after runs w)
runs_more words runs w K few = record {
  many = many_more runs w K.many;
  keeps = all_more KeepsRun words runs w K.keeps (λ run there. run_more (times_at w.receiver words) run w.time (K.keeps w.receiver run there));
  counts = all_more CountsRun words runs w K.counts (λ run there.
      let count : closest_after runs w ≡ (run_after run w.time).words = rw there refl in
      counts_more (times_at w.receiver words) run w.time (K.counts w.receiver run there) (omega (arith, few, count)));
}

-- ---- too many

-- of the words at a receiver, these are close
ends_so : (r n : ℕ) (words : List LogWord) (w : LogWord) (run : CloseRun) (K : KeepsRun (times_at r (take n words)) run) → w.receiver ≡ r → slice_get words n ≡ Some w
    → (R : KeepsRun (times_at r (take n words) ++ w.time ∷ []) (run_after run w.time)) → times_at r words ≡ R.before ++ R.close ++ times_at r (drop (n + 1) words)
ends_so r n words w run K own here R =
    let first = times_at r (take n words) in
    let rest = times_at r (drop (n + 1) words) in
    ap (times_at r) (sym (take-append-drop n words))
    ∙ (filter_map-append (λ (v : LogWord). if v.receiver == r then Some v.time else None) (take n words) (drop n words)
    ∙ (ap (λ (ws : List LogWord). first ++ times_at r ws) (drop_at words n w here)
    ∙ (ap (λ (ts : List ℕ). first ++ ts) (own_time r w (drop (n + 1) words) own)
    ∙ (sym (append_assoc first (w.time ∷ []) rest) ∙ ap (λ (ts : List ℕ). ts ++ rest) R.all))))

pub too_close : (words : List LogWord) (n : ℕ) (runs : List CloseRun) (w : LogWord) → KeepsRuns (take n words) runs → slice_get words n ≡ Some w → 100 < closest_after runs w
    → AreSpaced words → ⊥
too_close words n runs w K here many spaced = by (slice_get runs w.receiver) refl
  where
    by : (x : Option CloseRun) → slice_get runs w.receiver ≡ x → ⊥
    by None none =
        let no_words : closest_after runs w ≡ 0 = rw none refl in
        omega (arith, no_words, many)
    by (Some run) there =
        let r : ℕ = w.receiver in
        let R : KeepsRun (times_at r (take n words) ++ w.time ∷ []) (run_after run w.time) = run_more (times_at r (take n words)) run w.time (K.keeps r run there) in
        let count : closest_after runs w ≡ (run_after run w.time).words = rw there refl in
        omega (
          arith,
          many,
          count,
          R.count,
          spaced r R.before R.close (times_at r (drop (n + 1) words)) (omega (arith, K.many, slice_get_within runs r run there)) (ends_so r n words w run (K.keeps r run there) refl here R) R.are_close,
        )

-- ---- not too many

in_front : (xs ys : List ℕ) (k x : ℕ) → k < length xs → slice_get (xs ++ ys) k ≡ Some x → slice_get xs k ≡ Some x
in_front [] ys k x less here = absurd (omega (arith, less))
in_front (z ∷ xs) ys zero x less here = here
in_front (z ∷ xs) ys (suc k) x less here = in_front xs ys k x (omega (arith, less)) here

after_front : (xs ys : List ℕ) (j k x : ℕ) → j ≡ length xs + k → slice_get (xs ++ ys) j ≡ Some x → slice_get ys k ≡ Some x
after_front [] ys j k x place here =
    let same : j ≡ k = omega (arith, place) in
    subst (λ (i : ℕ). slice_get ys i ≡ Some x) same here
after_front (z ∷ xs) ys zero k x place here = absurd (omega (arith, place))
after_front (z ∷ xs) ys (suc j) k x place here = after_front xs ys j k x (omega (arith, place)) here

few_close : (times before close after : List ℕ) (run : CloseRun) → CountsRun times run → times ≡ before ++ close ++ after → AreClose close → length close ≤ 100
few_close times before close after run C all close_ones =
    let many : length times ≡ length before + (length close + length after) =
    ap length parts ∙ (length-append before (close ++ after) ∙ ap (λ (k : ℕ). length before + k) (length-append close after)) in
    C.most (length before) (length close) (omega (arith, many)) close_from
  where
    parts : times ≡ before ++ (close ++ after)
    parts = all ∙ append_assoc before close after

    at : (j k x : ℕ) → j ≡ length before + k → k < length close → slice_get times j ≡ Some x → slice_get close k ≡ Some x
    at j k x place inside here =
        in_front close after k x inside (after_front before (close ++ after) j k x place (sym (ap (λ (ts : List ℕ). slice_get ts j) parts) ∙ here))

    close_from : AreCloseFrom times (length before) (length close)
    close_from j t u low high here next =
        let k : ℕ = j - length before in
        close_ones k t u (at j k t (omega (arith, low)) (omega (arith, low, high)) here) (at (j + 1) (k + 1) u (omega (arith, low)) (omega (arith, low, high)) next)

pub are_spaced : (words : List LogWord) (runs : List CloseRun) → KeepsRuns words runs → AreSpaced words
are_spaced words runs K r before close after inside all close_ones =
    let run : (x : CloseRun) × (slice_get runs r ≡ Some x) = get_within runs r (omega (arith, inside, K.many)) in
    few_close (times_at r words) before close after run.0 (K.counts r run.0 run.1) all close_ones
