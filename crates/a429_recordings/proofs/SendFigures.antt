-- What is kept of an output's sends, with one send more.
use Rattle.std.proofs.Common.{◌≡◌, ◌∙◌, ◌+◌, ◌-◌, ◌^◌, ◌<◌, ◌≤◌, ℕ, suc, Bool, true, false, List, [], ◌∷◌, ◌++◌, length, length-append, refl, sym, ap, arith, append_assoc, append-nil, eq-eqb, inl, inr}
use Rattle.std.specs.Prelude.{◌==◌, Option, Some, None, if◌then◌else◌, max, min, ◌||◌, slice_get}
use Rattle.std.specs.List.{AllByRecursion, fold, list_any}
use Rattle.std.proofs.lemmas.Bool.{cases_eq, ne_eqb}
use Rattle.std.proofs.lemmas.List.Sums.{fold-append}
use Rattle.std.proofs.lemmas.Option.{same_Some}
use Rattle.a429_equipment.specs.Agreement.{last_of}
use Rattle.a429_equipment.proofs.Cutting.{last_push}
use Rattle.a429_slots.specs.Times.{slots_us}
use Rattle.a429_word.proofs.Lists.{all_push}
use Rattle.a429_recordings.specs.Simulating.{listed}
use Rattle.a429_recordings.specs.Summary.{greatest_in, is_first_of, lateness, latenesses, latenesses_from, least_in, times_after, times_between}
use Rattle.a429_recordings.specs.SummaryRuns.{figures_after, figures_of, greater, is_other, late_if_other, lesser, time_since}
use Rattle.a429_recordings.specs.declared.simulate.figures.OutputSend.{OutputSend}

least_more : (xs : List ℕ) (y : Option ℕ) → least_in (xs ++ listed y) ≡ lesser (least_in xs) y
least_more [] None = refl
least_more [] (Some y) = refl
least_more (x ∷ xs) None = ap (λ (l : List ℕ). Some (fold min x l)) (append-nil xs)
least_more (x ∷ xs) (Some y) = ap (λ (n : ℕ). Some n) (fold-append min x xs (y ∷ []))

greatest_more : (xs : List ℕ) (y : Option ℕ) → greatest_in (xs ++ listed y) ≡ greater (greatest_in xs) y
greatest_more [] None = refl
greatest_more [] (Some y) = refl
greatest_more (x ∷ xs) None = ap (λ (l : List ℕ). Some (fold max x l)) (append-nil xs)
greatest_more (x ∷ xs) (Some y) = ap (λ (n : ℕ). Some n) (fold-append max x xs (y ∷ []))

-- ---- times

-- the last of sends that come after one
last_after : OutputSend → List OutputSend → OutputSend
last_after before [] = before
last_after before (s ∷ sends) = last_after s sends

last_is : (s : OutputSend) (sends : List OutputSend) → last_of (s ∷ sends) ≡ Some (last_after s sends)
unfolding last_after
last_is s [] = refl
last_is s (t ∷ sends) =
    let here : length (s ∷ t ∷ sends) - 1 ≡ suc (length (t ∷ sends) - 1) = omega arith in
    ap (slice_get (s ∷ t ∷ sends)) here ∙ last_is t sends

times_more : (rate : ℕ) (before s : OutputSend) (sends : List OutputSend)
    → times_after rate before (sends ++ s ∷ []) ≡ times_after rate before sends ++ slots_us rate (s.slot - (last_after before sends).slot) ∷ []
unfolding last_after
times_more rate before s [] = refl
times_more rate before s (t ∷ sends) = ap (λ (l : List ℕ). slots_us rate (t.slot - before.slot) ∷ l) (times_more rate t s sends)

times_push : (rate : ℕ) (sends : List OutputSend) (s : OutputSend)
    → times_between rate (sends ++ s ∷ []) ≡ times_between rate sends ++ listed (time_since rate (last_of sends) s)
times_push rate [] s = refl
times_push rate (t ∷ sends) s =
    times_more rate t s sends ∙ ap (λ (l : Option OutputSend). times_after rate t sends ++ listed (time_since rate l s)) (sym (last_is t sends))

-- ---- latenesses

lateness_push : (rate : ℕ) (earlier sends : List OutputSend) (s : OutputSend)
    → latenesses_from rate earlier (sends ++ s ∷ []) ≡ latenesses_from rate earlier sends ++ (if is_first_of (earlier ++ sends) s then lateness rate s ∷ [] else [])
lateness_push rate earlier [] s =
    append-nil (if is_first_of earlier s then lateness rate s ∷ [] else [])
    ∙ ap (λ (l : List OutputSend). if is_first_of l s then lateness rate s ∷ [] else []) (sym (append-nil earlier))
lateness_push rate earlier (t ∷ sends) s =
    let one : List ℕ = if is_first_of earlier t then lateness rate t ∷ [] else [] in
    let end : List OutputSend → List ℕ = λ l. if is_first_of l s then lateness rate s ∷ [] else [] in
    ap (λ (l : List ℕ). one ++ l) (lateness_push rate (earlier ++ t ∷ []) sends s)
    ∙ (ap (λ (l : List OutputSend). one ++ (latenesses_from rate (earlier ++ t ∷ []) sends ++ end l)) (append_assoc earlier (t ∷ []) sends)
    ∙ sym (append_assoc one (latenesses_from rate (earlier ++ t ∷ []) sends) (end (earlier ++ t ∷ sends))))

-- ---- words one after another

-- no word is later than that of number n, nor than that of the last send
pub record AreUpTo (n : ℕ) (sends : List OutputSend) : Type 0 where
  pub few : AllByRecursion (λ (e : OutputSend). e.word ≤ n) sends
  pub last : (l : OutputSend) → last_of sends ≡ Some l → AllByRecursion (λ (e : OutputSend). e.word ≤ l.word) sends

all_few : (m n : ℕ) (sends : List OutputSend) → m ≤ n → AllByRecursion (λ (e : OutputSend). e.word ≤ m) sends → AllByRecursion (λ (e : OutputSend). e.word ≤ n) sends
all_few m n [] more all = tt
all_few m n (s ∷ sends) more all = (omega (arith, all.0, more), all_few m n sends more all.1)

pub none_up_to : (n : ℕ) → AreUpTo n []
none_up_to n = record { few = tt; last = λ l is. tt }

pub up_to_later : (m n : ℕ) (sends : List OutputSend) → m ≤ n → AreUpTo m sends → AreUpTo n sends
up_to_later m n sends more U = record { few = all_few m n sends more U.few; last = U.last }

pub up_to_push : (sends : List OutputSend) (s : OutputSend) → AreUpTo s.word sends → AreUpTo s.word (sends ++ s ∷ [])
up_to_push sends s U =
    let all = all_push (λ (e : OutputSend). e.word ≤ s.word) sends s U.few (omega arith) in
    record {
      few = all;
      last = λ l is. all_few s.word l.word (sends ++ s ∷ []) (omega (arith, ap (λ (e : OutputSend). e.word) (same_Some s l (sym (last_push sends s) ∙ is)))) all;
    }

-- no earlier word is this one
none_same : (n k : ℕ) (sends : List OutputSend) → k < n → AllByRecursion (λ (e : OutputSend). e.word ≤ k) sends → list_any (λ (e : OutputSend). e.word == n) sends ≡ false
none_same n k [] below all = refl
none_same n k (s ∷ sends) below all =
    let apart : (s.word == n) ≡ false = ne_eqb s.word n (λ is. absurd (omega (arith, all.0, below, is))) in
    let later = none_same n k sends below all.1 in
    rw (apart, later) refl

-- the last word is this one
last_same : (n : ℕ) (s : OutputSend) (sends : List OutputSend) → (last_after s sends).word ≡ n → list_any (λ (e : OutputSend). e.word == n) (s ∷ sends) ≡ true
unfolding last_after
last_same n s [] is = let same : (s.word == n) ≡ true = eq-eqb s.word n is in rw same refl
last_same n s (t ∷ sends) is =
    let later = last_same n t sends is in
    rw later (or_true (s.word == n))
  where
    or_true : (b : Bool) → (b || true) ≡ true
    or_true true = refl
    or_true false = refl

last_few : (t : OutputSend) (sends : List OutputSend) (n : ℕ) → AllByRecursion (λ (e : OutputSend). e.word ≤ n) (t ∷ sends) → (last_after t sends).word ≤ n
unfolding last_after
last_few t [] n all = all.0
last_few t (u ∷ sends) n all = last_few u sends n all.1

first_is_other : (sends : List OutputSend) (s : OutputSend) → AreUpTo s.word sends → is_first_of sends s ≡ is_other (last_of sends) s
first_is_other [] s U = refl
first_is_other (t ∷ sends) s U =
    let l = last_after t sends in
    let last : last_of (t ∷ sends) ≡ Some l = last_is t sends in
    elim (cases_eq l.word s.word) [
      | inl same ↦
          let own : (l.word == s.word) ≡ true = eq-eqb l.word s.word same in
          let any = last_same s.word t sends same in
          rw (any, last, own) refl
      | inr apart ↦
          let all = U.last l last in
          let own : (l.word == s.word) ≡ false = ne_eqb l.word s.word apart in
          let below : l.word < s.word = omega (arith, apart, last_few t sends s.word U.few) in
          let none = none_same s.word l.word (t ∷ sends) below all in
          rw (none, last, own) refl
    ]

if_listed : (b : Bool) (n : ℕ) → (if b then n ∷ [] else []) ≡ listed (if b then Some n else None)
if_listed true n = refl
if_listed false n = refl

latenesses_push : (rate : ℕ) (sends : List OutputSend) (s : OutputSend) → AreUpTo s.word sends
    → latenesses rate (sends ++ s ∷ []) ≡ latenesses rate sends ++ listed (late_if_other rate (last_of sends) s)
latenesses_push rate sends s U =
    lateness_push rate [] sends s
    ∙ ap (λ (l : List ℕ). latenesses rate sends ++ l)
    (ap (λ (b : Bool). if b then lateness rate s ∷ [] else []) (first_is_other sends s U) ∙ if_listed (is_other (last_of sends) s) (lateness rate s))

-- ---- all figures

sent_more : (n : ℕ) → min (n + 1) (2 ^ 64 - 1) ≡ min (min n (2 ^ 64 - 1) + 1) (2 ^ 64 - 1)
sent_more n = grind arith

pub figures_push : (rate : ℕ) (sends : List OutputSend) (s : OutputSend) → AreUpTo s.word sends
    → figures_of rate (sends ++ s ∷ []) ≡ figures_after rate (figures_of rate sends) s
figures_push rate sends s U =
    let sent : min (length (sends ++ s ∷ [])) (2 ^ 64 - 1) ≡ min (min (length sends) (2 ^ 64 - 1) + 1) (2 ^ 64 - 1) =
    ap (λ (n : ℕ). min n (2 ^ 64 - 1)) (length-append sends (s ∷ [])) ∙ sent_more (length sends) in
    let times = times_push rate sends s in
    let least = ap least_in times ∙ least_more (times_between rate sends) (time_since rate (last_of sends) s) in
    let greatest = ap greatest_in times ∙ greatest_more (times_between rate sends) (time_since rate (last_of sends) s) in
    let late = ap greatest_in (latenesses_push rate sends s U) ∙ greatest_more (latenesses rate sends) (late_if_other rate (last_of sends) s) in
    let last = last_push sends s in
    rw (sent, last, least, greatest, late) refl
