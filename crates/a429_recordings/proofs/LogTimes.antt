-- The times of the words of logs: they never fall, and each is below 10^14 microseconds.
use Rattle.std.proofs.Common.{◌≡◌, ◌∙◌, ◌+◌, ◌-◌, ◌*◌, ◌++◌, ◌^◌, ◌<◌, ◌≤◌, ℕ, zero, suc, true, false, Bool, List, [], ◌∷◌, ap, inl, inr, refl, sym, arith, subst}
use Rattle.std.specs.Prelude.{⊤, Option, Some, None, Result, Ok, Err, if◌then◌else◌, nat_lt, option_and_then, option_map, slice_get}
use Rattle.std.proofs.Math.Nat.{mul-le-mul_left, mul-le-mul_right}
use Rattle.std.proofs.lemmas.Bool.{cases_lt}
use Rattle.std.proofs.lemmas.Bool.Decides.{nat_tests}
use Rattle.std.proofs.lemmas.Option.{none-some, same_Some}
use Rattle.a429_word.proofs.Lists.{same_Ok}
use Rattle.a429_logs.specs.LogRows.{Stated}
use Rattle.a429_logs.specs.Logs.{NoneBefore, WordAt, series_entries}
use Rattle.a429_logs.specs.declared.reader.LogFault.{LogFault}
use Rattle.a429_logs.specs.declared.reading.Reading.{Reading}
use Rattle.a429_logs.proofs.NeverFall.{series_fall}
use Rattle.a429_align.specs.Corrections.{corrected, part_of}
use Rattle.a429_arguments.specs.declared.times.Drift.{Drift}
use Rattle.a429_arguments.specs.declared.times.Drift.TheVariants as drift
use Rattle.a429_arguments.specs.declared.times.Shift.{Shift}
use Rattle.a429_arguments.specs.declared.times.Shift.TheVariants as shift
use Rattle.a429_recordings.specs.LogItems.{items_from, items_of, items_then}
use Rattle.a429_recordings.specs.LogViews.{View, is_ignored, items_by, moved, shifted, since, taken, taken_at, time_in, up_to, viewed}
use Rattle.a429_recordings.specs.declared.logs.views.ClockMove.{ClockMove}

-- ---- times as they are taken

-- a time that is moved by a shift, or 0 if it is moved to before that
abbrev by_shift : Shift → ℕ → ℕ
by_shift (shift.Later by) t = t + by
by_shift (shift.Earlier by) t = t - by

-- a time without the drift of its clock, of any number of bits
abbrev by_drift : Drift → ℕ → ℕ
by_drift (drift.Fast parts) t = t - part_of t parts
by_drift (drift.Slow parts) t = t + part_of t parts

-- the same on another clock
abbrev by_clock : ClockMove → ℕ → ℕ
by_clock clock t = by_shift clock.shift (by_drift clock.drift t)

-- the same as it is counted, or 0 if it is before the time from which that is
abbrev pub moved_to : View → ℕ → ℕ
moved_to view t = by_clock view.clock t - view.from

later_shifted : (by : Shift) (s t : ℕ) → s ≤ t → by_shift by s ≤ by_shift by t
later_shifted (shift.Later by) s t after = omega (arith, after)
later_shifted (shift.Earlier by) s t after = omega (arith, after)

-- a part of a longer time is longer by at most what the time is longer
part_more : (s t parts : ℕ) → s ≤ t → parts ≤ 1000000000 → part_of t parts ≤ part_of s parts + (t - s)
part_more s t parts after few =
    let d : ℕ = t - s in
    let longer : t ≡ s + d = omega (arith, after) in
    let split : t * parts ≡ s * parts + d * parts = ap (λ (n : ℕ). n * parts) longer ∙ omega arith in
    let small : d * parts ≤ d * 1000000000 = mul-le-mul_left d few in
    omega (arith, split, small)

part_later : (s t parts : ℕ) → s ≤ t → part_of s parts ≤ part_of t parts
part_later s t parts after =
    let more : s * parts ≤ t * parts = mul-le-mul_right parts after in
    omega (arith, more)

-- from 10^9 parts on nothing is left
part_all : (t parts : ℕ) → 1000000000 ≤ parts → t ≤ part_of t parts
part_all t parts many =
    let more : t * 1000000000 ≤ t * parts = mul-le-mul_left t many in
    omega (arith, more)

later_drifted : (by : Drift) (s t : ℕ) → s ≤ t → by_drift by s ≤ by_drift by t
later_drifted (drift.Slow parts) s t after = omega (arith, after, part_later s t parts after)
later_drifted (drift.Fast parts) s t after = elim (cases_lt parts 1000000000) [
  | inl few ↦ omega (arith, after, part_more s t parts after (omega (arith, few)))
  | inr many ↦ omega (arith, part_all s parts many)
]

later_moved : (view : View) (s t : ℕ) → s ≤ t → moved_to view s ≤ moved_to view t
later_moved view s t after =
    omega (arith, later_shifted view.clock.shift (by_drift view.clock.drift s) (by_drift view.clock.drift t) (later_drifted view.clock.drift s t after))

taken_within : (small : Bool) (n t : ℕ) → (if small then Some n else None) ≡ Some t → t ≡ n
taken_within false n t is = absurd (cc is)
taken_within true n t is = sym (same_Some n t is)

taken_without : (out : Bool) (n t : ℕ) → (if out then None else Some n) ≡ Some t → t ≡ n
taken_without true n t is = absurd (cc is)
taken_without false n t is = sym (same_Some n t is)

is_shifted : (by : Shift) (t u : ℕ) → shifted by t ≡ Some u → u ≡ by_shift by t
is_shifted (shift.Later by) t u is = taken_within (nat_lt (t + by) (2 ^ 64)) (t + by) u is
is_shifted (shift.Earlier by) t u is = taken_without (nat_lt t by) (t - by) u is

is_corrected : (by : Drift) (t u : ℕ) → corrected by t ≡ Some u → u ≡ by_drift by t
is_corrected (drift.Fast parts) t u is = taken_within (nat_lt (t - part_of t parts) (2 ^ 64)) (t - part_of t parts) u is
is_corrected (drift.Slow parts) t u is = taken_within (nat_lt (t + part_of t parts) (2 ^ 64)) (t + part_of t parts) u is

is_moved : (clock : ClockMove) (t u : ℕ) (c : Option ℕ) → corrected clock.drift t ≡ c → option_and_then (shifted clock.shift) c ≡ Some u → u ≡ by_clock clock t
is_moved clock t u None first is = absurd (cc is)
is_moved clock t u (Some m) first is = is_shifted clock.shift m u is ∙ ap (by_shift clock.shift) (is_corrected clock.drift t m first)

is_up_to : (until : Option ℕ) (t u : ℕ) → up_to until t ≡ Some u → u ≡ t
is_up_to None t u is = sym (same_Some t u is)
is_up_to (Some last) t u is = taken_without (nat_lt last t) t u is

is_counted : (view : View) (m t : ℕ) (s : Option ℕ) → since view.from m ≡ s → option_and_then (up_to view.until) s ≡ Some t → t ≡ m - view.from
is_counted view m t None first is = absurd (cc is)
is_counted view m t (Some s) first is = is_up_to view.until s t is ∙ taken_without (nat_lt m view.from) (m - view.from) s first

is_time_in : (view : View) (t u : ℕ) (m : Option ℕ) → moved view.clock t ≡ m
    → option_and_then (up_to view.until) (option_and_then (since view.from) m) ≡ Some u → u ≡ moved_to view t
is_time_in view t u None first is = absurd (cc is)
is_time_in view t u (Some m) first is =
    is_counted view m u (since view.from m) refl is ∙ ap (λ (n : ℕ). n - view.from) (is_moved view.clock t m (corrected view.clock.drift t) refl first)

-- a word that is taken has its time moved
has_moved : (view : View) (w v : Stated) (ignored : Bool) (t : Option ℕ) → time_in view w.time ≡ t
    → (if ignored then None else option_map (taken_at view w) t) ≡ Some v → v.time ≡ moved_to view w.time
has_moved view w v true t at is = absurd (cc is)
has_moved view w v false None at is = absurd (cc is)
has_moved view w v false (Some t) at is =
    ap (λ (u : Stated). u.time) (sym (same_Some (taken_at view w t) v is)) ∙ is_time_in view w.time t (moved view.clock w.time) refl at

module _ {A : Type 0} (time : A → ℕ) where
  -- no time is below this one, nor below the time before it, and each is below 10^14
  abbrev pub AreTimed : ℕ → List A → Type 0
  AreTimed last [] = ⊤
  AreTimed last (x ∷ xs) = (last ≤ time x) × (time x < 100000000000000) × AreTimed (time x) xs

  -- an item has this time, which is below 10^14
  abbrev pub HasTime : ℕ → A → Type 0
  HasTime t x = (time x ≡ t) × (t < 100000000000000)

  abbrev pub HaveTime : ℕ → List A → Type 0
  HaveTime t [] = ⊤
  HaveTime t (x ∷ xs) = HasTime t x × HaveTime t xs

  timed_by : {P : Type 0} (small : Bool) (t : ℕ) (make : P → A) (o : Option P) (x : A) → nat_lt t 100000000000000 ≡ small → ((p : P) → time (make p) ≡ t)
      → (if small then option_map make o else None) ≡ Some x → HasTime t x
  timed_by false t make o x test made is = absurd (cc is)
  timed_by true t make None x test made is = absurd (cc is)
  timed_by true t make (Some p) x test made is = (subst (λ (y : A). time y ≡ t) (same_Some (make p) x is) (made p), grind (arith, nat_tests))

  -- an item that is made of a word with a time below 10^14
  pub timed_if : {P : Type 0} (t : ℕ) (make : P → A) (o : Option P) (x : A) → ((p : P) → time (make p) ≡ t)
      → (if nat_lt t 100000000000000 then option_map make o else None) ≡ Some x → HasTime t x
  timed_if t make o x made is = timed_by (nat_lt t 100000000000000) t make o x refl made is

  -- ---- words as they are taken

  -- a word that becomes no item
  pub none_have : (t : ℕ) (xs : List A) → Some [] ≡ Some xs → HaveTime t xs
  none_have t xs is = subst (HaveTime t) (same_Some [] xs is) tt

  -- the one item of a word
  pub one_has : (t : ℕ) (o : Option A) (xs : List A) → ((x : A) → o ≡ Some x → HasTime t x) → option_map (λ x. x ∷ []) o ≡ Some xs → HaveTime t xs
  one_has t None xs has is = absurd (cc is)
  one_has t (Some x) xs has is = subst (HaveTime t) (same_Some (x ∷ []) xs is) (has x refl, tt)

  taken_have : (view : View) (items : Stated → Option (List A)) (s : ℕ) (v : Option Stated) (xs : List A)
      → ((w : Stated) (ys : List A) → items w ≡ Some ys → HaveTime w.time ys) → ((w : Stated) → v ≡ Some w → w.time ≡ moved_to view s)
      → items_by items v ≡ Some xs → HaveTime (moved_to view s) xs
  taken_have view items s None xs has at is = none_have (moved_to view s) xs is
  taken_have view items s (Some w) xs has at is = subst (λ (t : ℕ). HaveTime t xs) (at w refl) (has w xs is)

  viewed_have : (view : View) (items : Stated → Option (List A)) → ((w : Stated) (ys : List A) → items w ≡ Some ys → HaveTime w.time ys)
      → (w : Stated) (xs : List A) → viewed view items w ≡ Some xs → HaveTime (moved_to view w.time) xs
  viewed_have view items has w xs is =
      taken_have view items w.time (taken view w) xs has
      (λ v taken_is. has_moved view w v (is_ignored view.ignored w.name) (time_in view w.time) refl taken_is) is

  -- ---- all words

  timed_later : (last t : ℕ) (xs : List A) → last ≤ t → AreTimed t xs → AreTimed last xs
  timed_later last t [] after are = tt
  timed_later last t (x ∷ xs) after are = (omega (arith, after, are.0), are.1, are.2)

  timed_then : (last t : ℕ) (xs more : List A) → last ≤ t → HaveTime t xs → AreTimed t more → AreTimed last (xs ++ more)
  timed_then last t [] more after have are = timed_later last t more after are
  timed_then last t (x ∷ xs) more after have are = (
    subst (λ (s : ℕ). last ≤ s) (sym have.0.0) after,
    subst (λ (s : ℕ). s < 100000000000000) (sym have.0.0) have.0.1,
    subst (λ (s : ℕ). AreTimed s (xs ++ more)) (sym have.0.0) (timed_then t t xs more (omega arith) have.1 are),
  )

  by_items : (last n t : ℕ) (o : Option (List A)) (r : Result (List A) ℕ) (xs : List A) → ((own : List A) → o ≡ Some own → HaveTime t own) → last ≤ t
      → ((more : List A) → r ≡ Ok more → AreTimed t more) → items_then n o r ≡ Ok xs → AreTimed last xs
  by_items last n t None r xs has later known is = absurd (cc is)
  by_items last n t (Some own) (Err m) xs has later known is = absurd (cc is)
  by_items last n t (Some own) (Ok more) xs has later known is =
      subst (AreTimed last) (same_Ok (own ++ more) xs is) (timed_then last t own more later (has own refl) (known more refl))

  timed_from : (view : View) (item : Stated → Option (List A)) → ((w : Stated) (xs : List A) → item w ≡ Some xs → HaveTime (moved_to view w.time) xs)
      → (last : ℕ) (entries : List (Result WordAt LogFault)) (xs : List A) → NoneBefore last entries → items_from item entries ≡ Ok xs
      → AreTimed (moved_to view last) xs
  timed_from view item has last [] xs fall is = subst (AreTimed (moved_to view last)) (same_Ok [] xs is) tt
  timed_from view item has last (Err bad ∷ entries) xs fall is = absurd (cc is)
  timed_from view item has last (Ok w ∷ entries) xs fall is =
      by_items (moved_to view last) w.line (moved_to view w.word.time) (item w.word) (items_from item entries) xs (has w.word)
      (later_moved view last w.word.time fall.0) (λ more its. timed_from view item has w.word.time entries more fall.1 its) is

  -- the items of logs
  pub items_timed : (view : View) (items : Stated → Option (List A)) (reading : Reading) (logs : List (List ℕ)) (xs : List A)
      → ((w : Stated) (ys : List A) → items w ≡ Some ys → HaveTime w.time ys) → items_of (viewed view items) reading logs ≡ Ok xs
      → AreTimed (moved_to view reading.clock.last) xs
  items_timed view items reading logs xs has is =
      timed_from view (viewed view items) (viewed_have view items has) reading.clock.last (series_entries reading logs) xs (series_fall reading logs) is

  -- ---- by their places

  pub timed_in_order : (last : ℕ) (xs : List A) (i j : ℕ) (x y : A) → AreTimed last xs → j ≡ i + 1 → slice_get xs i ≡ Some x → slice_get xs j ≡ Some y → time x ≤ time y
  timed_in_order last [] i j x y are after here next = absurd (none-some x here)
  timed_in_order last (a ∷ xs) i zero x y are after here next = absurd (omega (arith, after))
  timed_in_order last (a ∷ []) zero (suc j) x y are after here next = absurd (none-some y next)
  timed_in_order last (a ∷ b ∷ xs) zero (suc zero) x y are after here next =
      subst (λ (v : A). time v ≤ time y) (same_Some a x here) (subst (λ (v : A). time a ≤ time v) (same_Some b y next) are.2.0)
  timed_in_order last (a ∷ b ∷ xs) zero (suc (suc j)) x y are after here next = absurd (omega (arith, after))
  timed_in_order last (a ∷ xs) (suc i) (suc j) x y are after here next = timed_in_order (time a) xs i j x y are.2 (omega (arith, after)) here next

  pub timed_few : (last : ℕ) (xs : List A) (i : ℕ) (x : A) → AreTimed last xs → slice_get xs i ≡ Some x → time x < 100000000000000
  timed_few last [] i x are here = absurd (none-some x here)
  timed_few last (a ∷ xs) zero x are here = subst (λ (v : A). time v < 100000000000000) (same_Some a x here) are.1
  timed_few last (a ∷ xs) (suc i) x are here = timed_few (time a) xs i x are.2 here
