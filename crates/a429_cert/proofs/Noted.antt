-- The outputs that lines list, by their places.
use Rattle.std.proofs.Common.{◌≡◌, ℕ, zero, suc, ◌+◌, ◌<◌, ◌≤◌, Bool, true, false, ◌||◌, List, [], ◌∷◌, ◌++◌, length, get_or, take, drop, map, Option, Some, None, refl, sym, ap, ◌∙◌, arith, inl, inr}
use Rattle.std.specs.Prelude.{nat_lt, position, slice_set, slice_index_or, replicate}
use Rattle.std.specs.List.{find, position_or_len}
use Rattle.std.specs.Str.{bytes_eq}
use Rattle.std.proofs.lemmas.Bool.{cases_Bool, cases_lt}
use Rattle.std.proofs.lemmas.Bool.Decides.{nat_tests}
use Rattle.std.proofs.lemmas.List.{get_or-drop, get_or-replicate, get_or-set_other, get_or-set_same, get_or-take, length-drop, length-set, length-take, map-append}
use Rattle.std.proofs.lemmas.List.Elements.{All-push, All-same}
use Rattle.std.proofs.lemmas.List.Quantifiers.{position-Some}
use Rattle.std.proofs.lemmas.List.Sums.{position_or_len_is}
use Rattle.std.proofs.lemmas.Option.{same_Some, slice_get-get_or}
use Rattle.a429_word.proofs.Lists.{false_unless, none_passes}
use Rattle.a429_equipment.specs.Sound.{HaveOwn}
use Rattle.a429_cert.specs.declared.due.DueOutput.{DueOutput}
use Rattle.a429_cert.specs.declared.earlier.Earlier.{Earlier}
use Rattle.a429_cert.specs.declared.line.OutputLine.{OutputLine}
use Rattle.a429_cert.specs.Spelling.{Listing}
use Rattle.a429_cert.specs.Views.{listing}
use Rattle.a429_cert.specs.Earlier.{AreListed, AreNoted}
use Rattle.a429_cert.specs.Faults.{is_listed, place_of}
use Rattle.a429_cert.proofs.Again.{same_again}
use Rattle.a429_cert.proofs.CheckedPlans.{same_bytes}
use Rattle.a429_cert.proofs.DueOutputs.{nothing_due}

abbrev pub has_source : List ℕ → DueOutput → Bool
has_source source o = bytes_eq o.source source

-- ---- the first element that passes a test

pub first_passes : {X : Type 0} (p : X → Bool) (xs : List X) (i : ℕ) (d : X) → i < length xs → p (get_or xs i d) ≡ true
    → ((k : ℕ) → k < i → p (get_or xs k d) ≡ false) → position p xs ≡ Some i
first_passes p xs i d below here before =
    let at : position_or_len p xs ≡ i = position_or_len_is p xs i d (omega arith) before (λ _. here) in
    let within : nat_lt (position_or_len p xs) (length xs) ≡ true = grind (arith, nat_tests, at, below) in
    rw (within, at) refl

pub none_passes_all : {X : Type 0} (p : X → Bool) (xs : List X) (d : X) → ((k : ℕ) → k < length xs → p (get_or xs k d) ≡ false) → position p xs ≡ None
none_passes_all p xs d none =
    let all : position_or_len p xs ≡ length xs = position_or_len_is p xs (length xs) d (omega arith) none (λ below. absurd (omega (arith, below))) in
    let past : nat_lt (position_or_len p xs) (length xs) ≡ false = grind (arith, nat_tests, all) in
    rw past refl

fails_at : {X : Type 0} (p : X → Bool) (xs : List X) (k : ℕ) (d : X) → position p xs ≡ None → k < length xs → p (get_or xs k d) ≡ false
fails_at p xs k d none below = none_passes p xs none k (get_or xs k d) (slice_get-get_or xs k d below)

find_at : {X : Type 0} (p : X → Bool) (xs : List X) (i : ℕ) (d : X) → i < length xs → p (get_or xs i d) ≡ true
    → ((k : ℕ) → k < i → p (get_or xs k d) ≡ false) → find p xs ≡ Some (get_or xs i d)
find_at p [] i d below here before = absurd (omega arith)
find_at p (x ∷ xs) zero d below here before = rw here refl
find_at p (x ∷ xs) (suc i) d below here before = rw (before 0 (omega arith)) (find_at p xs i d (omega arith) here (λ k less. before (suc k) (omega arith)))

find_none : {X : Type 0} (p : X → Bool) (xs : List X) (d : X) → ((k : ℕ) → k < length xs → p (get_or xs k d) ≡ false) → find p xs ≡ None
find_none p [] d none = refl
find_none p (x ∷ xs) d none = rw (none 0 (omega arith)) (find_none p xs d (λ k below. none (suc k) (omega arith)))

-- ---- the output with a source, by its place

pub output_at : (source : List ℕ) (os : List DueOutput) (i : ℕ) → place_of source os ≡ Some i → find (has_source source) os ≡ Some (get_or os i nothing_due)
output_at source os i e =
    let there = position-Some (has_source source) os i nothing_due e in
    find_at (has_source source) os i nothing_due there.0 there.1 there.2

pub no_output : (source : List ℕ) (os : List DueOutput) → place_of source os ≡ None → find (has_source source) os ≡ None
no_output source os e = find_none (has_source source) os nothing_due (λ k below. fails_at (has_source source) os k nothing_due e below)

pub place_within : (source : List ℕ) (os : List DueOutput) (i : ℕ) → place_of source os ≡ Some i → i < length os
place_within source os i e = (position-Some (has_source source) os i nothing_due e).0

only_one : (source : List ℕ) (os : List DueOutput) (i j : ℕ) → HaveOwn (λ o. o.source) os → i < length os → j < length os
    → has_source source (get_or os i nothing_due) ≡ true → has_source source (get_or os j nothing_due) ≡ true → i ≡ j
only_one source os i j own low-i low-j at-i at-j =
    let x : DueOutput = get_or os i nothing_due in
    let y : DueOutput = get_or os j nothing_due in
    own i j x y (slice_get-get_or os i nothing_due low-i) (slice_get-get_or os j nothing_due low-j) (same_bytes x.source source at-i ∙ sym (same_bytes y.source source at-j))

pub found_after : (source : List ℕ) (os : List DueOutput) (from k : ℕ) → HaveOwn (λ o. o.source) os → place_of source (drop from os) ≡ Some k
    → place_of source os ≡ Some (from + k)
found_after source os from k own e =
    let there = position-Some (has_source source) (drop from os) k nothing_due e in
    let at : has_source source (get_or os (from + k) nothing_due) ≡ true = ap (has_source source) (sym (get_or-drop from os k nothing_due)) ∙ there.1 in
    let below : from + k < length os = omega (arith, there.0, length-drop from os) in
    first_passes (has_source source) os (from + k) nothing_due below at
    (λ j less. false_unless _ (λ same. let one = only_one source os j (from + k) own (omega (arith, less, below)) below same at in absurd (omega (arith, one, less))))

pub found_before : (source : List ℕ) (os : List DueOutput) (from : ℕ) (r : Option ℕ) → from ≤ length os → place_of source (drop from os) ≡ None
    → place_of source (take from os) ≡ r → place_of source os ≡ r
found_before source os from None low none e =
    none_passes_all (has_source source) os nothing_due (λ k below. elim (cases_lt k from) [
      | inl before ↦
          let within : k < length (take from os) = omega (arith, before, low, length-take from os) in
          ap (has_source source) (sym (get_or-take from os k nothing_due before)) ∙ fails_at (has_source source) (take from os) k nothing_due e within
      | inr after ↦ fails_later k below after
    ])
  where
    fails_later : (k : ℕ) → k < length os → from ≤ k → has_source source (get_or os k nothing_due) ≡ false
    fails_later k below after =
        let (j, split) = apart k from after in
        let within : j < length (drop from os) = omega (arith, below, split, length-drop from os) in
        ap (λ (n : ℕ). has_source source (get_or os n nothing_due)) split ∙ ap (has_source source) (sym (get_or-drop from os j nothing_due))
        ∙ fails_at (has_source source) (drop from os) j nothing_due none within
      where
        apart : (a b : ℕ) → b ≤ a → (j : ℕ) × (a ≡ b + j)
        apart a zero le = (a, omega arith)
        apart zero (suc b) le = absurd (omega arith)
        apart (suc a) (suc b) le = let (j, e) = apart a b (omega arith) in (j, omega (arith, e))
found_before source os from (Some k) low none e =
    let there = position-Some (has_source source) (take from os) k nothing_due e in
    let before : k < from = omega (arith, there.0, length-take from os) in
    let below : k < length os = omega (arith, before, low) in
    let same : (j : ℕ) → j < from → get_or (take from os) j nothing_due ≡ get_or os j nothing_due = λ j less. get_or-take from os j nothing_due less in
    first_passes (has_source source) os k nothing_due below (ap (has_source source) (sym (same k before)) ∙ there.1)
    (λ j less. ap (has_source source) (sym (same j (omega (arith, less, before)))) ∙ there.2 j less)

-- ---- the flags of outputs that are listed

pub none_listed : (os : List DueOutput) → AreListed os (replicate (length os) false) []
none_listed os = λ source place at. get_or-replicate (length os) place false false (place_within source os place at)

listed_push : (lines : List Listing) (l : Listing) (source : List ℕ) (b : Bool) → bytes_eq l.source source ≡ b → is_listed (lines ++ l ∷ []) source ≡ (is_listed lines source || b)
listed_push [] l source true e = rw e refl
listed_push [] l source false e = rw e refl
listed_push (k ∷ ks) l source b e = or_first (bytes_eq k.source source) _ _ _ (listed_push ks l source b e)
  where
    or_first : (a c x y : Bool) → c ≡ (x || y) → (a || c) ≡ ((a || x) || y)
    or_first true c x y h = refl
    or_first false c x y h = h

or_true : (a : Bool) → (a || true) ≡ true
or_true true = refl
or_true false = refl

or_false : (a : Bool) → (a || false) ≡ a
or_false true = refl
or_false false = refl

pub listed_more : (os : List DueOutput) (flags : List Bool) (lines : List Listing) (l : Listing) (place : ℕ) → place_of l.source os ≡ Some place → length flags ≡ length os
    → AreListed os flags lines → AreListed os (slice_set flags place true) (lines ++ l ∷ [])
listed_more os flags lines l place at count listed = λ source other at-other. elim (cases_Bool (bytes_eq l.source source)) [
  | inl same ↦
      let one : place ≡ other = same_Some place other (sym at ∙ ap (λ (s : List ℕ). place_of s os) (same_bytes l.source source same) ∙ at-other) in
      let below : place < length flags = omega (arith, count, place_within l.source os place at) in
      ap (λ (n : ℕ). slice_index_or (slice_set flags place true) n false) (sym one) ∙ get_or-set_same flags place true false below
      ∙ sym (listed_push lines l source true same ∙ or_true (is_listed lines source))
  | inr differs ↦
      let here = (position-Some (has_source l.source) os place nothing_due at).1 in
      let there = (position-Some (has_source source) os other nothing_due at-other).1 in
      let apart : other ≡ place → ⊥ = λ one.
      let named : (get_or os place nothing_due).source ≡ source = ap (λ (n : ℕ). (get_or os n nothing_due).source) (sym one) ∙ same_bytes _ _ there in
      let same : l.source ≡ source = sym (same_bytes _ _ here) ∙ named in
      absurd (true_is_not (bytes_eq l.source source) (same_again l.source source same) differs) in
      get_or-set_other flags place other true false apart ∙ listed source other at-other
      ∙ sym (listed_push lines l source false differs ∙ or_false (is_listed lines source))
]
  where
    true_is_not : (b : Bool) → b ≡ true → b ≡ false → ⊥
    true_is_not true t f = cc
    true_is_not false t f = cc

pub noted_more : (os : List DueOutput) (old new : Earlier) (l : OutputLine) (place : ℕ) → AreNoted os old → place_of l.source.now os ≡ Some place → 0 < l.period
    → new.lines.items ≡ old.lines.items ++ l ∷ [] → new.listed.items ≡ slice_set old.listed.items place true → new.last ≡ place → AreNoted os new
noted_more os old new l place noted at positive lines listed last =
    let P : OutputLine → Type 0 = λ l. 0 < l.period in
    let within = place_within l.source.now os place at in
    let views : map listing new.lines.items ≡ map listing old.lines.items ++ listing l ∷ [] = ap (map listing) lines ∙ map-append listing old.lines.items (l ∷ []) in
    record {
      count = ap length listed ∙ length-set old.listed.items place true ∙ noted.count;
      last = omega (arith, last, within);
      listed = rw (listed, views) (listed_more os old.listed.items (map listing old.lines.items) (listing l) place at noted.count noted.listed);
      periods = All-same P _ _ lines (All-push P old.lines.items l noted.periods positive);
    }
