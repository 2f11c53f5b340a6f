-- Words that are sorted by their bits.
use Rattle.std.proofs.Common.{◌≡◌, ℕ, ◌+◌, ◌*◌, ◌^◌, ◌<◌, ◌≤◌, List, length, get_or, Bool, true, false, true≢false, refl, sym, ap, ◌∙◌, inl, inr, arith}
use Rattle.std.specs.Prelude.{nat_lt, IsPermutation}
use Rattle.std.specs.List.Sorted.{IsNonDecreasingBy, IsPartitionPoint}
use Rattle.std.proofs.lemmas.Bool.{cases_lt}
use Rattle.std.proofs.lemmas.Bool.Decides.{nat_tests}
use Rattle.std.proofs.lemmas.List.{get_or_default}
use Rattle.std.proofs.lemmas.List.Sorted.{list_any-IsPermutation}
use Rattle.a429_judge.specs.declared.facts.Facts.{Facts}
use Rattle.a429_judge.specs.declared.facts.Mark.{Mark}
use Rattle.a429_judge.specs.Judging.{is_accepted, is_equal, mark_at, no_mark}
use Rattle.a429_judge.specs.Known.{word_key}
use Rattle.a429_judge.proofs.Scanning.{any_at, false_unless, none_at}

-- a word that is equal to that of a send is not before the first of the bits, and the first is equal too
first_is_equal : (raw bound : ℕ) (first a : Mark) → first.time < 2 ^ 64 → bound < 2 ^ 65 → raw * 2 ^ 66 ≤ word_key first → word_key first ≤ word_key a → a.raw ≡ raw → a.time ≤ bound → (first.raw ≡ raw) × (first.time ≤ bound)
first_is_equal raw bound first a few_first few least order is by =
    let low : raw ≤ first.raw = omega arith in
    let high : first.raw ≤ raw = omega arith in
    (omega (arith, low, high), omega (arith, low, high))

accepted_by_first : (f : Facts) (words : List Mark) (s : Mark) (place : ℕ) (b : Bool) → IsNonDecreasingBy word_key words → (mark_at words place).time < 2 ^ 64 → s.time + f.tolerance < 2 ^ 65
    → IsPartitionPoint (λ a. nat_lt (word_key a) (s.raw * 2 ^ 66) ≡ true) (λ a. nat_lt (word_key a) (s.raw * 2 ^ 66) ≡ false) words place → place < length words
    → is_equal f s (mark_at words place) ≡ b → is_accepted f words s ≡ b
accepted_by_first f words s place true order few end point lt h = any_at (is_equal f s) words place no_mark lt h
accepted_by_first f words s place false order few end point lt h =
    none_at (is_equal f s) words (λ k d within. ap (is_equal f s) (get_or_default words k d no_mark within) ∙ false_unless (is_equal f s (mark_at words k)) (λ e.
    let raw : (mark_at words k).raw ≡ s.raw = grind (arith, nat_tests, e) in
    let by : (mark_at words k).time ≤ s.time + f.tolerance = grind (arith, nat_tests, e) in
    elim (cases_lt k place) [
      | inl less ↦
          let lower : nat_lt (word_key (mark_at words k)) (s.raw * 2 ^ 66) ≡ true = point.0 k no_mark (omega arith) less in
          let under : word_key (mark_at words k) < s.raw * 2 ^ 66 = grind (arith, nat_tests, lower) in
          omega (arith, under, raw)
      | inr most ↦
          let higher : nat_lt (word_key (mark_at words place)) (s.raw * 2 ^ 66) ≡ false = point.1 place no_mark (omega arith) lt in
          let least : s.raw * 2 ^ 66 ≤ word_key (mark_at words place) = grind (arith, nat_tests, higher) in
          let sorted : word_key (mark_at words place) ≤ word_key (mark_at words k) = order place k no_mark most within in
          let equal = first_is_equal s.raw (s.time + f.tolerance) (mark_at words place) (mark_at words k) few end least sorted raw by in
          let same_raw : (mark_at words place).raw ≡ s.raw = equal.0 in
          let same_by : (mark_at words place).time ≤ s.time + f.tolerance = equal.1 in
          let first : is_equal f s (mark_at words place) ≡ true = grind (arith, nat_tests, same_raw, same_by) in
          true≢false (sym first ∙ h)
    ]))

pub first_decides_word : (f : Facts) (words : List Mark) (s : Mark) (place : ℕ) → IsNonDecreasingBy word_key words → (mark_at words place).time < 2 ^ 64 → s.time + f.tolerance < 2 ^ 65
    → IsPartitionPoint (λ a. nat_lt (word_key a) (s.raw * 2 ^ 66) ≡ true) (λ a. nat_lt (word_key a) (s.raw * 2 ^ 66) ≡ false) words place → place < length words
    → is_equal f s (mark_at words place) ≡ is_accepted f words s
first_decides_word f words s place order few end point lt = sym (accepted_by_first f words s place (is_equal f s (mark_at words place)) order few end point lt refl)

pub no_such_word : (f : Facts) (words : List Mark) (s : Mark) (place : ℕ)
    → IsPartitionPoint (λ a. nat_lt (word_key a) (s.raw * 2 ^ 66) ≡ true) (λ a. nat_lt (word_key a) (s.raw * 2 ^ 66) ≡ false) words place → length words ≤ place
    → false ≡ is_accepted f words s
no_such_word f words s place point le =
    sym (none_at (is_equal f s) words (λ k d within.
    let lower : nat_lt (word_key (get_or words k d)) (s.raw * 2 ^ 66) ≡ true = point.0 k d (omega arith) (omega (arith, within, le)) in
    let under : word_key (get_or words k d) < s.raw * 2 ^ 66 = grind (arith, nat_tests, lower) in
    let other : (get_or words k d).raw < s.raw = omega (arith, under) in
    grind (arith, nat_tests, other)))

pub sorted_says : (f : Facts) (accepted words : List Mark) (s : Mark) → IsPermutation accepted words → is_accepted f words s ≡ is_accepted f accepted s
sorted_says f accepted words s same = sym (list_any-IsPermutation (is_equal f s) accepted words same)
