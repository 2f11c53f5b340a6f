-- The names that are chosen are apart.
use Rattle.std.proofs.Common.{◌≡◌, ◌∙◌, ℕ, zero, suc, ◌+◌, ◌<◌, ◌≤◌, Bool, true, false, cond, not, List, [], ◌∷◌, ◌++◌, length, map, Some, ap, arith, inl, inr, ◌⊎◌, refl, subst, sym}
use Rattle.std.specs.Prelude.{nat_lt, slice_get}
use Rattle.std.specs.List.{count_by}
use Rattle.std.specs.Option.{option_map}
use Rattle.std.specs.Str.{bytes_eq}
use Rattle.std.proofs.lemmas.Bool.{and_parts, le-ltb, ltb-false}
use Rattle.std.proofs.lemmas.List.{length-append, length-map}
use Rattle.std.proofs.lemmas.List.Sums.{sum_by-append, sum_by-cons}
use Rattle.std.proofs.lemmas.Option.{same_Some, slice_get-map, slice_get_within}
use Rattle.std.proofs.lemmas.Slice.Eq.{bytes_eq-Decides}
use Rattle.a429_import.specs.declared.firsts.Part.{Part}
use Rattle.a429_import.specs.declared.rows.ImportRow.{ImportRow}
use Rattle.a429_import.specs.ImportTables.{firsts, is_word, name_in}
use Rattle.a429_import.specs.MadeNames.{numbered_name}
use Rattle.a429_import.specs.Renamed.{AreApart, base_of, chosen, end_of, free_name, is_alone, is_taken, long_name, most_texts, names_after, names_in, plain_of, text_of}
use Rattle.a429_import.proofs.ChosenNames.{not_true}
use Rattle.a429_import.proofs.Knowing.{last_or_before}

-- ---- counts

abbrev one_if : Bool → ℕ
one_if b = cond b 1 0

one : (b : Bool) → b ≡ true → one_if b ≡ one_if true
one b is = ap one_if is

counted_at : {X : Type 0} (p : X → Bool) (xs : List X) (i : ℕ) (x : X) → slice_get xs i ≡ Some x → p x ≡ true → 1 ≤ count_by p xs
counted_at p [] i x h is = cc
counted_at p (y ∷ xs) zero x h is =
    let o = one (p y) (ap p (same_Some y x h) ∙ is) in
    let c = sum_by-cons (λ z. cond (p z) 1 0) y xs in
    omega (arith, o, c)
counted_at p (y ∷ xs) (suc i) x h is =
    let r = counted_at p xs i x h is in
    let c = sum_by-cons (λ z. cond (p z) 1 0) y xs in
    omega (arith, r, c)

counted_twice : {X : Type 0} (p : X → Bool) (xs : List X) (i j : ℕ) (x : X) → slice_get xs i ≡ Some x → slice_get xs j ≡ Some x → p x ≡ true → i < j → 2 ≤ count_by p xs
counted_twice p [] i j x a b is below = cc
counted_twice p (y ∷ xs) i zero x a b is below = absurd (omega (arith, below))
counted_twice p (y ∷ xs) zero (suc j) x a b is below =
    let r = counted_at p xs j x b is in
    let o = one (p y) (ap p (same_Some y x a) ∙ is) in
    let c = sum_by-cons (λ z. cond (p z) 1 0) y xs in
    omega (arith, r, o, c)
counted_twice p (y ∷ xs) (suc i) (suc j) x a b is below =
    let r = counted_twice p xs i j x a b is (omega (arith, below)) in
    let c = sum_by-cons (λ z. cond (p z) 1 0) y xs in
    omega (arith, r, c)

itself_eq : (name : List ℕ) → bytes_eq name name ≡ true
itself_eq name = (bytes_eq-Decides name name).1 refl

-- ---- a name that is free

free_by : (taken : List (List ℕ)) (tried rest name : List ℕ) (b : Bool) → is_taken taken tried ≡ b → name ≡ cond b rest tried → (name ≡ rest → is_taken taken name ≡ false) → is_taken taken name ≡ false
free_by taken tried rest name true e is more = more is
free_by taken tried rest name false e is more = ap (is_taken taken) is ∙ e

free_is_new : (taken : List (List ℕ)) (base end : List ℕ) (left n : ℕ) (name : List ℕ) → name ≡ free_name taken base end left n → is_word name ≡ true → is_taken taken name ≡ false
free_is_new taken base end zero n name is word = cc (sym word ∙ ap is_word is)
free_is_new taken base end (suc left) n name is word =
    free_by taken (numbered_name base end n) (free_name taken base end left (n + 1)) name (is_taken taken (numbered_name base end n)) refl is (λ rest. free_is_new taken base end left (n + 1) name rest word)

none_counted : (n : ℕ) → nat_lt 0 n ≡ false → n ≡ 0
none_counted n is = let none = ltb-false 0 n is in omega (arith, none)

-- ---- a name that is chosen

-- a name is no plain name, or it is the plain name in its place, which no other text has
abbrev IsFrom : List (List ℕ) → ℕ → List ℕ → Type 0
IsFrom plains i name = (count_by (bytes_eq name) plains ≡ 0) ⊎ ((slice_get plains i ≡ Some name) × (count_by (bytes_eq name) plains < 2))

abbrev AreFrom : List (List ℕ) → List (List ℕ) → Type 0
AreFrom plains names = (i : ℕ) (name : List ℕ) → is_word name ≡ true → slice_get names i ≡ Some name → IsFrom plains i name

-- a name is none of those before it
record IsNew (plains earlier : List (List ℕ)) (name : List ℕ) : Type 0 where
  new : (i : ℕ) → slice_get earlier i ≡ Some name → ⊥
  from : IsFrom plains (length earlier) name

few : (n : ℕ) → not (nat_lt 1 n) ≡ true → n < 2
few n is = let most = ltb-false 1 n (not_true (nat_lt 1 n) is) in omega (arith, most)

alone_is_new : (plains earlier : List (List ℕ)) (plain : List ℕ) → AreFrom plains earlier → slice_get plains (length earlier) ≡ Some plain → is_alone plains plain ≡ true → IsNew plains earlier plain
alone_is_new plains earlier plain from there alone =
    let parts = and_parts (is_word plain) (not (nat_lt 1 (count_by (bytes_eq plain) plains))) alone in
    let least = counted_at (bytes_eq plain) plains (length earlier) plain there (itself_eq plain) in
    let most : count_by (bytes_eq plain) plains < 2 = few (count_by (bytes_eq plain) plains) parts.1 in
    record {
      new = λ i at. elim (from i plain parts.0 at) [
        | inl none ↦ absurd (omega (arith, least, none))
        | inr (same, less) ↦
            let within = slice_get_within earlier i plain at in
            let twice = counted_twice (bytes_eq plain) plains i (length earlier) plain same there (itself_eq plain) within in
            absurd (omega (arith, twice, most))
      ];
      from = inr (there, most);
    }

long_is_new : (plains earlier : List (List ℕ)) (base end name : List ℕ) → name ≡ long_name (plains ++ earlier) base end → is_word name ≡ true → IsNew plains earlier name
unfolding long_name
long_is_new plains earlier base end name is word =
    let free = free_is_new (plains ++ earlier) base end 1000 0 name is word in
    let none = none_counted (count_by (bytes_eq name) (plains ++ earlier)) free in
    let both = sum_by-append (λ z. cond (bytes_eq name z) 1 0) plains earlier in
    record {
      new = λ i at. let least = counted_at (bytes_eq name) earlier i name at (itself_eq name) in absurd (omega (arith, least, none, both));
      from = inl (omega (arith, none, both));
    }

chosen_is_new : (plains earlier : List (List ℕ)) (part : Part) (row : ImportRow) → nat_lt most_texts (length plains) ≡ false → AreFrom plains earlier → slice_get plains (length earlier) ≡ Some (plain_of part row) → is_word (chosen plains earlier part row) ≡ true
    → IsNew plains earlier (chosen plains earlier part row)
unfolding chosen
chosen_is_new plains earlier part row most from there word =
    within (nat_lt most_texts (length plains)) (is_word (text_of part row)) (is_alone plains (plain_of part row)) most refl word
  where
    long : List ℕ
    long = long_name (plains ++ earlier) (base_of part row) (end_of part row)

    by : (a b : Bool) → is_alone plains (plain_of part row) ≡ b → is_word (cond (not a) [] (cond b (plain_of part row) long)) ≡ true → IsNew plains earlier (cond (not a) [] (cond b (plain_of part row) long))
    by false b e w = cc w
    by true true e w = alone_is_new plains earlier (plain_of part row) from there e
    by true false e w = long_is_new plains earlier _ _ long refl w

    named : Bool → Bool → Bool → List ℕ
    named far a b = cond far (name_in part row) (cond (not a) [] (cond b (plain_of part row) long))

    within : (far a b : Bool) → far ≡ false → is_alone plains (plain_of part row) ≡ b → is_word (named far a b) ≡ true → IsNew plains earlier (named far a b)
    within true a b few e w = cc few
    within false a b few e w = by a b e w

-- ---- all names

more_from : (plains earlier : List (List ℕ)) (name : List ℕ) → AreFrom plains earlier → (is_word name ≡ true → IsNew plains earlier name) → AreFrom plains (earlier ++ name ∷ [])
more_from plains earlier name from new = λ i other word at. elim (last_or_before earlier name other i at) [
  | inl before ↦ from i other word before
  | inr (place, same) ↦
      let is = new (ap is_word same ∙ word) in
      subst (λ (n : ℕ). IsFrom plains n other) (sym place) (subst (λ (x : List ℕ). IsFrom plains (length earlier) x) same is.from)
]

more_apart : (plains earlier : List (List ℕ)) (name : List ℕ) → AreApart earlier → (is_word name ≡ true → IsNew plains earlier name) → AreApart (earlier ++ name ∷ [])
more_apart plains earlier name apart new = λ i j other word a b. elim (last_or_before earlier name other i a) [
  | inl first ↦ elim (last_or_before earlier name other j b) [
    | inl second ↦ apart i j other word first second
    | inr (place, same) ↦ let is = new (ap is_word same ∙ word) in absurd (is.new i (first ∙ ap (λ (x : List ℕ). Some x) (sym same)))
  ]
  | inr (place, same) ↦ elim (last_or_before earlier name other j b) [
    | inl second ↦ let is = new (ap is_word same ∙ word) in absurd (is.new j (second ∙ ap (λ (x : List ℕ). Some x) (sym same)))
    | inr (other_place, _) ↦ place ∙ sym other_place
  ]
]

apart_after : (plains : List (List ℕ)) (part : Part) (earlier : List (List ℕ)) (rows : List ImportRow) → nat_lt most_texts (length plains) ≡ false → ((k : ℕ) (row : ImportRow) → slice_get rows k ≡ Some row → slice_get plains (length earlier + k) ≡ Some (plain_of part row))
    → AreFrom plains earlier → AreApart earlier → AreApart (names_after plains part earlier rows)
apart_after plains part earlier [] most aligned from apart = apart
apart_after plains part earlier (row ∷ rows) most aligned from apart =
    let name : List ℕ = chosen plains earlier part row in
    let first : length earlier + 0 ≡ length earlier = omega arith in
    let there : slice_get plains (length earlier) ≡ Some (plain_of part row) = subst (λ (n : ℕ). slice_get plains n ≡ Some (plain_of part row)) first (aligned 0 row refl) in
    let new = chosen_is_new plains earlier part row most from there in
    apart_after plains part (earlier ++ name ∷ []) rows most
    (λ k other at.
    let long = length-append earlier (name ∷ []) in
    let same : length earlier + suc k ≡ length (earlier ++ name ∷ []) + k = omega (arith, long) in
    subst (λ (n : ℕ). slice_get plains n ≡ Some (plain_of part other)) same (aligned (suc k) other at))
    (more_from plains earlier name from new) (more_apart plains earlier name apart new)

pub names_apart : (part : Part) (rows : List ImportRow) → length (firsts part rows) ≤ most_texts → AreApart (names_in part rows)
unfolding names_in
names_apart part rows few =
    let none : List (List ℕ) = [] in
    let plains : List (List ℕ) = map (plain_of part) (firsts part rows) in
    let most : nat_lt most_texts (length plains) ≡ false = le-ltb most_texts (length plains) (omega (arith, few, length-map (firsts part rows) (plain_of part))) in
    apart_after plains part none (firsts part rows) most
    (λ k row at.
    let same : k ≡ length none + k = omega arith in
    subst (λ (n : ℕ). slice_get plains n ≡ Some (plain_of part row)) same (slice_get-map (plain_of part) (firsts part rows) k ∙ ap (option_map (plain_of part)) at))
    (λ i name word at. cc at) (λ i j name word a b. cc a)
