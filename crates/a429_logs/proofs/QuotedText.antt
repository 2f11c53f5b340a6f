-- The first part of a text between separators outside quotes.
use Rattle.std.proofs.Common.{◌≡◌, ◌∙◌, ◌+◌, ◌≤◌, ℕ, suc, Bool, true, false, List, take, drop, [], ◌∷◌, ◌<◌, get_or, length, refl, ap, arith, add-one}
use Rattle.std.specs.Prelude.{Option, Some, None, option_map}
use Rattle.std.specs.List.{onto_first}
use Rattle.std.proofs.lemmas.List.{drop_more, length-drop}
use Rattle.a429_logs.specs.LogFields.{ends_part, first_outside, quoted_parts, turned}
use Rattle.a429_logs.specs.declared.fields.Separator.{Separator}

-- the parts, by the place of the first separator
abbrev pub quoted_by : Separator → Option ℕ → List ℕ → List (List ℕ)
quoted_by separator None xs = xs ∷ []
quoted_by separator (Some k) xs = take k xs ∷ quoted_parts separator false (drop (k + 1) xs)

later : (separator : Separator) (x : ℕ) (xs : List ℕ) (o : Option ℕ) → onto_first x (quoted_by separator o xs) ≡ quoted_by separator (option_map suc o) (x ∷ xs)
later separator x xs None = refl
later separator x xs (Some m) = rw (add-one, add-one) refl

one_more : (separator : Separator) (inside : Bool) (x : ℕ) (xs : List ℕ) (t : Bool) → ends_part separator inside x ≡ t
    → quoted_parts separator (turned inside x) xs ≡ quoted_by separator (first_outside separator (turned inside x) xs) xs
    → quoted_parts separator inside (x ∷ xs) ≡ quoted_by separator (first_outside separator inside (x ∷ xs)) (x ∷ xs)
unfolding quoted_parts first_outside
one_more separator inside x xs true e shorter = rw e refl
one_more separator inside x xs false e shorter = rw (e, shorter) (later separator x xs (first_outside separator (turned inside x) xs))

pub quoted-first : (separator : Separator) (inside : Bool) (xs : List ℕ) → quoted_parts separator inside xs ≡ quoted_by separator (first_outside separator inside xs) xs
unfolding quoted_parts first_outside
quoted-first separator inside [] = refl
quoted-first separator inside (x ∷ xs) = one_more separator inside x xs (ends_part separator inside x) refl (quoted-first separator (turned inside x) xs)

pub quoted_some : (separator : Separator) (xs : List ℕ) (k : ℕ) → first_outside separator false xs ≡ Some k
    → quoted_parts separator false xs ≡ take k xs ∷ quoted_parts separator false (drop (k + 1) xs)
quoted_some separator xs k first = quoted-first separator false xs ∙ ap (λ (o : Option ℕ). quoted_by separator o xs) first

pub quoted_none : (separator : Separator) (xs : List ℕ) → first_outside separator false xs ≡ None → quoted_parts separator false xs ≡ xs ∷ []
quoted_none separator xs none = quoted-first separator false xs ∙ ap (λ (o : Option ℕ). quoted_by separator o xs) none

-- ---- the search, byte by byte

-- a place, counted from another one
abbrev pub shifted : ℕ → Option ℕ → Option ℕ
shifted place None = None
shifted place (Some k) = Some (place + k)

shifted_suc : (place : ℕ) (o : Option ℕ) → shifted place (option_map suc o) ≡ shifted (place + 1) o
shifted_suc place None = refl
shifted_suc place (Some k) = ap (λ (n : ℕ). Some n) (omega arith)

here_by : (separator : Separator) (inside : Bool) (place : ℕ) (b : ℕ) (bs : List ℕ) → ends_part separator inside b ≡ true
    → shifted place (first_outside separator inside (b ∷ bs)) ≡ Some place
unfolding first_outside
here_by separator inside place b bs e = rw e (ap (λ (n : ℕ). Some n) (omega arith))

pub search-here : (separator : Separator) (inside : Bool) (text : List ℕ) (place : ℕ) → place < length text → ends_part separator inside (get_or text place 0) ≡ true
    → shifted place (first_outside separator inside (drop place text)) ≡ Some place
search-here separator inside text place below e =
    ap (λ (l : List ℕ). shifted place (first_outside separator inside l)) (drop_more text place 0 below)
    ∙ here_by separator inside place (get_or text place 0) (drop (place + 1) text) e

later_by : (separator : Separator) (inside : Bool) (place : ℕ) (b : ℕ) (bs : List ℕ) → ends_part separator inside b ≡ false
    → shifted place (first_outside separator inside (b ∷ bs)) ≡ shifted (place + 1) (first_outside separator (turned inside b) bs)
unfolding first_outside
later_by separator inside place b bs e = rw e (shifted_suc place (first_outside separator (turned inside b) bs))

pub search-later : (separator : Separator) (inside : Bool) (text : List ℕ) (place : ℕ) → place < length text → ends_part separator inside (get_or text place 0) ≡ false
    → shifted place (first_outside separator inside (drop place text)) ≡ shifted (place + 1) (first_outside separator (turned inside (get_or text place 0)) (drop (place + 1) text))
search-later separator inside text place below e =
    ap (λ (l : List ℕ). shifted place (first_outside separator inside l)) (drop_more text place 0 below)
    ∙ later_by separator inside place (get_or text place 0) (drop (place + 1) text) e

pub shifted-zero : (o : Option ℕ) → shifted 0 o ≡ o
shifted-zero None = refl
shifted-zero (Some k) = ap (λ (n : ℕ). Some n) (omega arith)

end_by : (separator : Separator) (inside : Bool) (place : ℕ) (bs : List ℕ) → length bs ≡ 0 → shifted place (first_outside separator inside bs) ≡ None
unfolding first_outside
end_by separator inside place [] none = refl
end_by separator inside place (b ∷ bs) none = absurd (omega (arith, none))

pub search-end : (separator : Separator) (inside : Bool) (text : List ℕ) (place : ℕ) → place ≡ length text → shifted place (first_outside separator inside (drop place text)) ≡ None
search-end separator inside text place last = end_by separator inside place (drop place text) (omega (arith, length-drop place text, last))

-- ---- how many parts there are

onto_count : (x : ℕ) (parts : List (List ℕ)) (most : ℕ) → length parts ≤ most → length (onto_first x parts) ≤ most + 1
onto_count x [] most few = omega arith
onto_count x (p ∷ ps) most few = omega (arith, few)

parts_one : (separator : Separator) (inside : Bool) (x : ℕ) (xs : List ℕ) (t : Bool) → ends_part separator inside x ≡ t
    → ((i : Bool) → length (quoted_parts separator i xs) ≤ length xs + 1) → length (quoted_parts separator inside (x ∷ xs)) ≤ length (x ∷ xs) + 1
unfolding quoted_parts
parts_one separator inside x xs true e few = rw e (omega (arith, few false))
parts_one separator inside x xs false e few = rw e (omega (arith, onto_count x (quoted_parts separator (turned inside x) xs) (length xs + 1) (few (turned inside x))))

pub quoted-few : (separator : Separator) (inside : Bool) (xs : List ℕ) → length (quoted_parts separator inside xs) ≤ length xs + 1
unfolding quoted_parts
quoted-few separator inside [] = omega arith
quoted-few separator inside (x ∷ xs) = parts_one separator inside x xs (ends_part separator inside x) refl (λ i. quoted-few separator i xs)
