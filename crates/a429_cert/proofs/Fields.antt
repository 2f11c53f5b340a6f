-- A field that is read is the field that was written, and what was written is read again.
use Rattle.std.proofs.Common.{◌≡◌, ℕ, ◌+◌, ◌^◌, ◌<◌, ◌≤◌, Bool, true, false, cond, leb, eqb, ◌&&◌, ◌||◌, not, List, [], ◌∷◌, ◌++◌, length, get_or, take, drop, Option, Some, None, refl, sym, ap, ◌∙◌, arith, inl, inr, lit<, one-add}
use Rattle.std.specs.List.{position_or_len, list_all, AllByRecursion}
use Rattle.std.specs.Char.{is_ascii_digit}
use Rattle.std.specs.Fmt.{decimal}
use Rattle.std.proofs.lemmas.Bool.{and_parts, le-leb, lt-ltb, eqb-true, cases_lt}
use Rattle.std.proofs.lemmas.Bool.Decides.{nat_tests, Decides-eqb}
use Rattle.std.proofs.lemmas.List.{take_at, drop_at, take-append-drop, length-take}
use Rattle.std.proofs.lemmas.Slice.Eq.{starts_is}
use Rattle.std.proofs.lemmas.Str.Parse.{digits_value_short}
use Rattle.std.proofs.lemmas.Fmt.{decimal-digits_value, digits_decimal, digits_value-decimal, length-decimal-le, first_decimal, decimal_nonempty}
use Rattle.std.proofs.lemmas.List.Sums.{prefix_len-le-length}
use Rattle.std.proofs.lemmas.Option.{some_pair_parts}
use Rattle.a429_cert.specs.Spelling.{when, is_break, IsWord, IsShort}
use Rattle.a429_word.specs.Decimal.{is_numeral, decimal_number}
use Rattle.a429_word.proofs.Numerals.{digits_model, numeral_digits, numeral_short, numeral_fits}
use Rattle.a429_cert.specs.Reading.{◌>>=◌, after, word, number, word_after, number_after}

-- the value of a step that gave one
pub bind_some : {A B P : Type 0} (r : Option A) (f : A → Option B) (y : B) → (r >>= f) ≡ Some y → ((x : A) → r ≡ Some x → f x ≡ Some y → P) → P
bind_some (Some x) f y e k = k x refl e
bind_some None f y e k = absurd cc

pub when_some : {A : Type 0} (b : Bool) (x y : A) → when b x ≡ Some y → (b ≡ true) × (x ≡ y)
when_some true x y e = (refl, cc)
when_some false x y e = absurd cc

-- ---- a text

pub after_takes : (text bytes rest : List ℕ) → after text bytes ≡ Some rest → bytes ≡ text ++ rest
unfolding after
after_takes text bytes rest e =
    let w = when_some _ _ _ e in
    (starts_is Decides-eqb bytes text true (sym w.0)).0 refl ∙ ap (λ (r : List ℕ). text ++ r) w.1

pub after_again : (text rest : List ℕ) → after text (text ++ rest) ≡ Some rest
unfolding after
after_again text rest =
    let starts = (starts_is Decides-eqb (text ++ rest) text _ refl).1 rest refl in
    rw (starts, drop_at text rest (length text) refl) refl

-- ---- a word

-- what comes after a word
abbrev pub EndsWord : List ℕ → Type 0
EndsWord rest = position_or_len is_break rest ≡ 0

front_more : (b : Bool) (x : ℕ) (xs : List ℕ) → is_break x ≡ b → AllByRecursion (λ b. is_break b ≡ false) (take (position_or_len is_break xs) xs)
    → AllByRecursion (λ b. is_break b ≡ false) (take (cond (not b) (1 + position_or_len is_break xs) 0) (x ∷ xs))
front_more true x xs e h = tt
front_more false x xs e h = rw one-add (e, h)

unbroken_front : (bytes : List ℕ) → AllByRecursion (λ b. is_break b ≡ false) (take (position_or_len is_break bytes) bytes)
unbroken_front [] = tt
unbroken_front (b ∷ bs) = front_more (is_break b) b bs refl (unbroken_front bs)

word_parts : (b : Bool) (end : ℕ) (bytes w rest : List ℕ) → eqb end 0 ≡ b → cond {A = Option (List ℕ × List ℕ)} b None (Some (take end bytes, drop end bytes)) ≡ Some (w, rest) → (0 < end) × (take end bytes ≡ w) × (drop end bytes ≡ rest)
word_parts true end bytes w rest h e = absurd cc
word_parts false end bytes w rest h e =
    let p = some_pair_parts (take end bytes) w (drop end bytes) rest e in
    (grind (arith, nat_tests), p.0, p.1)

pub word_takes : (bytes w rest : List ℕ) → word bytes ≡ Some (w, rest) → (bytes ≡ w ++ rest) × IsWord w
unfolding word
word_takes bytes w rest e =
    let within = prefix_len-le-length (λ b. not (is_break b)) bytes in
    let p = word_parts _ (position_or_len is_break bytes) bytes w rest refl e in
    (rw (← p.1, ← p.2) (sym (take-append-drop (position_or_len is_break bytes) bytes)), record { some_byte = rw (← p.1) (omega (arith, p.0, within, length-take (position_or_len is_break bytes) bytes)); unbroken = rw (← p.1) (unbroken_front bytes) })

pub end_of_word : (w rest : List ℕ) → AllByRecursion (λ b. is_break b ≡ false) w → EndsWord rest → position_or_len is_break (w ++ rest) ≡ length w
end_of_word [] rest u ends = ends
end_of_word (b ∷ bs) rest u ends = rw (u.0, end_of_word bs rest u.1 ends, one-add) refl

word_whole : (b : Bool) (end : ℕ) (w rest : List ℕ) → eqb end 0 ≡ b → end ≡ length w → 0 < end → cond {A = Option (List ℕ × List ℕ)} b None (Some (take end (w ++ rest), drop end (w ++ rest))) ≡ Some (w, rest)
word_whole true end w rest t h lt = absurd (omega (arith, eqb-true end 0 t))
word_whole false end w rest t h lt = rw (take_at w rest end (sym h), drop_at w rest end (sym h)) refl

pub word_again : (w rest : List ℕ) → IsWord w → EndsWord rest → word (w ++ rest) ≡ Some (w, rest)
unfolding word
word_again w rest h ends =
    let end = end_of_word w rest h.unbroken ends in
    word_whole _ (position_or_len is_break (w ++ rest)) w rest refl end (omega (arith, end, h.some_byte))

-- ---- a number

short_or_not : (n d : ℕ) → (leb n 1 || not (eqb d 48)) ≡ true → d ≡ 48 → n ≤ 1
short_or_not n d h e = grind (arith, nat_tests)

leading : (w : List ℕ) → is_numeral w ≡ true → get_or w 0 0 ≡ 48 → length w ≤ 1
unfolding is_numeral
leading w h zero-first =
    let o : (leb (length w) 1 || not (eqb (get_or w 0 0) 48)) ≡ true = (and_parts _ _ (and_parts _ _ h).0).1 in
    short_or_not _ _ o zero-first

pub value_takes : (w : List ℕ) (n : ℕ) → IsWord w → decimal_number w ≡ Some n → (w ≡ decimal n) × IsShort n
unfolding decimal_number
value_takes w n h e =
    let p = when_some _ _ _ e in
    let short = numeral_short w p.0 in
    let one : get_or w 0 0 ≡ 48 → length w ≡ 1 = λ z. let l = leading w p.0 z in omega (arith, h.some_byte) in
    (rw (← p.1) (sym (decimal-digits_value digits_model w (numeral_digits w p.0) h.some_byte one (numeral_fits w p.0))), rw (← p.1) (digits_value_short digits_model w 10 (numeral_digits w p.0) short))

decimal_leading : (n : ℕ) → n < 10 ^ 10 → (leb (length (decimal n)) 1 || not (eqb (get_or (decimal n) 0 0) 48)) ≡ true
decimal_leading n h =
    elim (cases_lt 0 n) [
      | inl positive ↦ let first = first_decimal n positive (omega arith) in grind (arith, nat_tests, first)
      | inr none ↦ let short = length-decimal-le 1 n (lit< tt) (omega arith) (omega arith) in grind (arith, nat_tests, short)
    ]

and_four : (a b c d : Bool) → a ≡ true → b ≡ true → c ≡ true → d ≡ true → (a && b && c && d) ≡ true
and_four a b c d p q r s = cc

pub decimal_numeral : (n : ℕ) → n < 10 ^ 10 → is_numeral (decimal n) ≡ true
unfolding is_numeral
decimal_numeral n h =
    and_four _ _ _ _ (lt-ltb _ _ (decimal_nonempty n (omega arith))) (le-leb _ _ (length-decimal-le 10 n (lit< tt) h (omega arith))) (decimal_leading n h) (digits_decimal digits_model n (omega arith))

pub value_again : (n : ℕ) → n < 10 ^ 10 → decimal_number (decimal n) ≡ Some n
unfolding decimal_number
value_again n h = rw (decimal_numeral n h, digits_value-decimal digits_model n (omega arith)) refl

not_break : (c : ℕ) → is_ascii_digit c ≡ true → is_break c ≡ false
not_break c h = grind (arith, nat_tests)

digits_unbroken : (ds : List ℕ) → list_all is_ascii_digit ds ≡ true → AllByRecursion (λ b. is_break b ≡ false) ds
digits_unbroken [] h = tt
digits_unbroken (d ∷ ds) h = let p = and_parts _ _ h in (not_break d p.0, digits_unbroken ds p.1)

pub decimal_word : (n : ℕ) → n < 10 ^ 10 → IsWord (decimal n)
decimal_word n h = record { some_byte = decimal_nonempty n (omega arith); unbroken = digits_unbroken (decimal n) (digits_decimal digits_model n (omega arith)) }

pub number_takes : (bytes : List ℕ) (n : ℕ) (rest : List ℕ) → number bytes ≡ Some (n, rest) → (bytes ≡ decimal n ++ rest) × IsShort n
unfolding number
number_takes bytes n rest e =
    bind_some (word bytes) _ _ e (λ w word-is e1. bind_some (decimal_number w.0) _ _ e1 (λ m value-is e2.
    let p = some_pair_parts m n w.1 rest e2 in
    let taken = word_takes bytes w.0 w.1 word-is in
    let spelled = value_takes w.0 m taken.1 value-is in
    (rw (← p.0, ← p.1) (taken.0 ∙ ap (λ (x : List ℕ). x ++ w.1) spelled.0), rw (← p.0) spelled.1)))

pub number_again : (n : ℕ) (rest : List ℕ) → n < 10 ^ 10 → EndsWord rest → number (decimal n ++ rest) ≡ Some (n, rest)
unfolding number
number_again n rest h ends = rw (word_again (decimal n) rest (decimal_word n h) ends, value_again n h) refl

-- ---- after a text

pub word_after_takes : (text bytes w rest : List ℕ) → word_after text bytes ≡ Some (w, rest) → (bytes ≡ text ++ (w ++ rest)) × IsWord w
unfolding word_after
word_after_takes text bytes w rest e =
    bind_some (after text bytes) _ _ e (λ a at-a e.
    let t = word_takes a w rest e in
    (after_takes text bytes a at-a ∙ ap (λ (x : List ℕ). text ++ x) t.0, t.1))

pub word_after_again : (text w rest : List ℕ) → IsWord w → EndsWord rest → word_after text (text ++ (w ++ rest)) ≡ Some (w, rest)
unfolding word_after
word_after_again text w rest h ends = rw (after_again text (w ++ rest)) (word_again w rest h ends)

pub number_after_takes : (text bytes : List ℕ) (n : ℕ) (rest : List ℕ) → number_after text bytes ≡ Some (n, rest) → (bytes ≡ text ++ (decimal n ++ rest)) × IsShort n
unfolding number_after
number_after_takes text bytes n rest e =
    bind_some (after text bytes) _ _ e (λ a at-a e.
    let t = number_takes a n rest e in
    (after_takes text bytes a at-a ∙ ap (λ (x : List ℕ). text ++ x) t.0, t.1))

pub number_after_again : (text : List ℕ) (n : ℕ) (rest : List ℕ) → n < 10 ^ 10 → EndsWord rest → number_after text (text ++ (decimal n ++ rest)) ≡ Some (n, rest)
unfolding number_after
number_after_again text n rest h ends = rw (after_again text (decimal n ++ rest)) (number_again n rest h ends)
