-- What decimal digits state.
use Rattle.std.proofs.Common.{◌≡◌, ℕ, ◌+◌, ◌*◌, ◌-◌, ◌^◌, ◌<◌, ◌≤◌, true, List, length, get_or, take, refl, arith, rules, lit≤}
use Rattle.std.specs.List.{list_all}
use Rattle.std.specs.Char.{is_ascii_digit, digit_value}
use Rattle.std.specs.Str.Parse.{digits_value}
use Rattle.std.proofs.lemmas.Bool.{and_parts, leb-true}
use Rattle.std.proofs.lemmas.Str.Parse.{IsNumeralModel, numerals_by_value, digits_value_short}
use Rattle.std.proofs.lemmas.Str.Parse.{digits_value-take-le}
use Rattle.std.proofs.lemmas.Int.Digits.{digits_value_more}
use Rattle.std.proofs.lemmas.List.Recursion.{and_at}
use Rattle.std.proofs.lemmas.Bool.Decides.{nat_tests}
use Rattle.a429_word.specs.Decimal.{is_numeral}

digit_within : (c : ℕ) → is_ascii_digit c ≡ true → (48 ≤ c) × (c ≤ 57)
digit_within c h = grind (arith, nat_tests)

digit_value_is : (c : ℕ) → 48 ≤ c → c ≤ 57 → digit_value c ≡ c - 48
digit_value_is c a b = grind (arith, nat_tests)

pub digits_model : IsNumeralModel (λ ds. list_all is_ascii_digit ds ≡ true) (digits_value 10)
digits_model = numerals_by_value _ (search rules)

-- a digit more
pub digit_step : (ds : List ℕ) (i : ℕ) → list_all is_ascii_digit ds ≡ true → i < length ds
    → (digits_value 10 (take (i + 1) ds) ≡ digits_value 10 (take i ds) * 10 + (get_or ds i 0 - 48)) × (48 ≤ get_or ds i 0) × (get_or ds i 0 ≤ 57)
digit_step ds i h lt =
    let digit : is_ascii_digit (get_or ds i 0) ≡ true = and_at (list_all is_ascii_digit) is_ascii_digit refl (λ _ _. refl) ds i 0 lt h in
    let within = digit_within (get_or ds i 0) digit in
    (rw (digits_value_more 10 ds i lt, digit_value_is (get_or ds i 0) within.0 within.1) refl, within.0, within.1)

pub value_below : (ds : List ℕ) (i : ℕ) → digits_value 10 (take i ds) ≤ digits_value 10 ds
value_below ds i = digits_value-take-le 10 ds i (lit≤ tt)

pub numeral_digits : (w : List ℕ) → is_numeral w ≡ true → list_all is_ascii_digit w ≡ true
unfolding is_numeral
numeral_digits w h = (and_parts _ _ h).1

pub numeral_short : (w : List ℕ) → is_numeral w ≡ true → length w ≤ 10
unfolding is_numeral
numeral_short w h = leb-true _ _ (and_parts _ _ (and_parts _ _ (and_parts _ _ h).0).0).1

pub numeral_fits : (w : List ℕ) → is_numeral w ≡ true → digits_value 10 w < 2 ^ 64
numeral_fits w h = omega (arith, digits_value_short digits_model w 10 (numeral_digits w h) (numeral_short w h))
