-- Decimal digits, read one after another.
use Rattle.std.proofs.Common.{◌≡◌, ◌∙◌, ◌+◌, ◌*◌, ◌-◌, ◌^◌, ◌<◌, ◌≤◌, ◌∷◌, ◌++◌, [], ℕ, true, List, get_or, length, take, refl, ap, arith}
use Rattle.std.specs.List.{list_all}
use Rattle.std.specs.Char.{digit_value, is_ascii_digit}
use Rattle.std.specs.Str.Parse.{digits_value}
use Rattle.std.proofs.lemmas.Bool.Decides.{nat_tests}
use Rattle.std.proofs.lemmas.Int.Digits.{digits_value_more}
use Rattle.std.proofs.lemmas.List.{length-take, take_more}
use Rattle.std.proofs.lemmas.List.Folds.{list_all-append}
use Rattle.std.proofs.lemmas.Str.Parse.{digits_value_short}
use Rattle.a429_word.proofs.Numerals.{digits_model}

digit_value_is : (c : ℕ) → is_ascii_digit c ≡ true → digit_value c ≡ c - 48
digit_value_is c is = grind (arith, nat_tests)

-- the number after a digit more
pub record IsNext (ds : List ℕ) (i : ℕ) : Type 0 where
  pub all : list_all is_ascii_digit (take (i + 1) ds) ≡ true
  pub value : digits_value 10 (take (i + 1) ds) ≡ digits_value 10 (take i ds) * 10 + (get_or ds i 0 - 48)
  pub few : digits_value 10 (take (i + 1) ds) < 10 ^ 18

pub next_digit : (ds : List ℕ) (i : ℕ) → list_all is_ascii_digit (take i ds) ≡ true → i < length ds → is_ascii_digit (get_or ds i 0) ≡ true → i < 18 → IsNext ds i
next_digit ds i before within digit few =
    let front = take (i + 1) ds in
    let more : front ≡ take i ds ++ get_or ds i 0 ∷ [] = take_more ds i 0 within in
    let all : list_all is_ascii_digit front ≡ true = ap (list_all is_ascii_digit) more ∙ (list_all-append is_ascii_digit (take i ds) (get_or ds i 0 ∷ []) ∙ rw (before, digit) refl) in
    let long : length front ≤ 18 = omega (arith, length-take (i + 1) ds, few) in
    record {
      all = all;
      value = rw (digits_value_more 10 ds i within, digit_value_is (get_or ds i 0) digit) refl;
      few = omega (arith, digits_value_short digits_model front 18 all long);
    }
