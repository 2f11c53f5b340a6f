-- The digits of a number whose point moves.
use Rattle.std.proofs.Common.{◌≡◌, ◌∙◌, ◌+◌, ◌*◌, ◌-◌, ◌<◌, ◌≤◌, ◌^◌, ◌++◌, ℕ, true, List, get_or, take, ap, subst, arith}
use Rattle.std.specs.Prelude.{None, Some}
use Rattle.std.specs.List.{list_all}
use Rattle.std.specs.Char.{is_ascii_digit}
use Rattle.std.specs.Str.Parse.{digits_value}
use Rattle.std.proofs.lemmas.Bool.Decides.{nat_tests}
use Rattle.std.proofs.lemmas.List.{take_all}
use Rattle.std.proofs.lemmas.List.Folds.{list_all-append}
use Rattle.a429_word.proofs.Numerals.{digit_step, value_below}
use Rattle.a429_logs.specs.LogTicks.{in_18_digits}
use Rattle.a429_logs.specs.LogTimes.{first_digits}
use Rattle.a429_logs.proofs.MicrosDigits.{all-first_digits, first_digit, length-first_digits}

all-parts : (whole fraction : List ℕ) → list_all is_ascii_digit whole ≡ true → list_all is_ascii_digit fraction ≡ true → list_all is_ascii_digit (whole ++ fraction) ≡ true
all-parts whole fraction first second = rw (list_all-append is_ascii_digit whole fraction, first) second

-- one of the first digits more
pub record NextPlace (count : ℕ) (digits : List ℕ) (place : ℕ) : Type 0 where
  pub low : 48 ≤ get_or digits place 48
  pub high : get_or digits place 48 ≤ 57
  pub next : digits_value 10 (take (place + 1) (first_digits count digits)) ≡ digits_value 10 (take place (first_digits count digits)) * 10 + (get_or digits place 48 - 48)
  pub below : digits_value 10 (take (place + 1) (first_digits count digits)) ≤ digits_value 10 (first_digits count digits)

pub next_place : (count : ℕ) (whole fraction : List ℕ) (place : ℕ) → list_all is_ascii_digit whole ≡ true → list_all is_ascii_digit fraction ≡ true → place < count
    → NextPlace count (whole ++ fraction) place
next_place count whole fraction place first second within =
    let digits = whole ++ fraction in
    let all = first_digits count digits in
    let step = digit_step all place (all-first_digits count digits (all-parts whole fraction first second)) (omega (arith, length-first_digits count digits, within)) in
    let here : get_or all place 0 ≡ get_or digits place 48 = first_digit count digits place within in
    record {
      low = subst (λ (d : ℕ). 48 ≤ d) here step.1;
      high = subst (λ (d : ℕ). d ≤ 57) here step.2;
      next = step.0 ∙ ap (λ (d : ℕ). digits_value 10 (take place all) * 10 + (d - 48)) here;
      below = value_below all (place + 1);
    }

-- after the last place
pub places-all : (count : ℕ) (digits : List ℕ) → take count (first_digits count digits) ≡ first_digits count digits
places-all count digits = take_all count (first_digits count digits) (omega (arith, length-first_digits count digits))

pub many_digits : (n : ℕ) → 10 ^ 18 ≤ n → None ≡ in_18_digits n
many_digits n many = grind (arith, nat_tests)

pub few_digits : (n : ℕ) → n < 10 ^ 18 → Some n ≡ in_18_digits n
few_digits n few = grind (arith, nat_tests)
