-- The digits of a time in microseconds.
use Rattle.std.proofs.Common.{◌≡◌, ◌∙◌, ◌+◌, ◌*◌, ◌-◌, ◌<◌, ◌≤◌, ◌^◌, ◌∷◌, [], ℕ, zero, suc, Bool, true, List, get_or, length, take, refl, ap, subst, arith}
use Rattle.std.specs.Prelude.{◌&&◌}
use Rattle.std.specs.List.{list_all}
use Rattle.std.specs.Char.{is_ascii_digit}
use Rattle.std.specs.Str.Parse.{digits_value}
use Rattle.std.proofs.Math.Seq.{take-append_seam}
use Rattle.std.proofs.lemmas.Bool.{and_parts, leb-true}
use Rattle.std.proofs.lemmas.List.{get_or-append-add, length-append, take_all}
use Rattle.std.proofs.lemmas.List.Folds.{list_all-append}
use Rattle.std.proofs.lemmas.Str.Parse.{digits_value_short}
use Rattle.a429_word.proofs.Numerals.{digit_step, digits_model, value_below}
use Rattle.a429_logs.specs.LogTimes.{decimals, first_digits, is_whole, micros_digits}
use Rattle.a429_logs.specs.declared.times.TimeUnit.{TimeUnit}

pub length-first_digits : (count : ℕ) (f : List ℕ) → length (first_digits count f) ≡ count
length-first_digits zero f = refl
length-first_digits (suc count) [] = ap suc (length-first_digits count [])
length-first_digits (suc count) (x ∷ xs) = ap suc (length-first_digits count xs)

pub first_digit : (count : ℕ) (f : List ℕ) (i : ℕ) → i < count → get_or (first_digits count f) i 0 ≡ get_or f i 48
first_digit zero f i within = absurd (omega (arith, within))
first_digit (suc count) [] zero within = refl
first_digit (suc count) [] (suc i) within = first_digit count [] i (omega (arith, within))
first_digit (suc count) (x ∷ xs) zero within = refl
first_digit (suc count) (x ∷ xs) (suc i) within = first_digit count xs i (omega (arith, within))

both_true : {a b : Bool} → a ≡ true → b ≡ true → (a && b) ≡ true
both_true e f = rw (e, f) refl

pub all-first_digits : (count : ℕ) (f : List ℕ) → list_all is_ascii_digit f ≡ true → list_all is_ascii_digit (first_digits count f) ≡ true
all-first_digits zero f all = refl
all-first_digits (suc count) [] all = all-first_digits count [] all
all-first_digits (suc count) (x ∷ xs) all =
    let parts = and_parts _ _ all in
    both_true parts.0 (all-first_digits count xs parts.1)

pub whole_digits : (unit : TimeUnit) (whole : List ℕ) → is_whole unit whole ≡ true → list_all is_ascii_digit whole ≡ true
whole_digits unit whole is = (and_parts _ _ is).1

whole_few : (unit : TimeUnit) (whole : List ℕ) → is_whole unit whole ≡ true → length whole + decimals unit ≤ 18
whole_few unit whole is = leb-true _ _ (and_parts _ _ (and_parts _ _ is).0).1

pub whole_short : (unit : TimeUnit) (whole : List ℕ) → is_whole unit whole ≡ true → length whole ≤ 18
whole_short unit whole is = omega (arith, whole_few unit whole is)

pub whole_fits : (unit : TimeUnit) (whole : List ℕ) → is_whole unit whole ≡ true → digits_value 10 whole < 2 ^ 64
whole_fits unit whole is = omega (arith, digits_value_short digits_model whole 18 (whole_digits unit whole is) (whole_short unit whole is))

length-micros : (unit : TimeUnit) (whole fraction : List ℕ) → length (micros_digits unit whole fraction) ≡ length whole + decimals unit
length-micros unit whole fraction = length-append whole (first_digits (decimals unit) fraction) ∙ ap (λ (n : ℕ). length whole + n) (length-first_digits (decimals unit) fraction)

all-micros : (unit : TimeUnit) (whole fraction : List ℕ) → is_whole unit whole ≡ true → list_all is_ascii_digit fraction ≡ true
    → list_all is_ascii_digit (micros_digits unit whole fraction) ≡ true
all-micros unit whole fraction is all =
    rw (list_all-append is_ascii_digit whole (first_digits (decimals unit) fraction), whole_digits unit whole is) (all-first_digits (decimals unit) fraction all)

-- the whole units come first
pub micros-whole : (unit : TimeUnit) (whole fraction : List ℕ) → take (length whole) (micros_digits unit whole fraction) ≡ whole
micros-whole unit whole fraction = take-append_seam whole (first_digits (decimals unit) fraction)

-- and then each decimal
pub record NextDecimal (unit : TimeUnit) (whole fraction : List ℕ) (place : ℕ) : Type 0 where
  pub low : 48 ≤ get_or fraction place 48
  pub high : get_or fraction place 48 ≤ 57
  pub next : digits_value 10 (take (length whole + (place + 1)) (micros_digits unit whole fraction))
      ≡ digits_value 10 (take (length whole + place) (micros_digits unit whole fraction)) * 10 + (get_or fraction place 48 - 48)
  pub few : digits_value 10 (take (length whole + (place + 1)) (micros_digits unit whole fraction)) < 10 ^ 18

pub next_decimal : (unit : TimeUnit) (whole fraction : List ℕ) (place : ℕ) → is_whole unit whole ≡ true → list_all is_ascii_digit fraction ≡ true
    → place < decimals unit → NextDecimal unit whole fraction place
next_decimal unit whole fraction place is all within =
    let all_digits = micros_digits unit whole fraction in
    let digits = all-micros unit whole fraction is all in
    let many = length-micros unit whole fraction in
    let at : ℕ = length whole + place in
    let step = digit_step all_digits at digits (omega (arith, many, within)) in
    let here : get_or all_digits at 0 ≡ get_or fraction place 48 =
    get_or-append-add whole (first_digits (decimals unit) fraction) place 0 ∙ first_digit (decimals unit) fraction place within in
    let onto : length whole + (place + 1) ≡ at + 1 = omega arith in
    let short = digits_value_short digits_model all_digits 18 digits (omega (arith, many, whole_few unit whole is)) in
    record {
      low = subst (λ (d : ℕ). 48 ≤ d) here step.1;
      high = subst (λ (d : ℕ). d ≤ 57) here step.2;
      next = rw onto (step.0 ∙ ap (λ (d : ℕ). digits_value 10 (take at all_digits) * 10 + (d - 48)) here);
      few = omega (arith, value_below all_digits (length whole + (place + 1)), short);
    }

-- after the last decimal
pub micros-all : (unit : TimeUnit) (whole fraction : List ℕ) → take (length whole + decimals unit) (micros_digits unit whole fraction) ≡ micros_digits unit whole fraction
micros-all unit whole fraction =
    take_all (length whole + decimals unit) (micros_digits unit whole fraction) (omega (arith, length-micros unit whole fraction))
