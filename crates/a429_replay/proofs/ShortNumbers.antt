-- Numbers of ten decimal digits at most.
use Rattle.std.proofs.Common.{◌≡◌, ◌<◌, ◌^◌, ℕ, Bool, true, false, cond, List, arith, refl}
use Rattle.std.specs.Prelude.{Some, None}
use Rattle.std.specs.Str.Parse.{digits_value}
use Rattle.std.proofs.lemmas.Option.{same_Some}
use Rattle.std.proofs.lemmas.Str.Parse.{digits_value_short}
use Rattle.a429_word.specs.Decimal.{decimal_number, is_numeral}
use Rattle.a429_word.proofs.Numerals.{digits_model, numeral_digits, numeral_short}

short_by : (w : List ℕ) (n : ℕ) (t : Bool) → is_numeral w ≡ t → cond t (Some (digits_value 10 w)) None ≡ Some n → n < 2 ^ 40
short_by w n true numeral is =
    let below = digits_value_short digits_model w 10 (numeral_digits w numeral) (numeral_short w numeral) in
    let same : digits_value 10 w ≡ n = same_Some _ _ is in
    omega (arith, below, same)
short_by w n false numeral is = cc

-- what a numeral states fits 40 bits
pub decimal_short : (w : List ℕ) (n : ℕ) → decimal_number w ≡ Some n → n < 2 ^ 40
unfolding decimal_number
decimal_short w n is = short_by w n (is_numeral w) refl is
