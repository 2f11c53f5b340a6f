-- Data as a BNR number.
use Rattle.std.proofs.Common.{◌≡◌, ℕ, ℤ, pos, zero, suc, ◌+◌, ◌-◌, ◌*◌, ◌%◌, ◌^◌, ◌<◌, ◌≤◌, Bool, true, false, List, [], ◌∷◌, Option, Some, None, length, get_or, drop, ap, subst, sym, ◌∙◌, arith, inl, inr}
use Rattle.std.specs.Prelude.{neg_ℤ, ◌-ℤ◌, ◌<ℤ◌, ◌≤ℤ◌, ◌==◌, if◌then◌else◌, option_map, nat_le, MatchOption, ⊤}
use Rattle.std.specs.List.{list_all}
use Rattle.std.specs.Char.{is_ascii_digit}
use Rattle.std.proofs.Math.Nat.{mul-le-mul_left}
use Rattle.std.proofs.lemmas.Bool.{cases_lt, cases_eq, ne_eqb, and_parts, and_from, le-leb}
use Rattle.std.proofs.lemmas.Option.{cond_some}
use Rattle.std.proofs.lemmas.Int.{ints}
use Rattle.std.proofs.lemmas.Nat.{pow-add, pow_pos}
use Rattle.a429_word.specs.Bits.{bit, number_from, data_of, bnr_of}
use Rattle.a429_word.specs.Decimal.{decimal_number, is_numeral}
use Rattle.a429_cli.specs.Encoding.{GivesData, HasBnr, IsBeyond, IsNoBnr, is_bit_count, whole_number}
use Rattle.a429_cli.proofs.DataBits.{number_from-add, number_from-below}

-- the parts of a number of two digits to a base are determined
pub same_parts : (p low m n : ℕ) → low < p → low + p * m ≡ n * p → (low ≡ 0) × (m ≡ n)
same_parts p low m n below e =
    elim (cases_lt m n) [
      | inl less ↦ let more : m + 1 ≤ n = omega arith in absurd (omega (arith, below, e, mul-le-mul_left p more))
      | inr rest ↦ elim (cases_eq m n) [
        | inl same ↦ (omega (arith, e, ap (λ (k : ℕ). p * k) same), same)
        | inr other ↦ let more : n + 1 ≤ m = omega arith in absurd (omega (arith, below, e, mul-le-mul_left p more))
      ]
    ]

-- the data is the bits below a BNR number, the number's, and the sign
pub data_parts : (bits low raw : ℕ) → bits + low ≡ 18 → data_of raw ≡ number_from 11 low raw + 2 ^ low * (number_from (29 - bits) bits raw + 2 ^ bits * bit 29 raw)
unfolding number_from
data_parts bits low raw whole =
    let count : 19 ≡ low + (bits + 1) = omega arith in
    let place : 11 + low ≡ 29 - bits = omega arith in
    let top : 29 - bits + bits ≡ 29 = omega arith in
    let sign : number_from 29 1 raw ≡ bit 29 raw = omega arith in
    ap (λ (k : ℕ). number_from 11 k raw) count
    ∙ number_from-add 11 low (bits + 1) raw
    ∙ ap (λ (m : ℕ). number_from 11 low raw + 2 ^ low * number_from m (bits + 1) raw) place
    ∙ ap (λ (x : ℕ). number_from 11 low raw + 2 ^ low * x)
    (number_from-add (29 - bits) bits 1 raw ∙ ap (λ (m : ℕ). number_from (29 - bits) bits raw + 2 ^ bits * number_from m 1 raw) top
    ∙ ap (λ (x : ℕ). number_from (29 - bits) bits raw + 2 ^ bits * x) sign)

sign_off : (q m b n : ℕ) → n < q → m + q * b ≡ n → b < 2 → pos m -ℤ pos (q * b) ≡ pos n
sign_off q m zero n less e two = omega (arith, ints)
sign_off q m (suc zero) n less e two = absurd (omega arith)
sign_off q m (suc (suc b)) n less e two = absurd (omega arith)

sign_on : (q m b n : ℕ) → m < q → 1 ≤ n → n ≤ q → m + q * b + n ≡ 2 * q → b < 2 → pos m -ℤ pos (q * b) ≡ neg_ℤ (pos n)
sign_on q m zero n small some most e two = absurd (omega arith)
sign_on q m (suc zero) n small some most e two = omega (arith, ints)
sign_on q m (suc (suc b)) n small some most e two = absurd (omega arith)

two_values : (n raw : ℕ) → bit n raw < 2
two_values n raw = omega arith

-- what a word has, if its data is a number in the bits from the sign on
pub number_in_place : (bits low n raw : ℕ) → bits + low ≡ 18 → data_of raw ≡ n * 2 ^ low
    → (number_from 11 low raw ≡ 0) × (number_from (29 - bits) bits raw + 2 ^ bits * bit 29 raw ≡ n)
number_in_place bits low n raw whole is =
    same_parts (2 ^ low) (number_from 11 low raw) (number_from (29 - bits) bits raw + 2 ^ bits * bit 29 raw) n (number_from-below 11 low raw) (sym (data_parts bits low raw whole) ∙ is)

pub positive_is : (bits low n raw : ℕ) → bits + low ≡ 18 → n < 2 ^ bits → data_of raw ≡ n * 2 ^ low → (bnr_of bits raw ≡ pos n) × (number_from 11 low raw ≡ 0)
positive_is bits low n raw whole less is =
    let parts = number_in_place bits low n raw whole is in
    (sign_off (2 ^ bits) (number_from (29 - bits) bits raw) (bit 29 raw) n less parts.1 (two_values 29 raw), parts.0)

-- the two's complement of 19 bits, in the bits from the sign on
complement : (p q n k : ℕ) → p * q ≡ 2 ^ 18 → 1 ≤ p → 1 ≤ n → k + n ≡ 2 * q → (2 ^ 19 - n * p) % 2 ^ 19 ≡ k * p
complement p q n k whole one some e = omega (arith, whole, ap (λ (x : ℕ). p * x) e, mul-le-mul_left p some)

pub negative_is : (bits low n raw : ℕ) → bits + low ≡ 18 → n ≤ 2 ^ bits → data_of raw ≡ (2 ^ 19 - n * 2 ^ low) % 2 ^ 19 → (bnr_of bits raw ≡ neg_ℤ (pos n)) × (number_from 11 low raw ≡ 0)
negative_is bits low zero raw whole most is =
    let none : data_of raw ≡ zero * 2 ^ low = omega (arith, is) in
    positive_is bits low zero raw whole (pow_pos bits) none
negative_is bits low (suc n) raw whole most is =
    let one : 1 ≤ suc n = omega arith in
    let power : 2 ^ low * 2 ^ bits ≡ 2 ^ 18 = omega (arith, pow-add 2 bits low, ap (λ (k : ℕ). 2 ^ k) whole) in
    let k : ℕ = 2 * 2 ^ bits - suc n in
    let sum : k + suc n ≡ 2 * 2 ^ bits = omega (arith, most) in
    let parts = number_in_place bits low k raw whole (is ∙ complement (2 ^ low) (2 ^ bits) (suc n) k power (pow_pos low) one sum) in
    let e : number_from (29 - bits) bits raw + 2 ^ bits * bit 29 raw + suc n ≡ 2 * 2 ^ bits = ap (λ (x : ℕ). x + suc n) parts.1 ∙ sum in
    (sign_on (2 ^ bits) (number_from (29 - bits) bits raw) (bit 29 raw) (suc n) (number_from-below (29 - bits) bits raw) one most e (two_values 29 raw), parts.0)

-- ---- what the text states

whole_minus : (text : List ℕ) (n : ℕ) → 1 ≤ length text → get_or text 0 0 ≡ 45 → decimal_number (drop 1 text) ≡ Some n → whole_number text ≡ Some (neg_ℤ (pos n))
whole_minus [] n long first is = absurd (omega arith)
whole_minus (c ∷ cs) n long first is =
    ap (λ (k : ℕ). if k == 45 then option_map (λ m. neg_ℤ (pos m)) (decimal_number cs) else option_map pos (decimal_number (k ∷ cs))) first
    ∙ ap (option_map (λ m. neg_ℤ (pos m))) is

number_digits : (text : List ℕ) (n : ℕ) → decimal_number text ≡ Some n → list_all is_ascii_digit text ≡ true
unfolding decimal_number is_numeral
number_digits text n is = (and_parts _ _ (cond_some _ _ _ is).0).1

no_minus : (cs : List ℕ) (n : ℕ) → decimal_number (45 ∷ cs) ≡ Some n → ⊥
no_minus cs n is = let digits : false ≡ true = number_digits (45 ∷ cs) n is in cc

whole_plain : (text : List ℕ) (n : ℕ) → decimal_number text ≡ Some n → whole_number text ≡ Some (pos n)
unfolding decimal_number is_numeral
whole_plain [] n is = cc
whole_plain (c ∷ cs) n is =
    let other : c ≡ 45 → ⊥ = λ e. no_minus cs n (subst (λ (k : ℕ). decimal_number (k ∷ cs) ≡ Some n) e is) in
    ap (λ (b : Bool). if b then option_map (λ m. neg_ℤ (pos m)) (decimal_number cs) else option_map pos (decimal_number (c ∷ cs))) (ne_eqb c 45 other)
    ∙ ap (option_map pos) is

-- ---- what the data is of

pub fits_data : (bits n : ℕ) → bits ≤ 18 → n ≤ 2 ^ bits → n * 2 ^ (18 - bits) ≤ 2 ^ 18
fits_data bits n h most =
    let whole : bits + (18 - bits) ≡ 18 = omega arith in
    omega (arith, pow-add 2 bits (18 - bits), ap (λ (k : ℕ). 2 ^ k) whole, mul-le-mul_left (2 ^ (18 - bits)) most)

no_bnr : (bits : ℕ) (text : List ℕ) (z : ℤ) → whole_number text ≡ Some z → IsBeyond bits z → IsNoBnr bits text
no_bnr bits text z is beyond = inr (subst (λ (o : Option ℤ). MatchOption o ⊤ (IsBeyond bits)) (sym is) beyond)

pub negative_data_is : (bits n : ℕ) (text : List ℕ) (r : Option ℕ) → 1 ≤ bits → bits ≤ 18
    → 1 ≤ length text → get_or text 0 0 ≡ 45 → decimal_number (drop 1 text) ≡ Some n
    → MatchOption r (2 ^ bits < n) (λ value. (n ≤ 2 ^ bits) × (value ≡ (2 ^ 19 - n * 2 ^ (18 - bits)) % 2 ^ 19))
    → MatchOption r (IsNoBnr bits text) (GivesData (HasBnr bits text))
negative_data_is bits n text None low high long first is more =
    let beyond : neg_ℤ (pos n) <ℤ neg_ℤ (pos (2 ^ bits)) = omega (arith, ints, more) in
    no_bnr bits text (neg_ℤ (pos n)) (whole_minus text n long first is) (inl beyond)
negative_data_is bits n text (Some value) low high long first is within =
    let count : is_bit_count bits ≡ true = and_from (nat_le 1 bits) (nat_le bits 18) (le-leb 1 bits low) (le-leb bits 18 high) in
    let whole : bits + (18 - bits) ≡ 18 = omega arith in
    record {
      small = omega (arith, within.1);
      has = λ raw e. let parts = negative_is bits (18 - bits) n raw whole within.0 (e ∙ within.1) in
          record { count = count; number = whole_minus text n long first is ∙ ap (λ z. Some z) (sym parts.0); below = parts.1 };
    }

pub positive_data_is : (bits n : ℕ) (text : List ℕ) (r : Option ℕ) → 1 ≤ bits → bits ≤ 18 → decimal_number text ≡ Some n
    → MatchOption r (2 ^ bits ≤ n) (λ value. (n < 2 ^ bits) × (value ≡ n * 2 ^ (18 - bits)))
    → MatchOption r (IsNoBnr bits text) (GivesData (HasBnr bits text))
positive_data_is bits n text None low high is more =
    let beyond : pos (2 ^ bits) ≤ℤ pos n = omega (arith, ints, more) in
    no_bnr bits text (pos n) (whole_plain text n is) (inr beyond)
positive_data_is bits n text (Some value) low high is within =
    let count : is_bit_count bits ≡ true = and_from (nat_le 1 bits) (nat_le bits 18) (le-leb 1 bits low) (le-leb bits 18 high) in
    let whole : bits + (18 - bits) ≡ 18 = omega arith in
    let most : n ≤ 2 ^ bits = omega (arith, within.0) in
    record {
      small = omega (arith, within.1, fits_data bits n high most);
      has = λ raw e. let parts = positive_is bits (18 - bits) n raw whole within.0 (e ∙ within.1) in
          record { count = count; number = whole_plain text n is ∙ ap (λ z. Some z) (sym parts.0); below = parts.1 };
    }
