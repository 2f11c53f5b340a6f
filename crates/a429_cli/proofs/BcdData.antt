-- Data as BCD digits.
use Rattle.std.proofs.Common.{◌≡◌, ℕ, ◌+◌, ◌-◌, ◌*◌, ◌^◌, ◌<◌, ◌≤◌, Bool, true, List, [], ◌∷◌, Some, None, length, get_or, refl, ap, sym, ◌∙◌, arith}
use Rattle.std.specs.Prelude.{if◌then◌else◌, nat_lt}
use Rattle.std.specs.List.{list_all}
use Rattle.std.specs.Char.{is_ascii_digit}
use Rattle.std.proofs.lemmas.Bool.{and_from, le-leb, lt-ltb}
use Rattle.a429_word.specs.Bits.{number_from, data_of, bcd_of, digit_fields}
use Rattle.a429_cli.specs.Encoding.{GivesData, HasBcd, five_digits}
use Rattle.a429_cli.proofs.DataBits.{number_from-add, number_from-below}

-- the data is the five fields of digits
data_fields : (raw : ℕ) → data_of raw ≡ number_from 11 4 raw + 2 ^ 4 * (number_from 15 4 raw + 2 ^ 4 * (number_from 19 4 raw + 2 ^ 4 * (number_from 23 4 raw + 2 ^ 4 * number_from 27 3 raw)))
data_fields raw =
    number_from-add 11 4 15 raw
    ∙ ap (λ (x : ℕ). number_from 11 4 raw + 2 ^ 4 * x)
    (number_from-add 15 4 11 raw ∙ ap (λ (x : ℕ). number_from 15 4 raw + 2 ^ 4 * x)
    (number_from-add 19 4 7 raw ∙ ap (λ (x : ℕ). number_from 19 4 raw + 2 ^ 4 * x) (number_from-add 23 4 3 raw)))

same_digit : (f x more rest : ℕ) → f < 16 → x < 16 → f + 16 * more ≡ x + 16 * rest → (f ≡ x) × (more ≡ rest)
same_digit f x more rest h k e = (omega arith, omega arith)

-- the fields of data of five digits
fields_are : (a b c d e raw : ℕ) → a < 10 → b < 10 → c < 10 → d < 10 → e < 10
    → data_of raw ≡ e + 16 * (d + 16 * (c + 16 * (b + 16 * a))) → digit_fields raw ≡ a ∷ b ∷ c ∷ d ∷ e ∷ []
fields_are a b c d e raw ha hb hc hd he is =
    let fifth = same_digit (number_from 11 4 raw) e _ (d + 16 * (c + 16 * (b + 16 * a))) (number_from-below 11 4 raw) (omega arith) (sym (data_fields raw) ∙ is) in
    let fourth = same_digit (number_from 15 4 raw) d _ (c + 16 * (b + 16 * a)) (number_from-below 15 4 raw) (omega arith) fifth.1 in
    let third = same_digit (number_from 19 4 raw) c _ (b + 16 * a) (number_from-below 19 4 raw) (omega arith) fourth.1 in
    let second = same_digit (number_from 23 4 raw) b _ a (number_from-below 23 4 raw) (omega arith) third.1 in
    (λ i. second.1 i ∷ second.0 i ∷ third.0 i ∷ fourth.0 i ∷ fifth.0 i ∷ [])

all_below : (a b c d e : ℕ) → a < 10 → b < 10 → c < 10 → d < 10 → e < 10 → list_all (λ n. nat_lt n 10) (a ∷ b ∷ c ∷ d ∷ e ∷ []) ≡ true
all_below a b c d e ha hb hc hd he =
    and_from _ _ (lt-ltb a 10 ha) (and_from _ _ (lt-ltb b 10 hb) (and_from _ _ (lt-ltb c 10 hc) (and_from _ _ (lt-ltb d 10 hd) (and_from _ _ (lt-ltb e 10 he) refl))))

bcd_is : (a b c d e raw : ℕ) → a < 10 → b < 10 → c < 10 → d < 10 → e < 10
    → data_of raw ≡ e + 16 * (d + 16 * (c + 16 * (b + 16 * a))) → bcd_of raw ≡ Some (a ∷ b ∷ c ∷ d ∷ e ∷ [])
bcd_is a b c d e raw ha hb hc hd he is =
    ap (λ (fs : List ℕ). if list_all (λ n. nat_lt n 10) fs then Some fs else None) (fields_are a b c d e raw ha hb hc hd he is)
    ∙ ap (λ (t : Bool). if t then Some (a ∷ b ∷ c ∷ d ∷ e ∷ []) else None) (all_below a b c d e ha hb hc hd he)

digit_test : (c : ℕ) → 48 ≤ c → c ≤ 57 → is_ascii_digit c ≡ true
digit_test c low high = and_from _ _ (le-leb 48 c low) (le-leb c 57 high)

-- a decimal digit
pub record IsDigit (c : ℕ) : Type 0 where
  pub low : 48 ≤ c
  pub high : c ≤ 57

digits_are : (a b c d e : ℕ) → IsDigit a → IsDigit b → IsDigit c → IsDigit d → IsDigit e
    → five_digits (a ∷ b ∷ c ∷ d ∷ e ∷ []) ≡ Some ((a - 48) ∷ (b - 48) ∷ (c - 48) ∷ (d - 48) ∷ (e - 48) ∷ [])
digits_are a b c d e ha hb hc hd he =
    ap (λ (t : Bool). if t then Some ((a - 48) ∷ (b - 48) ∷ (c - 48) ∷ (d - 48) ∷ (e - 48) ∷ []) else None)
    (and_from _ _ (digit_test a ha.low ha.high) (and_from _ _ (digit_test b hb.low hb.high) (and_from _ _ (digit_test c hc.low hc.high)
    (and_from _ _ (digit_test d hd.low hd.high) (and_from _ _ (digit_test e he.low he.high) refl)))))

-- data of the text of five digits
pub bcd_data_is : (text : List ℕ) (value : ℕ) → length text ≡ 5 → 48 ≤ get_or text 0 0 → get_or text 0 0 ≤ 55 → IsDigit (get_or text 1 0) → IsDigit (get_or text 2 0)
    → IsDigit (get_or text 3 0) → IsDigit (get_or text 4 0)
    → value ≡ get_or text 4 0 - 48 + 16 * (get_or text 3 0 - 48 + 16 * (get_or text 2 0 - 48 + 16 * (get_or text 1 0 - 48 + 16 * (get_or text 0 0 - 48))))
    → GivesData (HasBcd text) value
bcd_data_is [] value five low high hb hc hd he is = absurd (omega arith)
bcd_data_is (a ∷ []) value five low high hb hc hd he is = absurd (omega arith)
bcd_data_is (a ∷ b ∷ []) value five low high hb hc hd he is = absurd (omega arith)
bcd_data_is (a ∷ b ∷ c ∷ []) value five low high hb hc hd he is = absurd (omega arith)
bcd_data_is (a ∷ b ∷ c ∷ d ∷ []) value five low high hb hc hd he is = absurd (omega arith)
bcd_data_is (a ∷ b ∷ c ∷ d ∷ e ∷ []) value five low high hb hc hd he is =
    let ha : IsDigit a = record { low = low; high = omega arith } in
    record {
      small = omega (arith, is);
      has = λ raw same. (
        (a - 48) ∷ (b - 48) ∷ (c - 48) ∷ (d - 48) ∷ (e - 48) ∷ [],
        digits_are a b c d e ha hb hc hd he,
        bcd_is (a - 48) (b - 48) (c - 48) (d - 48) (e - 48) raw (omega arith) (omega arith) (omega arith) (omega arith) (omega arith) (same ∙ is),
      );
    }
bcd_data_is (a ∷ b ∷ c ∷ d ∷ e ∷ f ∷ fs) value five low high hb hc hd he is = absurd (omega arith)
