-- The eight digits of a word state it.
use Rattle.std.proofs.Common.{◌≡◌, ℕ, zero, suc, ◌+◌, ◌-◌, ◌*◌, ◌/◌, ◌%◌, ◌^◌, ◌<◌, ◌≤◌, Bool, false, List, [], ◌∷◌, ◌++◌, Some, None, length, replicate, refl, ap, ◌∙◌, arith, inl, inr, length-append}
use Rattle.std.specs.Prelude.{◌==◌, if◌then◌else◌, option_and_then}
use Rattle.std.specs.Fmt.{digits, digits_onto, digit_glyph, padded_integral, char_count}
use Rattle.std.proofs.Math.Nat.{pow-suc}
use Rattle.std.proofs.lemmas.List.{append-nil}
use Rattle.std.proofs.lemmas.Bool.{cases_eq, ne_eqb, eq-eqb}
use Rattle.std.proofs.lemmas.Bool.Decides.{nat_tests}
use Rattle.a429_word.specs.Hexadecimal.{hex, hex_digit, hex_onto, raw_word}
use Rattle.a429_cli.specs.Encoding.{EncodedWordsAreRead}

glyph_value : (d : ℕ) → d < 16 → hex_digit (digit_glyph false d) ≡ Some d
glyph_value d h = grind (arith, nat_tests)

digit_left : (k n : ℕ) → n < 16 ^ suc k → (n / 16 ≡ 0 → ⊥) → 0 < k
digit_left zero n small more = absurd (more (omega arith))
digit_left (suc k) n small more = omega arith

-- the digits of a number before others
digits_read : (k n : ℕ) (acc : List ℕ) → 0 < k → n < 16 ^ k → hex_onto 0 (digits_onto k 16 false n acc) ≡ hex_onto n acc
digits_read zero n acc some small = absurd (omega arith)
digits_read (suc k) n acc some small =
    let digit : hex_digit (digit_glyph false (n % 16)) ≡ Some (n % 16) = glyph_value (n % 16) (omega arith) in
    let g : ℕ = digit_glyph false (n % 16) in
    elim (cases_eq (n / 16) 0) [
      | inl none ↦
          let value : 0 * 16 + n % 16 ≡ n = omega arith in
          ap (λ (m : ℕ). hex_onto 0 (if m == 0 then g ∷ acc else digits_onto k 16 false (n / 16) (g ∷ acc))) none
          ∙ ap (option_and_then (λ d. hex_onto (0 * 16 + d) acc)) digit
          ∙ ap (λ (m : ℕ). hex_onto m acc) value
      | inr more ↦
          let value : n / 16 * 16 + n % 16 ≡ n = omega arith in
          let left : 0 < k = digit_left k n small more in
          ap (λ (b : Bool). hex_onto 0 (if b then g ∷ acc else digits_onto k 16 false (n / 16) (g ∷ acc))) (ne_eqb (n / 16) 0 more)
          ∙ digits_read k (n / 16) (g ∷ acc) left (omega (arith, pow-suc 16 k))
          ∙ ap (option_and_then (λ d. hex_onto (n / 16 * 16 + d) acc)) digit
          ∙ ap (λ (m : ℕ). hex_onto m acc) value
    ]

few_digits : (j k n : ℕ) (acc : List ℕ) → n < 16 ^ suc j → length (digits_onto k 16 false n acc) ≤ suc j + length acc
few_digits j zero n acc small = omega arith
few_digits zero (suc k) n acc small =
    let none : n / 16 ≡ 0 = omega arith in
    let same : length (digits_onto (suc k) 16 false n acc) ≡ suc (length acc) =
    ap (λ (m : ℕ). length (if m == 0 then digit_glyph false (n % 16) ∷ acc else digits_onto k 16 false (n / 16) (digit_glyph false (n % 16) ∷ acc))) none in
    omega (arith, same)
few_digits (suc j) (suc k) n acc small =
    let g : ℕ = digit_glyph false (n % 16) in
    elim (cases_eq (n / 16) 0) [
      | inl none ↦
          let same : length (digits_onto (suc k) 16 false n acc) ≡ suc (length acc) =
          ap (λ (m : ℕ). length (if m == 0 then g ∷ acc else digits_onto k 16 false (n / 16) (g ∷ acc))) none in
          omega (arith, same)
      | inr more ↦
          let same : length (digits_onto (suc k) 16 false n acc) ≡ length (digits_onto k 16 false (n / 16) (g ∷ acc)) =
          ap (λ (b : Bool). length (if b then g ∷ acc else digits_onto k 16 false (n / 16) (g ∷ acc))) (ne_eqb (n / 16) 0 more) in
          let less : n / 16 < 16 ^ suc j = omega (arith, pow-suc 16 (suc j)) in
          omega (arith, same, few_digits j k (n / 16) (g ∷ acc) less)
    ]

zeros_read : (m : ℕ) (l : List ℕ) → hex_onto 0 (replicate m 48 ++ l) ≡ hex_onto 0 l
zeros_read zero l = refl
zeros_read (suc m) l = zeros_read m l

length_of : (m : ℕ) → length {A = ℕ} (replicate m 48) ≡ m
length_of zero = refl
length_of (suc m) = ap suc (length_of m)

pub raw_word-hex : (raw : ℕ) → raw < 2 ^ 32 → raw_word (hex raw) ≡ Some raw
unfolding raw_word hex padded_integral char_count digits
raw_word-hex raw small =
    let d : List ℕ = digits_onto 64 16 false raw [] in
    let few : length d ≤ 8 = few_digits 7 64 raw [] small in
    let wide : raw < 16 ^ 64 = omega arith in
    let m : ℕ = 8 - length d - 0 - 0 in
    let eight : length (replicate m 48 ++ (d ++ [])) ≡ 8 = omega (arith, few, length-append (replicate m 48) (d ++ []), length_of m, length-append d []) in
    ap (λ (b : Bool). if b then hex_onto 0 (replicate m 48 ++ (d ++ [])) else None) (eq-eqb (length (replicate m 48 ++ (d ++ []))) 8 eight)
    ∙ zeros_read m (d ++ []) ∙ ap (hex_onto 0) (append-nil d) ∙ digits_read 64 raw [] (omega arith) wide

pub encoded_read : EncodedWordsAreRead
encoded_read label f status bytes (raw, is, printed, done) = (hex raw, raw, printed, raw_word-hex raw is.small, is)
