-- The eight digits are what `{:08x}` writes.
use Rattle.std.proofs.Common.{◌≡◌, ℕ, suc, zero, ◌+◌, ◌-◌, ◌*◌, ◌/◌, ◌%◌, ◌^◌, ◌<◌, ◌++◌, ◌∷◌, [], List, length, refl, sym, ap, ◌∙◌, arith, Bool, false, inl, inr, replicate}
use Rattle.std.proofs.lemmas.List.{append_assoc, append-nil}
use Rattle.std.proofs.lemmas.Bool.{cases_eq}
use Rattle.std.proofs.Math.Nat.{pow-suc}
use Rattle.std.specs.Fmt.{digits, digits_onto, digit_glyph, padded_integral, char_count}
use Rattle.std.specs.Prelude.{◌==◌, if◌then◌else◌}
use Rattle.std.proofs.lemmas.Bool.{ne_eqb}
use Rattle.a429_word.specs.Hexadecimal.{hex}
use Rattle.a429_text.specs.Nibbles.{nibble, nibbles}
use Rattle.a429_text.proofs.HexDigits.{nibbles-suc, none-left}

glyph : (n : ℕ) → digit_glyph false n ≡ nibble n
unfolding nibble
glyph n = refl

digits_onto_last : (i n : ℕ) (acc : List ℕ) → 0 < i → n / 16 ≡ 0 → digits_onto i 16 false n acc ≡ digit_glyph false (n % 16) ∷ acc
digits_onto_last zero n acc h e = absurd (omega arith)
digits_onto_last (suc k) n acc h e = ap (λ (m : ℕ). if m == 0 then digit_glyph false (n % 16) ∷ acc else digits_onto k 16 false (n / 16) (digit_glyph false (n % 16) ∷ acc)) e

digits_onto_step : (i n : ℕ) (acc : List ℕ) → 0 < i → (n / 16 ≡ 0 → ⊥) → digits_onto i 16 false n acc ≡ digits_onto (i - 1) 16 false (n / 16) (digit_glyph false (n % 16) ∷ acc)
digits_onto_step zero n acc h e = absurd (omega arith)
digits_onto_step (suc k) n acc h e =
    ap (λ (b : Bool). if b then digit_glyph false (n % 16) ∷ acc else digits_onto k 16 false (n / 16) (digit_glyph false (n % 16) ∷ acc)) (ne_eqb (n / 16) 0 e)
    ∙ ap (λ (j : ℕ). digits_onto j 16 false (n / 16) (digit_glyph false (n % 16) ∷ acc)) {x = k} {y = suc k - 1} (omega arith)

zeros-last : (m : ℕ) (l : List ℕ) → replicate m 48 ++ 48 ∷ l ≡ replicate (suc m) 48 ++ l
zeros-last zero l = refl
zeros-last (suc m) l = ap (λ k. 48 ∷ k) (zeros-last m l)

nibble-zero : nibble 0 ≡ 48
unfolding nibble
nibble-zero = refl

all-zeros : (m : ℕ) (l : List ℕ) → nibbles m 0 ++ l ≡ replicate m 48 ++ l
all-zeros zero l = ap (λ k. k ++ l) (none-left 0)
all-zeros (suc m) l =
    ap (λ k. k ++ l) (nibbles-suc m 0)
    ∙ append_assoc (nibbles m 0) (nibble 0 ∷ []) l
    ∙ ap (λ n. nibbles m 0 ++ n ∷ l) nibble-zero
    ∙ all-zeros m (48 ∷ l)
    ∙ zeros-last m l

-- digits of a number below 16 to the k-th, with zeros before them
pub padded-digits : (k j n : ℕ) (acc : List ℕ) → n < 16 ^ suc k → k < j
    → replicate (suc k + length acc - length (digits_onto j 16 false n acc)) 48 ++ digits_onto j 16 false n acc ≡ nibbles (suc k) n ++ acc
padded-digits zero j n acc small fuel =
    let one : n / 16 ≡ 0 = omega (arith, small) in
    let last : digits_onto j 16 false n acc ≡ digit_glyph false (n % 16) ∷ acc = digits_onto_last j n acc (omega arith) one in
    let none : suc 0 + length acc - length (digit_glyph false (n % 16) ∷ acc) ≡ 0 = omega arith in
    ap (λ l. replicate (suc 0 + length acc - length l) 48 ++ l) last
    ∙ ap (λ m. replicate m 48 ++ (digit_glyph false (n % 16) ∷ acc)) none
    ∙ ap (λ d. d ∷ acc) (glyph (n % 16))
    ∙ sym (ap (λ l. l ++ acc) (nibbles-suc 0 n ∙ ap (λ l. l ++ nibble (n % 16) ∷ []) (none-left (n / 16))))
padded-digits (suc k) j n acc small fuel =
    let g : ℕ = digit_glyph false (n % 16) in
    let right : nibbles (suc k) (n / 16) ++ g ∷ acc ≡ nibbles (suc (suc k)) n ++ acc =
    ap (λ d. nibbles (suc k) (n / 16) ++ d ∷ acc) (glyph (n % 16))
    ∙ sym (append_assoc (nibbles (suc k) (n / 16)) (nibble (n % 16) ∷ []) acc)
    ∙ ap (λ l. l ++ acc) (sym (nibbles-suc (suc k) n)) in
    elim (cases_eq (n / 16) 0) [
      | inl none ↦
          let last : digits_onto j 16 false n acc ≡ g ∷ acc = digits_onto_last j n acc (omega arith) none in
          let left : suc (suc k) + length acc - length (g ∷ acc) ≡ suc k = omega arith in
          ap (λ l. replicate (suc (suc k) + length acc - length l) 48 ++ l) last
          ∙ ap (λ m. replicate m 48 ++ (g ∷ acc)) left
          ∙ sym (all-zeros (suc k) (g ∷ acc))
          ∙ ap (λ m. nibbles (suc k) m ++ (g ∷ acc)) (sym none)
          ∙ right
      | inr more ↦
          let step : digits_onto j 16 false n acc ≡ digits_onto (j - 1) 16 false (n / 16) (g ∷ acc) = digits_onto_step j n acc (omega arith) more in
          let power : 16 ^ suc (suc k) ≡ 16 ^ suc k * 16 = pow-suc 16 (suc k) in
          let count : suc (suc k) + length acc ≡ suc k + length (g ∷ acc) = omega arith in
          let ih : replicate (suc k + length (g ∷ acc) - length (digits_onto (j - 1) 16 false (n / 16) (g ∷ acc))) 48 ++ digits_onto (j - 1) 16 false (n / 16) (g ∷ acc) ≡ nibbles (suc k) (n / 16) ++ g ∷ acc =
          padded-digits k (j - 1) (n / 16) (g ∷ acc) (omega arith) (omega arith) in
          ap (λ l. replicate (suc (suc k) + length acc - length l) 48 ++ l) step
          ∙ ap (λ m. replicate (m - length (digits_onto (j - 1) 16 false (n / 16) (g ∷ acc))) 48 ++ digits_onto (j - 1) 16 false (n / 16) (g ∷ acc)) count
          ∙ ih ∙ right
    ]

-- the eight digits of a number of 32 bits
pub hex_nibbles : (raw : ℕ) → raw < 2 ^ 32 → hex raw ≡ nibbles 8 raw
unfolding hex padded_integral char_count digits
hex_nibbles raw small =
    let d : List ℕ = digits_onto 64 16 false raw [] in
    let room : 8 - length d - 0 - 0 ≡ 8 + 0 - length d = omega arith in
    ap (λ m. replicate m 48 ++ (d ++ [])) room
    ∙ ap (λ l. replicate (8 + 0 - length d) 48 ++ l) (append-nil d)
    ∙ padded-digits 7 64 raw [] (omega (arith, small)) (omega arith)
    ∙ append-nil (nibbles 8 raw)
