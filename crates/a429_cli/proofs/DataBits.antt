-- The bits of a number in parts.
use Rattle.std.proofs.Common.{◌≡◌, ℕ, zero, suc, ◌+◌, ◌*◌, ◌^◌, ◌<◌, ap, ◌∙◌, arith, zero-add}
use Rattle.std.proofs.Math.Nat.{pow-suc}
use Rattle.a429_word.specs.Bits.{bit, number_from}

joined : (x y p z : ℕ) → x + 2 * (y + p * z) ≡ x + 2 * y + p * 2 * z
joined x y p z = omega arith

-- those of a bits and of the b bits above them
pub number_from-add : (n a b raw : ℕ) → number_from n (a + b) raw ≡ number_from n a raw + 2 ^ a * number_from (n + a) b raw
unfolding number_from
number_from-add n zero b raw =
    let whole : number_from n (zero + b) raw ≡ number_from n b raw = ap (λ (k : ℕ). number_from n k raw) (zero-add b) in
    let place : n ≡ n + zero = omega arith in
    let same : number_from n b raw ≡ number_from (n + zero) b raw = ap (λ (m : ℕ). number_from m b raw) place in
    omega (arith, whole, same)
number_from-add n (suc a) b raw =
    let count : suc a + b ≡ suc (a + b) = omega arith in
    let place : n + 1 + a ≡ n + suc a = omega arith in
    ap (λ (k : ℕ). number_from n k raw) count
    ∙ ap (λ (x : ℕ). bit n raw + 2 * x) (number_from-add (n + 1) a b raw)
    ∙ joined (bit n raw) (number_from (n + 1) a raw) (2 ^ a) (number_from (n + 1 + a) b raw)
    ∙ ap (λ (p : ℕ). bit n raw + 2 * number_from (n + 1) a raw + p * number_from (n + 1 + a) b raw) {x = 2 ^ a * 2} {y = 2 ^ suc a} (omega (arith, pow-suc 2 a))
    ∙ ap (λ (m : ℕ). bit n raw + 2 * number_from (n + 1) a raw + 2 ^ suc a * number_from m b raw) place

pub number_from-below : (n a raw : ℕ) → number_from n a raw < 2 ^ a
unfolding number_from
number_from-below n zero raw = omega arith
number_from-below n (suc a) raw = omega (arith, number_from-below (n + 1) a raw, pow-suc 2 a)
