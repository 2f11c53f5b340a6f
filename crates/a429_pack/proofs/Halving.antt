-- The number of probes of a search that halves what is left.
use Rattle.std.proofs.Common.{◌≡◌, ℕ, suc, ◌+◌, ◌*◌, ◌^◌, ◌<◌, ◌≤◌, ap, ◌∙◌, arith, inl, inr}
use Rattle.std.proofs.lemmas.Bool.{cases_lt}
use Rattle.std.proofs.Math.Nat.{pow-suc, pow-le-pow_right, mul-le-mul_right}

-- one probe more, if at most half is left
pub halved_again : (m n p k : ℕ) → 2 * m ≤ n → n * 2 ^ p < k → m * 2 ^ (p + 1) < k
halved_again m n p k half left =
    let more : p + 1 ≡ suc p = omega arith in
    let twice : 2 ^ (p + 1) ≡ 2 ^ p * 2 = ap (λ z. 2 ^ z) more ∙ pow-suc 2 p in
    let product : m * 2 ^ (p + 1) ≡ 2 * m * 2 ^ p = ap (λ z. m * z) twice ∙ omega arith in
    omega (arith, product, mul-le-mul_right {m = 2 * m} {n = n} (2 ^ p) half)

pub one_probe_more : (n p k : ℕ) → 1 ≤ n → n * 2 ^ p < k → 2 ^ (p + 1) ≤ 2 * k
one_probe_more n p k some left =
    let more : p + 1 ≡ suc p = omega arith in
    let twice : 2 ^ (p + 1) ≡ 2 ^ p * 2 = ap (λ z. 2 ^ z) more ∙ pow-suc 2 p in
    omega (arith, twice, mul-le-mul_right {m = 1} {n = n} (2 ^ p) some)

pub few_probes : (p k digits : ℕ) → 2 ^ p ≤ 2 * k → k < 2 ^ digits → p ≤ digits
few_probes p k digits most below =
    elim (cases_lt digits p) [
      | inl many ↦
          let two : 0 < 2 = omega arith in
          let grown : 2 ^ suc digits ≤ 2 ^ p = pow-le-pow_right {n = 2} two {i = suc digits} {j = p} many in
          absurd (omega (arith, pow-suc 2 digits, grown))
      | inr few ↦ few
    ]

-- and at least half
pub spread_again : (wide half p k : ℕ) → wide ≤ 2 * half + 1 → k < (wide + 1) * 2 ^ p → k < (half + 1) * 2 ^ (p + 1)
spread_again wide half p k most h =
    let more : p + 1 ≡ suc p = omega arith in
    let twice : 2 ^ (p + 1) ≡ 2 ^ p * 2 = ap (λ z. 2 ^ z) more ∙ pow-suc 2 p in
    let product : (half + 1) * 2 ^ (p + 1) ≡ 2 * (half + 1) * 2 ^ p = ap (λ z. (half + 1) * z) twice ∙ omega arith in
    omega (arith, h, product, mul-le-mul_right {m = wide + 1} {n = 2 * (half + 1)} (2 ^ p) (omega arith))

pub some_probes : (wide p k : ℕ) → wide ≤ 1 → k < (wide + 1) * 2 ^ p → k < 2 ^ (p + 1)
some_probes wide p k most h =
    let more : p + 1 ≡ suc p = omega arith in
    let twice : 2 ^ (p + 1) ≡ 2 ^ p * 2 = ap (λ z. 2 ^ z) more ∙ pow-suc 2 p in
    omega (arith, h, twice, mul-le-mul_right {m = wide + 1} {n = 2} (2 ^ p) (omega arith))
