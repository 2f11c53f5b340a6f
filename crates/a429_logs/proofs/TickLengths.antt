-- The length of a number of ticks.
use Rattle.std.proofs.Common.{◌≡◌, ◌∙◌, ◌+◌, ◌*◌, ◌/◌, ◌%◌, ◌≤◌, ◌^◌, ℕ, ap, sym, arith}
use Rattle.std.specs.Prelude.{None}
use Rattle.std.proofs.lemmas.Bool.Decides.{nat_tests}
use Rattle.a429_logs.specs.LogTicks.{in_18_digits}
use Rattle.std.proofs.lemmas.Nat.{div-add-mod', div-mul-add, mod_below}

-- thousands of ticks, and the rest
pub thousands_apart : (count ns : ℕ) → count / 1000 * ns + count % 1000 * ns / 1000 ≡ count * ns / 1000
thousands_apart count ns =
    let q : ℕ = count / 1000 in
    let s : ℕ = count % 1000 * ns in
    let parts : (q * 1000 + count % 1000) * ns ≡ count * ns = ap (λ (k : ℕ). k * ns) (div-add-mod' count 1000) in
    let rest : s / 1000 * 1000 + s % 1000 ≡ s = div-add-mod' s 1000 in
    let all : count * ns ≡ (q * ns + s / 1000) * 1000 + s % 1000 = omega (arith, parts, rest) in
    sym (ap (λ (k : ℕ). k / 1000) all ∙ div-mul-add (q * ns + s / 1000) 1000 (s % 1000) (mod_below s 1000 (omega arith)))

-- a time that has more than 64 bits
pub too_long : (n : ℕ) → 2 ^ 64 ≤ n → None ≡ in_18_digits n
too_long n long = grind (arith, nat_tests)
