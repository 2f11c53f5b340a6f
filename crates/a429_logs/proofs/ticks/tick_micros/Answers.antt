use Rattle.std.proofs.Common.{◌≡◌, ◌∙◌, ◌*◌, ◌/◌, ◌≤◌, ◌^◌, ℕ, ap, arith}
use Rattle.a429_logs.specs.LogTicks.{in_18_digits}
use Rattle.a429_logs.proofs.TickLengths.{thousands_apart, too_long}
use Rattle.a429_logs.proofs.ticks.tick_micros.Goals as goal

pub returns-in_err-whole : goal.returns-in_err-whole
returns-in_err-whole c =
    let ns : ℕ = c.from-nanoseconds.result in
    let long : 2 ^ 64 ≤ c.args.count * ns / 1000 = omega (arith, c.in_err-whole.ensures, thousands_apart c.args.count ns) in
    c.from_residual.ensures ∙ too_long _ long ∙ ap (λ (n : ℕ). in_18_digits (c.args.count * n / 1000)) c.from-nanoseconds.ensures

pub returns-in_err-micros : goal.returns-in_err-micros
returns-in_err-micros c =
    let ns : ℕ = c.from-nanoseconds.result in
    let long : 2 ^ 64 ≤ c.args.count * ns / 1000 = omega (arith, c.in_ok-whole.ensures, c.in_err-micros.ensures, thousands_apart c.args.count ns) in
    c.from_residual-in_err-micros.ensures ∙ too_long _ long ∙ ap (λ (n : ℕ). in_18_digits (c.args.count * n / 1000)) c.from-nanoseconds.ensures

pub returns : goal.returns
returns c =
    let ns : ℕ = c.from-nanoseconds.result in
    let all : c.in_ok-micros.micros ≡ c.args.count * ns / 1000 = omega (arith, c.in_ok-whole.ensures, c.in_ok-micros.ensures, thousands_apart c.args.count ns) in
    c.in_18_digits.ensures ∙ ap in_18_digits all ∙ ap (λ (n : ℕ). in_18_digits (c.args.count * n / 1000)) c.from-nanoseconds.ensures
