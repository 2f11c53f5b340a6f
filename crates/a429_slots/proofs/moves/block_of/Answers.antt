use Rattle.std.proofs.Common.{◌≡◌, ◌∙◌, ◌+◌, ◌*◌, ◌/◌, ◌%◌, ◌^◌, ◌<◌, ◌≤◌, ℕ, ap, ap₂, arith}
use Rattle.std.proofs.lemmas.Nat.{mul-add-lt}
use Rattle.std.proofs.Math.Nat.{div-le_self, mod-eq_of_lt, pow-le-pow_right}
use Rattle.a429_grid.specs.Reversal.{reversed}
use Rattle.a429_grid.proofs.Reversing.{reversed_below}
use Rattle.a429_slots.proofs.moves.block_of.Goals as goal

pub overflow_add-result : goal.overflow_add-result
overflow_add-result c =
    let h : ℕ = 2 ^ c.args.frame in
    let place : c.args.place.bus * h + reversed c.args.frame (c.from.result % h) < h * 16 =
    mul-add-lt c.args.place.bus h (reversed c.args.frame (c.from.result % h)) 16 c.requires.0 (reversed_below c.args.frame (c.from.result % h)) in
    let slots : h ≤ 8192 = omega (arith, c.slots.ensures.value, c.slots.ensures.few) in
    omega (arith, c.place_of_cell-begin.ensures, place, slots, div-le_self c.slots.result c.slots-2.result, c.slots.ensures.few)

pub returns : goal.returns
returns c =
    let f : ℕ = c.args.frame in
    let low : c.args.place.offset < 2 ^ f = omega (arith, c.requires.1, pow-le-pow_right {n = 2} (omega arith) {i = c.args.place.period} {j = f} c.requires.2) in
    let same : c.from.result % 2 ^ f ≡ c.args.place.offset = ap (λ s. s % 2 ^ f) c.from.ensures ∙ mod-eq_of_lt {n = c.args.place.offset} {m = 2 ^ f} low in
    let begin : c.place_of_cell-begin.result ≡ c.args.place.bus * 2 ^ f + reversed f c.args.place.offset = c.place_of_cell-begin.ensures ∙ ap (λ s. c.args.place.bus * 2 ^ f + reversed f s) same in
    let share : c.slots.result / c.slots-2.result ≡ 2 ^ f / 2 ^ c.args.place.period = ap₂ (λ x y. x / y) c.slots.ensures.value c.slots-2.ensures.value in
    λ i. record { begin = begin i; end = (ap₂ (λ x y. x + y) begin share) i; output = c.args.output }
