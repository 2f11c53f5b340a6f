use Rattle.std.proofs.Common.{◌≡◌, ◌+◌, ◌-◌, ◌*◌, ◌/◌, ◌++◌, drop, suc, sym, ap, ap₂, ◌∙◌, arith, ℕ}
use Rattle.a429_text.specs.Nibbles.{nibbles}
use Rattle.a429_text.proofs.HexDigits.{two-more, none-left}
use Rattle.a429_text.proofs.HexText.{hex_nibbles}
use Rattle.a429_text.proofs.from_end.put_hex.Goals as goal

pub loop-place-init : goal.loop-place-init
loop-place-init c = let whole : c.args.end - 2 * 0 ≡ c.args.end = omega arith in ap (λ n. nibbles 8 c.args.raw ++ drop n c.args.room.now) whole

pub loop-place-preserved : goal.loop-place-preserved
loop-place-preserved c =
    let p : ℕ = c.loop-place.place in
    let k : ℕ = 8 - 2 * (p + 1) in
    let at : ℕ = c.args.end - 2 - 2 * p in
    let left : ℕ = c.loop-place.left in
    let room = c.loop-place.room in
    let count : 8 - 2 * p ≡ suc (suc k) = omega arith in
    let place : c.args.end - 2 * (p + 1) ≡ at = omega arith in
    let next : at + 2 ≡ c.args.end - 2 * p = omega arith in
    ap (λ n. nibbles k (left / 256) ++ drop n c.put_byte.new.room) place
    ∙ ap (λ l. nibbles k (left / 256) ++ l) c.put_byte.ensures.written
    ∙ two-more k left (drop (at + 2) room)
    ∙ ap₂ (λ i n. nibbles i left ++ drop n room) (sym count) next
    ∙ c.loop-place.invariant

pub returns-clause-written : goal.returns-clause-written
returns-clause-written c =
    let all : 2 * c.loop-place.place ≡ 8 = omega arith in
    let none : 8 - 2 * c.loop-place.place ≡ 0 = omega arith in
    ap (λ n. drop (c.args.end - n) c.loop-place.room) (sym all)
    ∙ ap (λ l. l ++ drop (c.args.end - 2 * c.loop-place.place) c.loop-place.room) (sym (ap (λ n. nibbles n c.loop-place.left) none ∙ none-left c.loop-place.left))
    ∙ c.loop-place.invariant
    ∙ ap (λ l. l ++ drop c.args.end c.args.room.now) (sym (hex_nibbles c.args.raw (omega arith)))
