use Rattle.std.proofs.Common.{rules, ◌≡◌, ◌<◌, ◌∙◌, sym, ap, get_or, ℕ, true, false, Bool, length, drop, ◌+◌}
use Rattle.a429_logs.specs.LogFields.{ends_part, first_outside, turned}
use Rattle.a429_logs.proofs.QuotedText.{search-end, search-here, search-later, shifted, shifted-zero}
use Rattle.a429_logs.proofs.fields.Separator.first_outside.Goals as goal

pub loop-place-init : goal.loop-place-init
loop-place-init c = shifted-zero (first_outside c.args.self false c.args.text.now)

pub returns-then-ends_part-clause-place : goal.returns-then-ends_part-clause-place
returns-then-ends_part-clause-place c =
    let text = c.args.text.now in
    let place : ℕ = c.loop-place.place in
    let below : place < length text = search rules in
    let ends : ends_part c.args.self c.loop-place.inside (get_or text place 0) ≡ true = search rules in
    sym (search-here c.args.self c.loop-place.inside text place below ends) ∙ c.loop-place.invariant

pub loop-place-preserved : goal.loop-place-preserved
loop-place-preserved c =
    let text = c.args.text.now in
    let place : ℕ = c.loop-place.place in
    let below : place < length text = search rules in
    let goes : ends_part c.args.self c.loop-place.inside (get_or text place 0) ≡ false = search rules in
    let next : c.turned-inside.result ≡ turned c.loop-place.inside (get_or text place 0) = search rules in
    ap (λ (b : Bool). shifted (place + 1) (first_outside c.args.self b (drop (place + 1) text))) next
    ∙ sym (search-later c.args.self c.loop-place.inside text place below goes)
    ∙ c.loop-place.invariant

pub returns-clause-place : goal.returns-clause-place
returns-clause-place c =
    let text = c.args.text.now in
    let last : c.loop-place.place ≡ length text = search rules in
    sym (search-end c.args.self c.loop-place.inside text c.loop-place.place last) ∙ c.loop-place.invariant
