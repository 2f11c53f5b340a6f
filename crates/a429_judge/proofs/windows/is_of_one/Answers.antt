use Rattle.std.proofs.Common.{◌≡◌, ◌∙◌, ℕ, sym, ap, true, rules, drop}
use Rattle.a429_judge.specs.Judging.{is_equal, is_known, is_right, is_twice}
use Rattle.a429_judge.proofs.Scanning.{of_one_is, past_ends}
use Rattle.a429_judge.proofs.windows.is_of_one.Goals as goal

pub returns : goal.returns
returns c =
    let known_first : is_known c.args.facts.now c.args.span.now c.args.accepted.now c.args.first.now.time ≡ true = sym c.is_known.ensures ∙ search rules in
    let known : is_known c.args.facts.now c.args.span.now c.args.accepted.now c.args.send.now.time ≡ true = sym c.is_known-2.ensures ∙ search rules in
    let first : is_right c.args.facts.now c.args.first.now c.args.accepted.now ≡ true = sym c.is_right_from.ensures ∙ search rules in
    let second : is_right c.args.facts.now c.args.send.now c.args.accepted.now ≡ true = sym c.is_right_from-2.ensures ∙ search rules in
    of_one_is c.args.facts.now c.args.span.now c.args.accepted.now c.args.first.now c.args.send.now c.count_past.result c.is_twice_from.result c.if-first-send.false known_first known first second
    (sym (past_ends c.args.facts.now c.args.first.now.time c.args.accepted.now c.count_past.result c.count_past.ensures.point c.count_past.ensures.within))
    (c.is_twice_from.ensures ∙ ap (λ (k : ℕ). is_twice (is_equal c.args.facts.now c.args.send.now) (drop k c.args.accepted.now)) c.saturating_sub-from.ensures)
