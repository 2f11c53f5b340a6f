use Rattle.std.proofs.Common.{List, ℕ, ◌++◌, ◌∷◌, [], sym, ap, ◌∙◌, append-nil}
use Rattle.a429_judge.proofs.Firsts.{delayed_at, not_delayed}
use Rattle.a429_judge.proofs.figures.add_delay.Goals as goal

pub returns-then-answer-sends : goal.returns-then-answer-sends
returns-then-answer-sends c =
    let is = delayed_at c.args.facts.now c.args.accepted.now c.args.sends.now c.args.word c.args.answer c.requires.first c.if-answer-sends.true in
    let made = c.saturating_sub.ensures in
    c.push.ensures ∙ ap (λ (ns : List ℕ). c.args.numbers.now ++ ns) (ap (λ (n : ℕ). n ∷ []) made ∙ sym is)

pub returns-else-answer-sends : goal.returns-else-answer-sends
returns-else-answer-sends c =
    let none = not_delayed c.args.facts.now c.args.accepted.now c.args.sends.now c.args.word c.args.answer c.requires.first c.if-answer-sends.false in
    sym (ap (λ (ns : List ℕ). c.args.numbers.now ++ ns) none ∙ append-nil c.args.numbers.now)
