use Rattle.std.proofs.Common.{◌≡◌, true, rules, List, ◌++◌, sym, ap, ◌∙◌, append-nil}
use Rattle.a429_judge.specs.declared.findings.Finding.{Finding}
use Rattle.a429_judge.specs.Judging.{is_known}
use Rattle.a429_judge.proofs.ByBits.{sorted_says}
use Rattle.a429_judge.proofs.Scanning.{right_value, stale_value, wrong_value}
use Rattle.a429_judge.proofs.findings.add_word.Goals as goal

pub returns-then-is_right_from : goal.returns-then-is_right_from
returns-then-is_right_from c =
    let none = right_value c.args.facts.now c.args.span.now c.args.mark c.args.accepted.now (sym c.is_right_from.ensures ∙ c.if-is_right_from.true) in
    sym (ap (λ (fs : List Finding). c.args.found.now ++ fs) none ∙ append-nil c.args.found.now)

pub returns-then-was_accepted : goal.returns-then-was_accepted
returns-then-was_accepted c =
    let known : is_known c.args.facts.now c.args.span.now c.args.accepted.now c.args.mark.time ≡ true = sym c.is_known.ensures ∙ search rules in
    let right = sym c.is_right_from.ensures ∙ c.if-is_right_from.false in
    let accepted = sym (sorted_says c.args.facts.now c.args.accepted.now c.args.words.now c.args.mark c.requires.words.same) ∙ (sym c.was_accepted.ensures ∙ c.if-was_accepted.true) in
    c.push.ensures ∙ ap (λ (fs : List Finding). c.args.found.now ++ fs) (sym (stale_value c.args.facts.now c.args.span.now c.args.mark c.args.accepted.now known right accepted))

pub returns-else-was_accepted : goal.returns-else-was_accepted
returns-else-was_accepted c =
    let known : is_known c.args.facts.now c.args.span.now c.args.accepted.now c.args.mark.time ≡ true = sym c.is_known.ensures ∙ search rules in
    let right = sym c.is_right_from.ensures ∙ c.if-is_right_from.false in
    let accepted = sym (sorted_says c.args.facts.now c.args.accepted.now c.args.words.now c.args.mark c.requires.words.same) ∙ (sym c.was_accepted.ensures ∙ c.if-was_accepted.false) in
    c.push-else-was_accepted.ensures ∙ ap (λ (fs : List Finding). c.args.found.now ++ fs) (sym (wrong_value c.args.facts.now c.args.span.now c.args.mark c.args.accepted.now known right accepted))
