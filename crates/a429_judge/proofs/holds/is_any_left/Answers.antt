use Rattle.std.proofs.Common.{◌≡◌, ◌∙◌, ◌-◌, ℕ, ap}
use Rattle.std.specs.Prelude.{◌&&◌, not}
use Rattle.std.specs.List.{list_any}
use Rattle.a429_judge.specs.declared.facts.Mark.{Mark}
use Rattle.a429_judge.specs.Judging.{is_before_next, may_be_used_up, time_at}
use Rattle.a429_judge.proofs.Scanning.{any_between}
use Rattle.a429_judge.proofs.holds.is_any_left.Goals as goal

pub returns : goal.returns
returns c =
    let last : c.time_at-last.result ≡ time_at c.args.sends.now (c.args.count - 1) = c.time_at-last.ensures ∙ ap (time_at c.args.sends.now) c.saturating_sub.ensures in
    any_between (may_be_used_up c.args.facts.now c.args.span.now c.args.sends.now c.args.count c.args.hold) (is_before_next c.args.facts.now c.time_at-last.result) c.args.accepted.now
    c.count_used_up.result c.count_before_next.result c.count_used_up.ensures.point c.count_before_next.ensures.point c.count_used_up.ensures.within c.count_before_next.ensures.within
    ∙ ap (λ (t : ℕ). list_any (λ (a : Mark). is_before_next c.args.facts.now t a && not (may_be_used_up c.args.facts.now c.args.span.now c.args.sends.now c.args.count c.args.hold a)) c.args.accepted.now) last
