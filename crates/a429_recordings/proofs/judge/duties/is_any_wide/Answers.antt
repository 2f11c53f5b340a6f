use Rattle.std.proofs.Common.{◌≡◌, ◌∙◌, ap}
use Rattle.std.specs.Prelude.{◌||◌, Bool}
use Rattle.std.specs.List.{list_any}
use Rattle.a429_arguments.specs.Texts.{texts_of}
use Rattle.a429_recordings.specs.JudgedPlans.{is_wide, is_wide_in}
use Rattle.a429_recordings.proofs.JudgedRows.{found_more}
use Rattle.a429_recordings.proofs.judge.duties.is_any_wide.Goals as goal

pub loop-group-preserved : goal.loop-group-preserved
loop-group-preserved c =
    let wide = is_wide_in c.args.proposal.now (texts_of c.args.tolerances.now) in
    let one : c.is_wide_at.result ≡ wide c.loop-group.group = c.is_wide_at.ensures ∙ ap (list_any is_wide) (c.deref.ensures.value ∙ c.in_ok-duties.ensures) in
    found_more wide c.loop-group.group c.loop-group.wide c.either-wide.result c.loop-group.invariant (c.either-wide.ensures ∙ ap (λ (b : Bool). c.loop-group.wide || b) one)
