use Rattle.std.proofs.Common.{◌∙◌, ℕ, ap₂, sym}
use Rattle.std.specs.Prelude.{min}
use Rattle.a429_slots.specs.Tables.{frame_of}
use Rattle.a429_recordings.specs.JudgedPlans.{period_at}
use Rattle.a429_recordings.specs.Timeline.{table_of}
use Rattle.a429_recordings.proofs.JudgedRows.{folded_more}
use Rattle.a429_recordings.proofs.judge.duties.shortest_period.Goals as goal

pub loop-output-preserved : goal.loop-output-preserved
loop-output-preserved c =
    let period : ℕ → ℕ = period_at c.args.proposal.now c.args.group in
    let frame = frame_of (table_of c.args.proposal.now c.args.group) in
    c.min-shortest.ensures
    ∙ (ap₂ min c.loop-output.invariant c.period_at.ensures ∙ sym (folded_more (λ n o. min n (period o)) frame c.loop-output.output))
