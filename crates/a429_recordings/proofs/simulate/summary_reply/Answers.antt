use Rattle.std.proofs.Common.{◌∙◌, Global, Vec, ap, ℕ}
use Rattle.a429_recordings.proofs.simulate.summary_reply.Goals as goal

pub returns : goal.returns
returns g c = λ words last B.
    let (moments, timeline, is, _) = c.in_ok-text.ensures words last B in
    (moments, timeline, ap (λ (text : Vec ℕ Global). text.items) c.done.ensures.bytes ∙ is, c.done.ensures.status)
