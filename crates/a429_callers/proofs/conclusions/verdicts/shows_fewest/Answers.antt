use Rattle.a429_callers.proofs.Shown.{shown}
use Rattle.a429_callers.proofs.conclusions.verdicts.shows_fewest.Goals as goal

pub returns-in-Ok-Fewest : goal.returns-in-Ok-Fewest
returns-in-Ok-Fewest c told =
    let f = c.in-Ok-Fewest.ensures.fewest c.in-Ok-Fewest.field-0-is in (f.0, f.1, shown f.0 c.args.text.now f.2)
