use Rattle.std.proofs.Common.{◌^◌}
use Rattle.a429_cli.proofs.import.short_intervals.is_short.Goals as goal

pub returns-in-Some : goal.returns-in-Some
returns-in-Some c =
    let is = c.in-Some.ensures in
    (λ no. absurd (cc no), λ short. absurd (short.2 (2 ^ c.in-Some._period) is.0 is.1))
