-- How the answers of a check are printed (profile: docs/FORMATS.md, Output of `check`).
use Rattle.std.specs.Prelude.{codes, ℕ, List, ◌++◌}
use Rattle.std.specs.Fmt.{decimal}
use Rattle.a429_cert.specs.declared.verdicts.Reason.{Reason}
use Rattle.a429_cert.specs.declared.verdicts.Reason.TheVariants.{Form, Rate, Group, Frame, Buses, Output, Period, Place, Shared, Bound, Hold}
use Rattle.a429_cert.specs.declared.verdicts.No.{No as Refused}
use Rattle.a429_cert.specs.declared.verdicts.Verdict.{Verdict}
use Rattle.a429_cert.specs.declared.verdicts.Verdict.TheVariants.{Fewest, No}

unfoldable pub reason_text : Reason → List ℕ
reason_text Form = codes "form"
reason_text Rate = codes "rate"
reason_text Group = codes "group"
reason_text Frame = codes "frame"
reason_text Buses = codes "buses"
reason_text Output = codes "output"
reason_text Period = codes "period"
reason_text Place = codes "place"
reason_text Shared = codes "shared"
reason_text Bound = codes "bound"
reason_text Hold = codes "hold"

-- the reason, and the line's number from 1
abbrev pub no_text : Refused → List ℕ
no_text refused = codes "no " ++ reason_text refused.reason ++ codes " " ++ decimal refused.line

abbrev pub verdict_text : Verdict → List ℕ
verdict_text Fewest = codes "fewest"
verdict_text (No refused) = no_text refused
