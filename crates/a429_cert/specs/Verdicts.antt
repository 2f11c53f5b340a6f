-- The answer of a check (profile: docs/FORMATS.md, Output of `check`).
use Rattle.std.specs.Prelude.{ℕ, List, Option, Some, None}
use Rattle.a429_cert.specs.declared.verdicts.No.{No}
use Rattle.a429_cert.specs.declared.verdicts.Verdict.{Verdict}
use Rattle.a429_cert.specs.declared.verdicts.Verdict.TheVariants as verdicts
use Rattle.a429_cert.specs.declared.due.DueTable.{DueTable}
use Rattle.a429_cert.specs.Lines.{lines_of}
use Rattle.a429_cert.specs.Faults.{faults, first_no}

abbrev pub verdict_of : Option No → Verdict
verdict_of None = verdicts.Fewest
verdict_of (Some refusal) = verdicts.No refusal

-- the first line that fails, with its first reason; fewest if no line fails
abbrev pub verdict : DueTable → List ℕ → Verdict
verdict t text = verdict_of (first_no 1 (faults t (lines_of text)))
