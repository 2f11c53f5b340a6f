-- A text that is answered by fewest has no line that fails.
use Rattle.std.proofs.Common.{◌≡◌, refl, subst}
use Rattle.std.specs.Prelude.{Option, Some, None}
use Rattle.a429_cert.specs.Verdicts.{verdict_of}
use Rattle.a429_cert.specs.declared.verdicts.No.{No}
use Rattle.a429_cert.specs.declared.verdicts.Verdict.{Verdict}
use Rattle.a429_cert.specs.declared.verdicts.Verdict.TheVariants as verdicts

is_no : Verdict → Type 0
is_no verdicts.Fewest = ⊥
is_no (verdicts.No refused) = Unit {0}

pub none_refused : (x : Option No) → verdict_of x ≡ verdicts.Fewest → x ≡ None
unfolding is_no
none_refused None h = refl
none_refused (Some refused) h = absurd (subst is_no h (record {}))
