use Rattle.std.proofs.Common.{◌≡◌, drop}
use Rattle.std.specs.Prelude.{false}
use Rattle.a429_logs.specs.LogFields.{first_outside}
use Rattle.a429_logs.proofs.QuotedText.{shifted}
use Rattle.a429_logs.proofs.fields.Separator.first_outside.Given as goal

abbrev pub invariant-loop-place : goal.invariant-loop-place
invariant-loop-place l = shifted l.place (first_outside l.self l.inside (drop l.place l.text)) ≡ first_outside l.self false l.text
