use Rattle.std.proofs.Common.{◌≡◌, ◌≤◌, drop, false, length}
use Rattle.a429_import.specs.ImportForms.{quotes_end}
use Rattle.a429_import.proofs.forms.quotes_end.Given as goal

abbrev pub invariant-loop-place : goal.invariant-loop-place
invariant-loop-place l = record {
  within : l.place ≤ length l.text;
  same : quotes_end l.is_quote l.place (drop l.place l.text) ≡ quotes_end false 0 l.text;
}
