use Rattle.std.proofs.Common.{◌≡◌, ◌+◌, ◌≤◌, length}
use Rattle.a429_import.specs.ImportForms.{names_in_row}
use Rattle.a429_import.specs.ImportMaps.{given_texts}
use Rattle.a429_import.proofs.forms.is_heading.Given as goal

abbrev pub invariant-loop-left : goal.invariant-loop-left
invariant-loop-left l = record {
  few : l.count + l.left ≤ length l.text;
  same : l.count + names_in_row (given_texts l.maps) l.separator l.left l.rest ≡ names_in_row (given_texts l.maps) l.separator (length l.text) l.text;
}

abbrev pub decreases-loop-left : goal.decreases-loop-left
decreases-loop-left l = l.left
