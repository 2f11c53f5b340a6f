use Rattle.std.proofs.Common.{◌≡◌}
use Rattle.a429_import.specs.ImportForms.{heading_among}
use Rattle.a429_import.specs.ImportMaps.{given_texts}
use Rattle.a429_import.proofs.forms.heading_among.Given as goal

abbrev pub invariant-loop-left : goal.invariant-loop-left
invariant-loop-left l = heading_among (given_texts l.maps) l.left l.rest ≡ heading_among (given_texts l.maps) l.lines l.text

abbrev pub decreases-loop-left : goal.decreases-loop-left
decreases-loop-left l = l.left
