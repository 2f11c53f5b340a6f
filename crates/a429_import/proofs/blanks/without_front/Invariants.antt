use Rattle.std.proofs.Common.{◌≡◌, length}
use Rattle.a429_import.specs.ImportWords.{after_blank, stepped}
use Rattle.a429_import.proofs.blanks.without_front.Given as goal

abbrev pub invariant-loop-left : goal.invariant-loop-left
invariant-loop-left l = stepped after_blank l.left l.rest ≡ stepped after_blank (length l.text) l.text

abbrev pub decreases-loop-left : goal.decreases-loop-left
decreases-loop-left l = l.left
