use Rattle.std.proofs.Common.{◌≡◌, length}
use Rattle.a429_import.specs.ImportWords.{before_blank, stepped}
use Rattle.a429_import.proofs.blanks.without_back.Given as goal

abbrev pub invariant-loop-left : goal.invariant-loop-left
invariant-loop-left l = stepped before_blank l.left l.rest ≡ stepped before_blank (length l.text) l.text

abbrev pub decreases-loop-left : goal.decreases-loop-left
decreases-loop-left l = l.left
