use Rattle.std.proofs.Common.{◌≡◌, false, length}
use Rattle.a429_import.specs.ImportWords.{are_same, is_extra}
use Rattle.a429_import.specs.Letters.{letters_of, same_heading}
use Rattle.a429_import.proofs.plain.same_heading.Given as goal

abbrev pub invariant-loop-left_before : goal.invariant-loop-left_before
invariant-loop-left_before l = record {
  same : are_same (letters_of l.left_before l.left) (letters_of l.right_before l.right) ≡ same_heading l.a l.b;
  left : is_extra l.left ≡ false;
  right : is_extra l.right ≡ false;
}

abbrev pub decreases-loop-left_before : goal.decreases-loop-left_before
decreases-loop-left_before l = length l.left
