use Rattle.std.proofs.Common.{◌≡◌, ◌≤◌, ℕ, length}
use Rattle.a429_import.specs.Letters.{letters_of}
use Rattle.a429_import.proofs.plain.without_extra.Given as goal

abbrev pub invariant-loop-rest : goal.invariant-loop-rest
invariant-loop-rest l = record {
  letters : (before : ℕ) → letters_of before l.rest ≡ letters_of before l.text;
  len : length l.rest ≤ length l.text;
}

abbrev pub decreases-loop-rest : goal.decreases-loop-rest
decreases-loop-rest l = length l.rest
