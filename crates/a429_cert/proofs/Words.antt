-- Words at the front of a text.
use Rattle.std.proofs.Common.{◌≡◌, Bool, not, List, length, arith, position}
use Rattle.std.specs.Prelude.{unwrap_or}
use Rattle.std.specs.List.{position_or_len}
use Rattle.std.proofs.lemmas.Grind.{common_steps}
use Rattle.std.proofs.lemmas.List.Sums.{prefix_len-le-length}

pub unwrap_position : {X : Type 0} (p : X → Bool) (xs : List X) → unwrap_or (position p xs) (length xs) ≡ position_or_len p xs
unwrap_position p xs = grind (arith, common_steps, prefix_len-le-length (λ x. not (p x)) xs)
