use Rattle.std.proofs.Common.{◌≡◌, ◌++◌, drop, ◌-◌, ◌*◌}
use Rattle.a429_text.specs.Nibbles.{nibbles}
use Rattle.a429_text.proofs.from_end.put_hex.Given as goal

abbrev pub invariant-loop-place : goal.invariant-loop-place
invariant-loop-place l = nibbles (8 - 2 * l.place) l.left ++ drop (l.end - 2 * l.place) l.room ≡ nibbles 8 l.initial.left ++ drop l.end l.initial.room
