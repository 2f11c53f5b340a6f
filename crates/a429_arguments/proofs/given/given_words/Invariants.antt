use Rattle.std.proofs.Common.{◌≡◌, ◌+◌, length, map, string_bytes}
use Rattle.a429_arguments.specs.GivenWords.{AreFrom}
use Rattle.a429_arguments.proofs.given.given_words.Given as goal

abbrev pub invariant-loop-place : goal.invariant-loop-place
invariant-loop-place g l = record {
  place_is : l.place ≡ length l.words.items + 1;
  given : AreFrom (g.A.Arguments.gives l.arguments) 1 (map string_bytes l.words.items);
}
