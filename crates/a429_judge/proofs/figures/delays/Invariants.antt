use Rattle.std.proofs.Common.{◌≡◌, ◌≤◌, ◌++◌, [], drop}
use Rattle.std.specs.Prelude.{flat_map}
use Rattle.std.specs.List.{position_or_len, range_with_len}
use Rattle.a429_judge.specs.Judging.{is_right}
use Rattle.a429_judge.specs.Figures.{delay_of}
use Rattle.a429_judge.proofs.figures.delays.Given as goal

abbrev pub invariant-loop-word : goal.invariant-loop-word
invariant-loop-word l = record {
  numbers : l.numbers ≡ [] ++ flat_map (delay_of l.facts l.accepted l.sends) (range_with_len 0 l.word);
  first : l.answer ≤ position_or_len (λ s. is_right l.facts s (drop l.word l.accepted)) l.sends;
}
