use Rattle.std.proofs.Common.{◌≡◌, ◌≤◌, ◌++◌, drop}
use Rattle.std.specs.Prelude.{flat_map}
use Rattle.std.specs.List.{position_or_len, range_with_len}
use Rattle.a429_judge.specs.Judging.{is_right, word_findings}
use Rattle.a429_judge.proofs.findings.add_words.Given as goal

abbrev pub invariant-loop-word : goal.invariant-loop-word
invariant-loop-word l = record {
  found : l.found ≡ l.fn.found ++ flat_map (word_findings l.facts l.span l.accepted l.sends) (range_with_len 0 l.word);
  first : l.answer ≤ position_or_len (λ s. is_right l.facts s (drop l.word l.accepted)) l.sends;
}
