use Rattle.std.proofs.Common.{◌≡◌, drop, false}
use Rattle.a429_arguments.specs.Texts.{texts_of}
use Rattle.a429_arguments.specs.Tolerances.{is_general_again}
use Rattle.a429_arguments.proofs.tolerances.is_general_twice.Given as goal

abbrev pub invariant-loop-text : goal.invariant-loop-text
invariant-loop-text l = is_general_again l.seen (texts_of (drop l.text-index l.texts)) ≡ is_general_again false (texts_of l.texts)
