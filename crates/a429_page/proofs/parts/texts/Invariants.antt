use Rattle.std.proofs.Common.{◌≡◌, ◌++◌, drop}
use Rattle.a429_arguments.specs.Texts.{texts_of}
use Rattle.a429_page.proofs.parts.texts.Given as goal

abbrev pub invariant-loop-word : goal.invariant-loop-word
invariant-loop-word l = texts_of l.texts.items ++ texts_of (drop l.word-index l.words) ≡ texts_of l.words
