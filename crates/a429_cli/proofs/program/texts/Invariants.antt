use Rattle.std.proofs.Common.{◌≡◌, ◌++◌, drop, map, string_bytes}
use Rattle.a429_arguments.specs.Texts.{texts_of}
use Rattle.a429_cli.proofs.program.texts.Given as goal

abbrev pub invariant-loop-word : goal.invariant-loop-word
invariant-loop-word l = texts_of l.texts.items ++ map string_bytes (drop l.word-index l.words) ≡ map string_bytes l.words
