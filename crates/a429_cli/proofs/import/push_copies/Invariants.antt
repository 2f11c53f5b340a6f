use Rattle.std.proofs.Common.{◌≡◌, ◌++◌, map, string_bytes, take}
use Rattle.a429_import.specs.ImportMaps.{given_texts}
use Rattle.a429_cli.proofs.import.push_copies.Given as goal

abbrev pub invariant-loop-text : goal.invariant-loop-text
invariant-loop-text l = map string_bytes l.all.items ≡ map string_bytes l.initial.all.items ++ given_texts (take l.text-index l.texts)
