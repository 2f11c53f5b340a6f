use Rattle.std.proofs.Common.{◌≡◌, ◌++◌, drop, map, string_bytes}
use Rattle.a429_import.specs.ImportMaps.{given_texts, keep_text}
use Rattle.a429_import.proofs.maps.keep_texts.Given as goal

abbrev pub invariant-loop-heading : goal.invariant-loop-heading
invariant-loop-heading l = map string_bytes l.texts.items ++ map keep_text (given_texts (drop l.heading-index l.headings)) ≡ map keep_text (given_texts l.headings)
