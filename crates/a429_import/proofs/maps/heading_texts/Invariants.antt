use Rattle.std.proofs.Common.{◌≡◌, ◌++◌, drop, map, string_bytes}
use Rattle.a429_import.specs.ImportMaps.{given_texts}
use Rattle.a429_import.proofs.maps.heading_texts.Given as goal

abbrev pub invariant-loop-text : goal.invariant-loop-text
invariant-loop-text l = given_texts l.all.items ++ map string_bytes (drop l.text-index l.further) ≡ given_texts l.texts ++ map string_bytes l.further
