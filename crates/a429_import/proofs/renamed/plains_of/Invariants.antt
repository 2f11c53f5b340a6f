use Rattle.std.proofs.Common.{◌≡◌, ◌++◌, drop, map}
use Rattle.a429_import.specs.ImportTables.{firsts}
use Rattle.a429_import.specs.Renamed.{plain_of, plains_of, texts_of}
use Rattle.a429_import.proofs.renamed.plains_of.Given as goal

abbrev pub invariant-loop-place : goal.invariant-loop-place
invariant-loop-place l = texts_of l.plains.items ++ map (plain_of l.part) (drop l.place (firsts l.part l.known.rows.items)) ≡ plains_of l.part l.known.rows.items
