use Rattle.std.proofs.Common.{◌≡◌, [], drop}
use Rattle.a429_import.specs.ImportTables.{firsts}
use Rattle.a429_import.specs.Renamed.{names_after, texts_of}
use Rattle.a429_import.proofs.renamed.names_in.Given as goal

abbrev pub invariant-loop-place : goal.invariant-loop-place
invariant-loop-place l =
    names_after (texts_of l.plains.items) l.part (texts_of l.names.items) (drop l.place (firsts l.part l.known.rows.items)) ≡ names_after (texts_of l.plains.items) l.part [] (firsts l.part l.known.rows.items)
