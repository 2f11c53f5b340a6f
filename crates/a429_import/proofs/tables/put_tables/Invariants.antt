use Rattle.std.proofs.Common.{◌≡◌, ◌++◌, ℕ, List, drop, map}
use Rattle.std.specs.List.{enumerate_from}
use Rattle.std.specs.Prelude.{filter, string_bytes}
use Rattle.toml.specs.Data.{Data}
use Rattle.a429_import.specs.ImportTables.{firsts}
use Rattle.a429_import.specs.KeptFields.{lines_kept}
use Rattle.a429_import.specs.PrintedTables.{IsWithTables, part_key}
use Rattle.a429_import.specs.TableTexts.{is_placed, piece_of, pieces, rows_before}
use Rattle.a429_import.proofs.tables.put_tables.Given as goal

abbrev pub invariant-loop-place : goal.invariant-loop-place
invariant-loop-place l =
    (done : List (List ℕ × Data)) × IsWithTables (string_bytes l.initial.shown) (string_bytes l.shown) (part_key l.part) done
    × (done ++ map (piece_of (lines_kept l.comments.kept.now) (rows_before l.comments.made_of) l.part l.known.rows.items) (filter (is_placed l.part) (drop l.place (enumerate_from 0 (firsts l.part l.known.rows.items))))
    ≡ pieces (lines_kept l.comments.kept.now) (rows_before l.comments.made_of) l.part l.known.rows.items)
