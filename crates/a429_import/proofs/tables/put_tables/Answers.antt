use Rattle.std.proofs.Common.{◌≤◌, ◌++◌, ◌∷◌, [], ℕ, List, Option, arith, filter, length, map, refl, string_bytes, subst}
use Rattle.std.specs.List.{enumerate_from}
use Rattle.std.proofs.lemmas.List.FromFn.{length-enumerate_from}
use Rattle.toml.specs.Data.{Data}
use Rattle.a429_import.specs.declared.rows.ImportRow.{ImportRow}
use Rattle.a429_import.specs.ImportTables.{firsts}
use Rattle.a429_import.specs.KeptFields.{lines_kept}
use Rattle.a429_import.specs.IndexedRows.{named_of}
use Rattle.a429_import.specs.PrintedTables.{IsWithTables, part_key}
use Rattle.a429_import.specs.TableTexts.{is_placed, piece_of, pieces, rows_before}
use Rattle.a429_import.proofs.ChosenNames.{firsts_count}
use Rattle.a429_import.proofs.ImportTrees.{picked_all, picked_more}
use Rattle.a429_import.proofs.PrintedTables.{numbered_at, with_more, with_none}
use Rattle.a429_import.proofs.Knowing.{knows_part}
use Rattle.a429_import.proofs.tables.put_tables.Goals as goal

pub loop-place-init : goal.loop-place-init
loop-place-init c = ([], with_none (part_key c.args.part) (string_bytes c.args.shown.now), refl)

pub loop-place-preserved : goal.loop-place-preserved
loop-place-preserved c =
    let part = c.args.part in
    let rows : List ImportRow = c.args.known.now.rows.items in
    let row : ImportRow = c.first_row-row.result.now in
    let place : ℕ = c.loop-place.place in
    let (done, has, left) = c.loop-place.invariant in
    let kept : List ℕ → List ℕ = lines_kept c.args.comments.kept.now in
    let before : Option (List ImportRow) = rows_before c.args.comments.made_of in
    let piece : ℕ × ImportRow → List ℕ × Data = piece_of kept before part rows in
    let more : List (List ℕ × Data) = map piece (filter (is_placed part) ((place, row) ∷ [])) in (
      done ++ more,
      with_more (part_key c.args.part) done more (string_bytes c.args.shown.now) (string_bytes c.loop-place.shown) (string_bytes c.put_table.new.shown) has
          (subst (λ (rs : List ImportRow). IsWithTables (string_bytes c.loop-place.shown) (string_bytes c.put_table.new.shown) (part_key c.args.part) (map (piece_of kept before part rs) (filter (is_placed part) ((place, row) ∷ [])))) c.deref.ensures.value c.in_ok-put_table.ensures),
      picked_more (is_placed part) piece (enumerate_from 0 (firsts part rows)) place (place, row) done (done ++ more) (pieces kept before part rows) (numbered_at (firsts part rows) place row c.first_row-row.ensures) left refl,
    )

pub returns : goal.returns
returns c =
    let part = c.args.part in
    let known = c.args.known.now in
    let rows : List ImportRow = known.rows.items in
    let place : ℕ = c.loop-place.place in
    let (done, has, left) = c.loop-place.invariant in
    let kept : List ℕ → List ℕ = lines_kept c.args.comments.kept.now in
    let before : Option (List ImportRow) = rows_before c.args.comments.made_of in
    let all : length (enumerate_from 0 (firsts part rows)) ≤ place =
    let n = length-enumerate_from 0 (firsts part rows) in let m = firsts_count part (named_of part known) rows (knows_part part known c.requires.known) in omega (arith, n, m, c.count-place-end.ensures, c.loop-place-test.false) in
    subst (IsWithTables (string_bytes c.args.shown.now) (string_bytes c.loop-place.shown) (part_key c.args.part))
    (picked_all (is_placed part) (piece_of kept before part rows) (enumerate_from 0 (firsts part rows)) place done (pieces kept before part rows) all left) has
