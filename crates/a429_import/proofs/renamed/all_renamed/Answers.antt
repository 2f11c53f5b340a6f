use Rattle.std.proofs.Common.{◌≡◌, ◌≤◌, ◌∙◌, ◌+◌, ◌++◌, ◌∷◌, [], List, ap, arith, length, map, sym, take}
use Rattle.std.specs.Prelude.{slice_get}
use Rattle.std.proofs.lemmas.List.{map-append, take_all}
use Rattle.a429_word.proofs.Lists.{read_is, take_next}
use Rattle.a429_import.specs.declared.rows.ImportRow.{ImportRow}
use Rattle.a429_import.specs.declared.rows.RowTexts.{RowTexts}
use Rattle.a429_import.specs.Renamed.{renamed}
use Rattle.a429_import.proofs.renamed.all_renamed.Goals as goal

pub loop-row-preserved : goal.loop-row-preserved
loop-row-preserved c =
    let rows : List ImportRow = c.args.known.now.rows.items in
    let row : ImportRow = c.row-item.result in
    let there = ap (λ (xs : List ImportRow). slice_get xs c.loop-row.row-index) (sym c.deref-row-items.ensures.value) ∙ read_is c.deref-row-items.result.now c.loop-row.row-index row c.loop-row-test.true c.row-item.is in
    let more : map (renamed rows) (take (c.loop-row.row-index + 1) rows) ≡ map (renamed rows) (take c.loop-row.row-index rows) ++ renamed rows row ∷ [] =
    ap (map (renamed rows)) (take_next rows c.loop-row.row-index row there) ∙ map-append (renamed rows) (take c.loop-row.row-index rows) (row ∷ []) in
    record {
      known = c.in_ok-push.ensures.known;
      rows = c.in_ok-push.ensures.rows ∙ ap (λ (texts : RowTexts). c.loop-row.renamed.rows.items ++ (record { texts = texts; numbers = row.numbers }) ∷ []) c.names_of.ensures
          ∙ ap (λ (rs : List ImportRow). rs ++ renamed rows row ∷ []) c.loop-row.invariant.rows ∙ sym more;
    }

pub returns-clause-rows : goal.returns-clause-rows
returns-clause-rows c =
    let rows : List ImportRow = c.args.known.now.rows.items in
    let all = ap length c.deref-row-items.ensures.value in
    let past : length rows ≤ c.loop-row.row-index = omega (arith, all, c.loop-row-test.false) in
    c.loop-row.invariant.rows ∙ ap (map (renamed rows)) (take_all c.loop-row.row-index rows past)
