use Rattle.std.proofs.Common.{◌++◌, ◌∷◌, ◌∙◌, [], ℕ, List, ap, get_or}
use Rattle.std.specs.Prelude.{None}
use Rattle.std.proofs.lemmas.Option.{slice_get-get_or}
use Rattle.a429_equipment.specs.declared.rows.OutputRow.{OutputRow}
use Rattle.a429_documents.specs.Margins.{window_of}
use Rattle.a429_documents.proofs.Margins.{mapped_more}
use Rattle.a429_documents.proofs.margin.windows.Goals as goal

pub loop-row-preserved : goal.loop-row-preserved
loop-row-preserved c =
    let rows : List OutputRow = c.args.rows.now in
    let k : ℕ = c.loop-row.row-index in
    let none : OutputRow = record { source = 0; min_us = 0; max_us = 0; hold = None } in
    mapped_more (window_of c.args.rate) rows k (get_or rows k none) c.loop-row.windows c.push.new.self (slice_get-get_or rows k none c.loop-row-test.true) c.loop-row.invariant
    (c.push.ensures ∙ ap (λ (w : ℕ). c.loop-row.windows ++ w ∷ []) c.window.ensures)
