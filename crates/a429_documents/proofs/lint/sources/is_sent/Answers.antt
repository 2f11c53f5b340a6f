use Rattle.std.proofs.Common.{◌≡◌, ◌∙◌, ap, ap₂, sym, Bool, ℕ, [], List}
use Rattle.std.specs.Prelude.{◌||◌}
use Rattle.std.proofs.lemmas.Option.{get_or_from_slice_get}
use Rattle.a429_equipment.specs.TableRecord.{outputs_in}
use Rattle.a429_equipment.specs.declared.rows.OutputRow.{OutputRow}
use Rattle.a429_documents.specs.Lint.{has_output_of}
use Rattle.a429_documents.proofs.Findings.{any_more}
use Rattle.a429_documents.proofs.lint.sources.is_sent.Goals as goal

pub loop-group-preserved : goal.loop-group-preserved
loop-group-preserved c =
    let e = c.args.equipment.now in
    let i = c.loop-group.group in
    let here : c.has_output_of-sent.result ≡ has_output_of (outputs_in e i) c.args.source =
    c.has_output_of-sent.ensures ∙ ap (λ (os : List OutputRow). has_output_of os c.args.source) (sym (get_or_from_slice_get e.outputs i c.outputs.result.now [] c.outputs.ensures.rows)) in
    ap₂ (λ (a b : Bool). a || b) c.loop-group.invariant here ∙ sym (any_more (λ (group : ℕ). has_output_of (outputs_in e group) c.args.source) i)
