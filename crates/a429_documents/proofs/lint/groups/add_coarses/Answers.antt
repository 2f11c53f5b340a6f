use Rattle.std.proofs.Common.{◌≡◌, ◌<◌, ◌++◌, ◌∙◌, ℕ, List, ap, arith, get_or, length, sym}
use Rattle.std.proofs.lemmas.Option.{get_or_from_slice_get}
use Rattle.a429_word.proofs.Lists.{read_is}
use Rattle.a429_text.specs.Fields.{Field}
use Rattle.a429_pack.specs.Demands.{demand_at}
use Rattle.a429_pack.specs.declared.demands.Demand.{Demand}
use Rattle.a429_documents.specs.Lint.{coarse_row, coarse_rows, max_of, output_name}
use Rattle.a429_documents.proofs.Ranges.{gathered_more}
use Rattle.a429_documents.proofs.lint.groups.add_coarses.Goals as goal

pub loop-output-preserved : goal.loop-output-preserved
loop-output-preserved c =
    let sources = c.args.sources.now in
    let g = c.args.group.now in
    let rows = c.args.rows.now in
    let demands : List Demand = c.args.demands.now in
    let o = c.loop-output.output in
    let d : Demand = c.index-demands-output.result in
    let below : o < length demands = omega (arith, c.loop-output-test.true, c.requires.each) in
    let read : demand_at demands o ≡ d = get_or_from_slice_get demands o d _ (read_is demands o d below c.index-demands-output.is) in
    let source : List ℕ = c.output_name-source.result.now in
    let max_us : ℕ = c.max_of.result in
    let e : Demand = get_or demands o d in
    let same : coarse_row c.as_str-name.result.now source g.rate max_us e.period ≡ coarse_rows sources g.name g.rate rows demands o =
    ap (λ (n : List ℕ). coarse_row n source g.rate max_us e.period) c.as_str-name.ensures
    ∙ ap (λ (n : List ℕ). coarse_row g.name n g.rate max_us e.period) c.output_name-source.ensures
    ∙ ap (λ (n : ℕ). coarse_row g.name (output_name sources rows o) g.rate n e.period) c.max_of.ensures
    ∙ ap (λ (d : Demand). coarse_row g.name (output_name sources rows o) g.rate (max_of rows o) d.period) (sym c.index-demands-output.is ∙ sym read) in
    gathered_more (coarse_rows sources g.name g.rate rows demands) c.args.found.now c.loop-output.found c.add_period.new.found o c.loop-output.invariant
    (c.add_period.ensures ∙ ap (λ (l : List (List Field)). c.loop-output.found ++ l) same)
