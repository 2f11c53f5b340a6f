use Rattle.std.proofs.Common.{◌≡◌, ◌^◌, ◌++◌, ◌∙◌, ℕ, List, ap}
use Rattle.a429_text.specs.Fields.{Field}
use Rattle.a429_pack.specs.Demands.{exponents_of, greatest}
use Rattle.a429_documents.specs.Lint.{crowded_rows}
use Rattle.a429_documents.proofs.Findings.{crowded_is}
use Rattle.a429_documents.proofs.Ranges.{gathered_more}
use Rattle.a429_documents.proofs.lint.groups.add_buses.Goals as goal

pub loop-bus-preserved : goal.loop-bus-preserved
loop-bus-preserved c =
    let group : List ℕ = c.args.group.now in
    let demands = c.args.demands.now in
    let framed : c.from-frame.result ≡ 2 ^ greatest (exponents_of demands) = c.from-frame.ensures ∙ c.slots.ensures.value ∙ ap (λ (n : ℕ). 2 ^ n) c.frame_of-period.ensures in
    let same = crowded_is group demands c.loop-bus.bus c.from-frame.result c.filled_from.result c.saturating_sub-left.result c.from.result c.from-cells.result framed
    (c.from-cells.ensures ∙ c.cells_of.ensures) c.from.ensures c.saturating_sub-left.ensures c.filled_from.ensures.value in
    gathered_more (crowded_rows group demands) c.args.found.now c.loop-bus.found c.add_crowded.new.found c.loop-bus.bus c.loop-bus.invariant
    (c.add_crowded.ensures ∙ ap (λ (l : List (List Field)). c.loop-bus.found ++ l) same)
