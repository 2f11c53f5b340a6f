use Rattle.std.proofs.Common.{◌∙◌, ap, length, sym}
use Rattle.std.specs.List.{range_with_len}
use Rattle.std.proofs.lemmas.List.FromFn.{length-range_with_len}
use Rattle.std.proofs.lemmas.List.Sorted.{length_permutation}
use Rattle.a429_slots.specs.Columns.{table_in}
use Rattle.a429_slots.specs.Tables.{SlotTable}
use Rattle.a429_slots.proofs.Columns.{count_kept, length-table}
use Rattle.a429_slots.proofs.group_plan.GroupPlan.outputs.Goals as goal

pub returns-clause-value : goal.returns-clause-value
returns-clause-value g c = c.len.ensures.value ∙ count_kept c.self.inside c.args.self.now c.self.view_is

pub returns-clause-ordered : goal.returns-clause-ordered
returns-clause-ordered g c =
    let t = table_in c.self.inside in
    c.len.ensures.value ∙ sym (length-table c.self.inside)
    ∙ sym (length_permutation (range_with_len 0 (length t.outputs)) t.order c.self.invariant.table.order ∙ length-range_with_len 0 (length t.outputs))
    ∙ ap (λ (u : SlotTable). length u.order) c.self.view_is
