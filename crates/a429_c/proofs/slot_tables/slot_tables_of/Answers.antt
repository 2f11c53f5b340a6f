use Rattle.std.proofs.Common.{◌∙◌, ◌++◌, ◌∷◌, [], List, ap, sym, arith}
use Rattle.std.proofs.lemmas.List.{take_all}
use Rattle.a429_word.proofs.Lists.{take_next}
use Rattle.a429_slots.specs.Tables.{SlotTable, groups_of}
use Rattle.a429_c.proofs.slot_tables.slot_tables_of.Goals as goal

pub loop-group-preserved : goal.loop-group-preserved
loop-group-preserved c =
    let tables = groups_of c.args.plan.now in let g = c.loop-group.group in
    c.in_ok-push.ensures.items ∙ (ap (λ (ts : List SlotTable). ts ++ c.group.result.now ∷ []) c.loop-group.invariant ∙ sym (take_next tables g c.group.result.now c.group.ensures))

pub returns : goal.returns
returns c = c.loop-group.invariant ∙ take_all c.loop-group.group (groups_of c.args.plan.now) (omega arith)
