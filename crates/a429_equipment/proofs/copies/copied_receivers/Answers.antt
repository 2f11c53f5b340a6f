use Rattle.std.proofs.Common.{◌∙◌, ◌∷◌, [], ◌++◌, List, ap, sym, take}
use Rattle.std.proofs.lemmas.List.{take_all, take_more}
use Rattle.a429_equipment.specs.declared.rows.ReceiverRow.{ReceiverRow}
use Rattle.a429_equipment.proofs.copies.copied_receivers.Goals as goal

pub loop-row-init : goal.loop-row-init
loop-row-init c = c.in_ok-copies.ensures.items

pub loop-row-preserved : goal.loop-row-preserved
loop-row-preserved c =
    c.in_ok-push.ensures.items ∙ ap (λ (rows : List ReceiverRow). rows ++ c.copied.result ∷ []) c.loop-row.invariant
    ∙ ap (λ (row : ReceiverRow). take c.loop-row.row-index c.args.rows.now ++ row ∷ []) (c.copied.ensures ∙ c.row-item.is)
    ∙ sym (take_more c.args.rows.now c.loop-row.row-index c.row-item.result c.loop-row-test.true)

pub returns : goal.returns
returns c = c.loop-row.invariant ∙ take_all c.loop-row.row-index c.args.rows.now c.loop-row-test.false
