use Rattle.a429_pack.proofs.Widenings.{least_saving, none_saves}
use Rattle.a429_pack.proofs.widening.widening_saves.Goals as goal

pub returns-then-cells_freed_by_all-needed-clause-none : goal.returns-then-cells_freed_by_all-needed-clause-none
returns-then-cells_freed_by_all-needed-clause-none c = λ _.
    none_saves _ _ _ _ _ c.greatest_of-frame.ensures c.excess-needed.ensures.value c.cells_freed_by_all.ensures.value c.if-cells_freed_by_all-needed.true

pub returns-clause-saves : goal.returns-clause-saves
returns-clause-saves c = λ _. (least_saving _ _ _ _ _ _ c.greatest_of-frame.ensures c.requires.count c.requires.more c.excess-needed.ensures.value c.take.ensures).saves

pub returns-clause-least : goal.returns-clause-least
returns-clause-least c = λ _. least_saving _ _ _ _ _ _ c.greatest_of-frame.ensures c.requires.count c.requires.more c.excess-needed.ensures.value c.take.ensures
