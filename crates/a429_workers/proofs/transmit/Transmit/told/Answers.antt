use Rattle.std.proofs.Common.{sym, subst}
use Rattle.a429_word.proofs.Lists.{all_beginning}
use Rattle.a429_slots.specs.Tables.{PlanTable}
use mathlib.Core.List.{IsPrefix}
use Rattle.std.specs.Prelude.{List}
use Rattle.a429_workers.specs.Transmitting.{Transmitting, IsKnownPlan, StandsForCalls}
use Rattle.a429_workers.proofs.Changing.{told_more}
use Rattle.a429_workers.proofs.transmit.Transmit.told.Goals as goal

pub returns-clause-stands : goal.returns-clause-stands
returns-clause-stands c = λ b made S known.
    let inside = c.self.inside in
    let v : Transmitting = record { transmitter = inside.transmitter; watcher = inside.watcher; frame = inside.sender; number = inside.number; sends = inside.sends } in
    let w = c.tell.new.watcher in
    let grows : IsPrefix v.watcher.list w.list = subst (λ (ps : List PlanTable). IsPrefix v.watcher.list ps) (sym c.tell.ensures.told) c.tell.ensures.beginning in
    let M = subst (StandsForCalls b made) (sym c.self.view_is) S (all_beginning (IsKnownPlan v.transmitter.at.station) v.watcher.list w.list grows known) in
    told_more b made v w grows c.tell.ensures.opened M
