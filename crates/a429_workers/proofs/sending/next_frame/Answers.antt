use Rattle.std.proofs.Common.{◌≡◌, ◌<◌, ◌∷◌, [], Err, refl, subst, arith}
use Rattle.std.specs.Prelude.{◌↔◌, ℕ, Result, IsErrOf}
use Rattle.a429_slots.specs.Tables.{cells_of}
use Rattle.a429_workers.specs.Transmitting.{Transmitting, GoesOnByCalls, IsSameGroup, change_call}
use Rattle.a429_workers.specs.Sends.{IsTurn}
use Rattle.a429_workers.specs.declared.cells.ChangeFault.{ChangeFault}
use Rattle.a429_workers.specs.declared.cells.ChangeFault.TheVariants.{MidFrame, SlotsSpent}
use Rattle.a429_workers.specs.declared.sending.SendFault.TheVariants.{Change}
use Rattle.a429_workers.proofs.sending.next_frame.Goals as goal

-- only a lack of slots prevents the next frame after one that is over
not_taken : (old new : Transmitting) (fault : ChangeFault) → old.frame.sent ≡ cells_of old.frame.table → (IsErrOf {T = ℕ} (Err fault) MidFrame ↔ (old.frame.sent < cells_of old.frame.table))
    → GoesOnByCalls old (change_call (Err fault) new.watcher.list ∷ []) new → IsSameGroup old new → IsTurn old new (Err Change)
not_taken old new MidFrame over mid stands same = absurd (let low = mid.0 refl in omega (arith, low, over))
not_taken old new SlotsSpent over mid stands same = (new.watcher.list, stands, same)

pub returns-in-Err-clause-turn : goal.returns-in-Err-clause-turn
returns-in-Err-clause-turn c =
    not_taken c.args.transmit.now c.change.new.self c.in-Err.field-0 c.requires.over
    (subst (λ (r : Result ℕ ChangeFault). IsErrOf r MidFrame ↔ (c.args.transmit.now.frame.sent < cells_of c.args.transmit.now.frame.table)) c.in-Err.is c.change.ensures.mid)
    (subst (λ (r : Result ℕ ChangeFault). GoesOnByCalls c.args.transmit.now (change_call r c.change.new.self.watcher.list ∷ []) c.change.new.self) c.in-Err.is c.change.ensures.stands)
    c.change.ensures.same
