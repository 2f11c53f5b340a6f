-- What is lent to a scope of threads, and given back (vocabulary of contracts).
use Rattle.std.specs.Prelude.{◌≡◌, Bool, IfOk, is_ok}
use Rattle.a429_station.specs.declared.threads.Lent.{Lent}

-- the same is lent as before
abbrev pub LendsTheSame : {S M X Y : Type 0} → Lent S M X Y → Lent S M X Y → Type 0
LendsTheSame old new =
    (new.to.ghost_name ≡ old.to.ghost_name) × (new.meanwhile.ghost_name ≡ old.meanwhile.ghost_name) × (new.ended.ghost_name ≡ old.ended.ghost_name)

-- if the threads ended, the work of the calling thread was done in the way that it states
abbrev pub IsDoneMeanwhile : {S M X Y : Type 0} → (M → S → S → M → Bool → Type 0) → Lent S M X Y → Lent S M X Y → Type 0
IsDoneMeanwhile did old new = IfOk new.ended.now (λ done. did old.meanwhile.now old.to.now new.to.now new.meanwhile.now (is_ok done.answer))
