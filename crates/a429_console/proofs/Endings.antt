-- How a command ends, by the calls that end it.
use Rattle.std.proofs.Common.{◌≡◌, ◌≤◌, ◌<◌, Bool, ap, ◌∙◌, ◌++◌, [], ◌+◌, ◌-◌, ◌^◌, ℕ, List, append-nil, arith, sym, subst}
use Rattle.std.specs.Prelude.{Option, Result, Ok, Err, IfOk, OnOk, min}
use Rattle.std.specs.Io.KnownBytes.{Appends}
use Rattle.a429_console.specs.Outputs.{FailedCalls, HasFailedBy, FailureIsCounted, IsPut, NoneFailed}
use Rattle.a429_console.specs.declared.output.OutputFault.{OutputFault}

-- a call that failed was counted
pub failure_shows : (fault : OutputFault) (old new : FailedCalls) → FailureIsCounted fault old new → NoneFailed old new → ⊥
failure_shows fault old new counted none =
    let same : new.count ≡ old.count = none.1 in
    let more : new.count ≡ min (old.count + 1) (2 ^ 64 - 1) = counted.0 in
    let few : old.count < 2 ^ 64 - 1 = none.0 in
    omega (arith, same, more, few)

pub counted_once : (fault : OutputFault) (old new : FailedCalls) → FailureIsCounted fault old new → new.count ≤ old.count + 1
counted_once fault old new counted =
    let more : new.count ≡ min (old.count + 1) (2 ^ 64 - 1) = counted.0 in
    omega (arith, more)

pub none_counted_once : (old new : FailedCalls) → new ≡ old → new.count ≤ old.count + 1
none_counted_once old new same =
    let count : new.count ≡ old.count = ap (λ (calls : FailedCalls). calls.count) same in
    omega (arith, count)

-- no call failed if the count is the same
pub none_has_failed : (closed : Bool) (old new : FailedCalls) → new ≡ old → HasFailedBy closed old new → ⊥
none_has_failed closed old new same failed =
    let count : new.count ≡ old.count = ap (λ (calls : FailedCalls). calls.count) same in
    let more : old.count < new.count = failed.0 in
    omega (arith, count, more)
