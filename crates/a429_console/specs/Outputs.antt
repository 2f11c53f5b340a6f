-- What is put out by a command, and how it ends (profile: output).
use Rattle.std.specs.Prelude.{◌≡◌, ◌<◌, ◌+◌, ◌-◌, ◌^◌, ◌++◌, ◌∷◌, [], ◌⊎◌, ℕ, List, Bool, true, false, Option, Result, MatchResult, codes, min}
use Rattle.a429_console.specs.declared.output.OutputFault.{OutputFault}
use Rattle.a429_console.specs.declared.output.OutputFault.TheVariants as fault
use Rattle.std.specs.Io.KnownBytes.{Appends, append_known}
use Rattle.std.specs.declared.io.ErrorKind.{ErrorKind}
use Rattle.std.specs.declared.io.ErrorKind.TheVariants.{BrokenPipe}

-- what is known of the calls of an output that failed: how many, as far as 64 bits count, and whether the last found that the reader has closed it
pub record FailedCalls : Type 0 where
  pub count : ℕ
  pub is_closed : Bool

abbrev pub calls_of : ℕ → Bool → FailedCalls
calls_of count is_closed = record { count = count; is_closed = is_closed }

-- whether a fault is that the reader has closed the output
abbrev pub is_closing : OutputFault → Bool
is_closing fault.Closed = true
is_closing fault.Failed = false

-- the fault of a writer whose error has this kind: its reader has closed it if the kind is a broken pipe, and only then
abbrev pub IsFaultOfKind : ErrorKind → OutputFault → Type 0
IsFaultOfKind kind answer = (kind ≡ BrokenPipe → answer ≡ fault.Closed) × ((kind ≡ BrokenPipe → ⊥) → answer ≡ fault.Failed)

-- a call failed so, and is counted; at the last value of 64 bits the count stays
abbrev pub FailureIsCounted : OutputFault → FailedCalls → FailedCalls → Type 0
FailureIsCounted fault old new = (new.count ≡ min (old.count + 1) (2 ^ 64 - 1)) × (new.is_closed ≡ is_closing fault)

-- a call that fails is counted, and no other
abbrev pub CountsFault : {X : Type 0} → Result X OutputFault → FailedCalls → FailedCalls → Type 0
CountsFault result old new = MatchResult result (λ _. new ≡ old) (λ fault. FailureIsCounted fault old new)

-- no call failed: the count is the same, and could still grow
abbrev pub NoneFailed : FailedCalls → FailedCalls → Type 0
NoneFailed old new = (old.count < 2 ^ 64 - 1) × (new.count ≡ old.count)

-- a call failed
abbrev pub HasFailed : FailedCalls → FailedCalls → Type 0
HasFailed old new = (fault : OutputFault) × FailureIsCounted fault old new

-- a call failed, which found that the reader has closed the output, or another cause
abbrev pub HasFailedBy : Bool → FailedCalls → FailedCalls → Type 0
HasFailedBy closed old new = (old.count < new.count) × (new.is_closed ≡ closed)

-- the line on standard error after an output failed
abbrev pub failed_line : List ℕ
failed_line = codes "a429: standard output failed" ++ 10 ∷ []

-- bytes were put that Says allows with an x, from what an output had to what it has
abbrev pub IsPut : {X : Type 0} → (X → List ℕ → Type 0) → Option (List ℕ) → Option (List ℕ) → X → Type 0
IsPut Says old new x = (bytes : List ℕ) × Says x bytes × Appends old new bytes

-- an output and the bytes that are yet to be put out got these more, together
abbrev pub AppendsPending : Option (List ℕ) → List ℕ → Option (List ℕ) → List ℕ → List ℕ → Type 0
AppendsPending old kept new left bytes = Appends (append_known old kept) (append_known new left) bytes

-- the line of a failed allocation, without its line feed
abbrev pub memory_refused : List ℕ
memory_refused = codes "refused memory"

-- an allocation failed before anything was put
abbrev pub IsMemoryReply : ℕ → List ℕ → Type 0
IsMemoryReply status bytes = (status ≡ 1) × (bytes ≡ memory_refused ++ 10 ∷ [])

-- what Says allows, or that an allocation failed before anything was put
abbrev pub OrNoMemory : (ℕ → List ℕ → Type 0) → ℕ → List ℕ → Type 0
OrNoMemory Says status bytes = Says status bytes ⊎ IsMemoryReply status bytes

-- what ends the lines of a command: nothing, or the line `refused memory` if memory did not suffice for all of them
abbrev pub ending : Bool → List ℕ
ending true = []
ending false = memory_refused ++ 10 ∷ []

-- whether memory sufficed, as a status
abbrev pub status_of : Bool → ℕ
status_of true = 0
status_of false = 1
