-- What is answered to arguments other than a request: help, and the text of a usage error (profile: status 0, 1 and 2).
use Rattle.std.specs.Prelude.{◌≡◌, ◌≢◌, [], ◌⊎◌, ℕ, Bool, List, Option, Result, IfOk, IsTrue}
use Rattle.clap.specs.declared.error.kind.ErrorKind.{ErrorKind}
use Rattle.clap.specs.declared.error.kind.ErrorKind.TheVariants.{DisplayHelp, DisplayVersion, OutOfMemory}
use Rattle.a429_console.specs.Outputs.{FailedCalls, HasFailed, IsMemoryReply, IsPut, OrNoMemory}
use Rattle.a429_console.specs.declared.output.OutputFault.{OutputFault}

-- a text was put, of which nothing is said
abbrev pub IsHelpReply : ℕ → List ℕ → Type 0
IsHelpReply status bytes = status ≡ 0

-- `err` took what was written to it, with status 2; or a call of it failed, with status 1
abbrev pub IsWarned : FailedCalls → FailedCalls → ℕ → Type 0
IsWarned old new status = ((status ≡ 2) × (new ≡ old)) ⊎ ((status ≡ 1) × HasFailed old new)

-- nothing was put, and the text of the usage error was written to `err`, or a call of that failed
abbrev pub IsUsageReply : FailedCalls → FailedCalls → ℕ → List ℕ → Type 0
IsUsageReply old new status bytes = (bytes ≡ []) × IsWarned old new status

-- what is put instead of an answer, by what the arguments are, and by the calls of `err` that failed before and after it
abbrev pub IsReplyOfKind : FailedCalls → FailedCalls → ErrorKind → ℕ → List ℕ → Type 0
IsReplyOfKind old new OutOfMemory = IsMemoryReply
IsReplyOfKind old new DisplayHelp = OrNoMemory IsHelpReply
IsReplyOfKind old new DisplayVersion = OrNoMemory IsHelpReply
IsReplyOfKind old new _ = OrNoMemory (IsUsageReply old new)

-- this is put instead of an answer, by the kind of the parser's error and by what the calls of `err` count
abbrev pub ExplainsKind : {X Y : Type 0} → (X → Option (List ℕ)) → (Y → FailedCalls) → ErrorKind → X → X → Y → Y → Result ℕ OutputFault → Type 0
ExplainsKind contents failures kind out out' err err' result = IfOk result (IsPut (IsReplyOfKind (failures err) (failures err') kind) (contents out) (contents out'))

-- the same of a usage error
abbrev pub TellsMistake : {X Y : Type 0} → (X → Option (List ℕ)) → (Y → FailedCalls) → X → X → Y → Y → Result ℕ OutputFault → Type 0
TellsMistake contents failures out out' err err' result = IfOk result (IsPut (OrNoMemory (IsUsageReply (failures err) (failures err'))) (contents out) (contents out'))

-- with status 1 all that was put was passed on, unless this happened
abbrev pub IsPassedOnUnless : Type 0 → Bool → Result ℕ OutputFault → Type 0
IsPassedOnUnless Failed flushed result = IfOk result (λ status. status ≡ 1 → IsTrue flushed ⊎ Failed)

-- a usage error could not be reported: a call of `err` failed
abbrev pub IsMistakeUntold : {Y : Type 0} → (Y → FailedCalls) → ErrorKind → Y → Y → Type 0
IsMistakeUntold failures kind old new = (kind ≢ OutOfMemory) × HasFailed (failures old) (failures new)
