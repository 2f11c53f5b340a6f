-- How a call ends: what happened to `out` and `err`, and the status (profile: output).
use Rattle.std.specs.Prelude.{◌≡◌, ◌≢◌, ◌≤◌, ◌+◌, [], ◌⊎◌, ℕ, List, Bool, true, false, Option, IsTrue, Result, IfOk, OnErr, OnOk}
use Rattle.std.specs.Io.KnownBytes.{Appends}
use Rattle.clap.specs.Words.{Kinds}
use Rattle.a429_console.specs.Outputs.{CountsFault, FailedCalls, HasFailed, HasFailedBy, IsMemoryReply, IsPut, NoneFailed, OrNoMemory, failed_line}
use Rattle.a429_console.specs.declared.output.OutputFault.{OutputFault}
use Rattle.a429_arguments.specs.Usage.{AreHelp, AreMistakes}
use Rattle.a429_console.specs.UsageReplies.{IsHelpReply, IsUsageReply}

-- an output before a call and after it, and what its type says of it: its bytes, its calls that failed, and whether it passed on all that it took
pub record Writing (X : Type 0) : Type 0 where
  pub contents : X → Option (List ℕ)
  pub failures : X → FailedCalls
  pub is_flushed : X → Bool
  pub old : X
  pub new : X

-- the same, as clauses write it
abbrev pub writing : {X : Type 0} → (X → Option (List ℕ)) → (X → FailedCalls) → (X → Bool) → X → X → Writing X
writing contents failures is_flushed old new = record { contents = contents; failures = failures; is_flushed = is_flushed; old = old; new = new }

-- no call of it failed
abbrev pub IsWhole : {X : Type 0} → Writing X → Type 0
IsWhole w = NoneFailed (w.failures w.old) (w.failures w.new)

-- a call of it failed
abbrev pub IsFailed : {X : Type 0} → Writing X → Type 0
IsFailed w = HasFailed (w.failures w.old) (w.failures w.new)

-- it is left as it was
abbrev pub IsLeft : {X : Type 0} → Writing X → Type 0
IsLeft w = w.new ≡ w.old

-- all that it took was passed on
abbrev pub IsPassedOn : {X : Type 0} → Writing X → Type 0
IsPassedOn w = IsTrue (w.is_flushed w.new)

-- after a call of it that failed there was no further one: it would fail too
abbrev pub FailsOnce : {X : Type 0} → Writing X → Type 0
FailsOnce w = (w.failures w.new).count ≤ (w.failures w.old).count + 1

-- bytes were put to it, which Says allows with the status
abbrev pub IsPutTo : {X : Type 0} → (ℕ → List ℕ → Type 0) → Writing X → ℕ → Type 0
IsPutTo Says w status = IsPut Says (w.contents w.old) (w.contents w.new) status

-- a usage error was reported, and nothing was put
abbrev pub IsMistakeTold : {X Y : Type 0} → Writing X → Writing Y → ℕ → Type 0
IsMistakeTold out err status = IsPutTo (IsUsageReply (err.failures err.old) (err.failures err.new)) out status

-- how a failure of the output is reported on `err`
pub record TellsFailure {X Y : Type 0} (out : Writing X) (err : Writing Y) : Type 0 where
  -- one line says it
  pub announced : HasFailedBy false (out.failures out.old) (out.failures out.new) → IsWhole err → Appends (err.contents err.old) (err.contents err.new) failed_line
  -- nothing is written if the reader of the output has closed it
  pub hushed : HasFailedBy true (out.failures out.old) (out.failures out.new) → IsLeft err

-- an allocation failed before anything was put
pub record IsMemoryRefused {X Y : Type 0} (out : Writing X) (err : Writing Y) (status : ℕ) : Type 0 where
  -- the status is 1
  pub status_is : status ≡ 1
  -- one line says it
  pub put : IsWhole out → IsPutTo IsMemoryReply out status
  -- the line was passed on
  pub told : IsWhole out → IsPassedOn out
  -- a failure of the output is reported on `err`
  pub failure : TellsFailure out err

-- how a command ends on arguments of one of these kinds. Without a kind the arguments ask for something.
pub record EndsBy {X Y : Type 0} (kinds : Kinds) (out : Writing X) (err : Writing Y) (status : ℕ) : Type 0 where
  -- the status is 0, 1 or 2
  pub few : status ≤ 2
  -- a call for help gets a text, with status 0, unless an allocation fails
  pub helped : AreHelp kinds → IsWhole out → IsPutTo (OrNoMemory IsHelpReply) out status
  -- after a usage error nothing is put, with status 2, or 1 if a call of `err` failed, unless an allocation fails
  pub mistaken : AreMistakes kinds → IsWhole out → IsPutTo (OrNoMemory (IsUsageReply (err.failures err.old) (err.failures err.new))) out status
  -- after a usage error the status is not 0
  pub usage : AreMistakes kinds → status ≢ 0
  -- if a call of the output failed, the status is 1
  pub failed : (status ≡ 1) ⊎ (out.failures out.new ≡ out.failures out.old)
  -- so it is of `err`, unless the arguments ask for a command: a hint that cannot be written changes no status
  pub failed_told : kinds ≢ [] → (status ≡ 1) ⊎ (err.failures err.new ≡ err.failures err.old)
  -- at most one call of the output failed
  pub once : FailsOnce out
  -- at most one call of `err` failed
  pub once_told : FailsOnce err
  -- a failure of the output is reported on `err`
  pub failure : TellsFailure out err
  -- with status 0 nothing is written to `err`, unless the arguments ask for a command: see its clause `quiet`
  pub quiet : kinds ≢ [] → status ≡ 0 → IsLeft err
  -- with status 2 nothing is put, unless the arguments ask for a command
  pub silent : kinds ≢ [] → status ≡ 2 → IsLeft out
  -- and the text of the usage error was passed on
  pub warned : kinds ≢ [] → status ≡ 2 → IsPassedOn err
  -- if the arguments ask for a command, all that was put was passed on, unless a call of the output failed
  pub passed : kinds ≡ [] → IsWhole out → IsPassedOn out
  -- with status 0 all that was put was passed on
  pub flushed : status ≡ 0 → IsPassedOn out
  -- with status 1 a refusal was passed on, unless a call failed: of the output, or of `err`, which was to get the text of a usage error
  pub told : status ≡ 1 → IsWhole out → IsPassedOn out ⊎ ((kinds ≢ []) × IsFailed err)

-- the same of a call that stops at a failure of the output, which is reported later
pub record EndsOrFails {X Y : Type 0} (kinds : Kinds) (out : Writing X) (err : Writing Y) (result : Result ℕ OutputFault) : Type 0 where
  pub few : IfOk result (λ status. status ≤ 2)
  pub helped : AreHelp kinds → IfOk result (IsPutTo (OrNoMemory IsHelpReply) out)
  pub mistaken : AreMistakes kinds → IfOk result (IsPutTo (OrNoMemory (IsUsageReply (err.failures err.old) (err.failures err.new))) out)
  pub usage : AreMistakes kinds → IfOk result (λ status. status ≢ 0)
  pub failed_told : kinds ≢ [] → IfOk result (λ status. (status ≡ 1) ⊎ (err.failures err.new ≡ err.failures err.old))
  pub faults : CountsFault result (out.failures out.old) (out.failures out.new)
  pub once_told : FailsOnce err
  pub quiet : kinds ≢ [] → IfOk result (λ status. status ≡ 0 → IsLeft err)
  pub left : OnErr result (IsLeft err)
  pub silent : kinds ≢ [] → IfOk result (λ status. status ≡ 2 → IsLeft out)
  pub warned : kinds ≢ [] → IfOk result (λ status. status ≡ 2 → IsPassedOn err)
  pub passed : kinds ≡ [] → OnOk result (IsPassedOn out)
  pub flushed : IfOk result (λ status. status ≡ 0 → IsPassedOn out)
  pub told : IfOk result (λ status. status ≡ 1 → IsPassedOn out ⊎ ((kinds ≢ []) × IsFailed err))
