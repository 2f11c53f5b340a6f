-- How a command that reads files answers (vocabulary of contracts).
use Rattle.std.specs.Prelude.{◌≡◌, ℕ, List, Bool, Option, Result, IfOk, IsTrue}
use Rattle.a429_console.specs.Outputs.{FailedCalls, IsPut, NoneFailed}
use Rattle.a429_console.specs.Readings.{HasRead, HasReadFrom}
use Rattle.a429_arguments.specs.RequestRows.{AsksFor}
use Rattle.a429_arguments.specs.Requests.{AskedBytes}
use Rattle.a429_arguments.specs.Usage.{is_run}
use Rattle.a429_console.specs.declared.files.FileFault.{FileFault}
use Rattle.a429_console.specs.declared.output.OutputFault.{OutputFault}

-- the status and the bytes put are as Says has it for all files that give what the reader answered in this call, unless the output failed
abbrev pub HasReplied : {S X : Type 0} → (S → List ℕ → Result (List ℕ) FileFault → S → Type 0) → (X → Option (List ℕ)) → ((List ℕ → Option (List ℕ)) → ℕ → List ℕ → Type 0) → S → S → X → X → Result ℕ OutputFault → Type 0
HasReplied Answers contents Says files files' out out' result = HasRead Answers (λ file. IfOk result (IsPut (Says file) (contents out) (contents out'))) files files'

-- of each request of this call for which arguments ask, `command_live` or the other: the status and the bytes put are as Says has it, if the files of the
-- reader are known and no call of the output failed
abbrev pub RepliesToWords : {S X : Type 0} → Bool → ((List ℕ → Option (List ℕ)) → AskedBytes → ℕ → List ℕ → Type 0) → (S → Bool) → (S → List ℕ → Option (List ℕ)) → (X → Option (List ℕ)) → (X → FailedCalls) → List (List ℕ) → S → X → X → ℕ → Type 0
RepliesToWords live Says tells file contents failures words files out out' status =
    (r : AskedBytes) → is_run r.verb ≡ live → AsksFor words r → IsTrue (tells files) → NoneFailed (failures out) (failures out')
    → IsPut (Says (file files) r) (contents out) (contents out') status

-- the same of a reader of any files, by files that give what it answered in this call
abbrev pub RepliesByReader : {S X : Type 0} → Bool → ((List ℕ → Option (List ℕ)) → AskedBytes → ℕ → List ℕ → Type 0) → (S → List ℕ → Result (List ℕ) FileFault → S → Type 0) → (X → Option (List ℕ)) → (X → FailedCalls) → List (List ℕ) → S → X → X → ℕ → Type 0
RepliesByReader live Says Answers contents failures words files out out' status =
    (r : AskedBytes) → is_run r.verb ≡ live → AsksFor words r → NoneFailed (failures out) (failures out')
    → HasReadFrom Answers (λ file. IsPut (Says file r) (contents out) (contents out') status) files
