-- What a call makes of its arguments before it does what they ask for: `command`, or `command_live`
-- (profile: docs/FORMATS.md, Help, usage errors and outputs that fail).
use Rattle.std.specs.Prelude.{◌≡◌, [], ℕ, List, Bool, if◌then◌else◌}
use Rattle.clap.specs.Words.{Kinds}
use Rattle.a429_console.specs.Ends.{EndsBy, IsLeft, IsPutTo, IsWhole, Writing}
use Rattle.a429_console.specs.Outputs.{IsMemoryReply}
use Rattle.a429_arguments.specs.RequestRows.{AsksFor}
use Rattle.a429_arguments.specs.Requests.{AskedBytes, asked_of}
use Rattle.a429_arguments.specs.Usage.{is_run, kinds_of_words, live_kinds_of_words}
use Rattle.a429_arguments.specs.declared.requests.Asked.{Asked}

-- what may be answered to arguments instead of a request, by `command_live` or by `command`
abbrev pub kinds_here : Bool → List (List ℕ) → Kinds
kinds_here live words = if live then live_kinds_of_words words else kinds_of_words words

-- an allocation failed: the status is 1, and one line says it
abbrev pub IsSpent : {X : Type 0} → Writing X → ℕ → Type 0
IsSpent out status = (status ≡ 1) × (IsWhole out → IsPutTo IsMemoryReply out status)

-- the arguments ask for something that this call does, and nothing was written yet
pub record IsAskedHere {X Y : Type 0} (live : Bool) (words : List (List ℕ)) (out : Writing X) (err : Writing Y) (asked : Asked) : Type 0 where
  pub here : is_run asked.verb ≡ live
  pub request : (r : AskedBytes) → AsksFor words r → asked_of asked ≡ r
  pub kinds : kinds_here live words ≡ []
  pub left : IsLeft out
  pub left_told : IsLeft err

-- The arguments were answered instead. If they ask for something that this call does, an allocation failed.
pub record IsExplained {X Y : Type 0} (live : Bool) (words : List (List ℕ)) (out : Writing X) (err : Writing Y) (status : ℕ) : Type 0 where
  pub ends : EndsBy (kinds_here live words) out err status
  pub spent : (r : AskedBytes) → is_run r.verb ≡ live → AsksFor words r → IsSpent out status
