-- What the program does with its arguments (profile: docs/FORMATS.md, Help, usage errors and outputs that fail).
use Rattle.std.specs.Prelude.{◌≡◌, ◌≤◌, [], ◌∷◌, ◌⊎◌, ℕ, List, Bool, false, Option, IsTrue, codes}
use Rattle.std.specs.Str.{bytes_eq}
use Rattle.a429_console.specs.Ends.{EndsBy, IsLeft, IsMemoryRefused, IsMistakeTold, IsPutTo, IsWhole, Writing}
use Rattle.a429_arguments.specs.GivenWords.{AreAllWords, HasNoText}
use Rattle.a429_arguments.specs.RequestRows.{AsksFor}
use Rattle.a429_arguments.specs.Requests.{AskedBytes}
use Rattle.a429_arguments.specs.Usage.{is_run, trouble_of}
use Rattle.a429_cli.specs.Calls.{kinds_here}
use Rattle.a429_cli.specs.Replies.{IsReplyOrMemory, IsSilent}

-- what files a reader has, and whether they are known
pub record Reader : Type 0 where
  pub tells : Bool
  pub file : List ℕ → Option (List ℕ)

-- the first argument is `live`
abbrev pub is_live : List (List ℕ) → Bool
is_live [] = false
is_live (word ∷ words) = bytes_eq word (codes "live")

-- The arguments went to `command_live`, or to `command`, which does the other commands; Reads says what is true of all files that give what the reader
-- answered during the call.
pub record IsCallDone {X Y : Type 0} (live : Bool) (words : List (List ℕ)) (reader : Reader) (Reads : ((List ℕ → Option (List ℕ)) → Type 0) → Type 0) (out : Writing X) (err : Writing Y) (status : ℕ) : Type 0 where
  pub answered : (r : AskedBytes) → is_run r.verb ≡ live → AsksFor words r → (status ≤ trouble_of r.verb) × (IsTrue reader.tells → IsWhole out → IsPutTo (IsReplyOrMemory reader.file r) out status)
  pub read : (r : AskedBytes) → is_run r.verb ≡ live → AsksFor words r → IsWhole out → Reads (λ file. IsPutTo (IsReplyOrMemory file r) out status)
  pub quiet : (r : AskedBytes) → is_run r.verb ≡ live → AsksFor words r → Reads (λ file. IsSilent file r → status ≡ 0 → IsLeft err)
  pub ends : EndsBy (kinds_here live words) out err status

-- the arguments went to the call that does the command which the first of them names
abbrev pub CommandIsDone : {X Y : Type 0} → List (List ℕ) → Reader → (((List ℕ → Option (List ℕ)) → Type 0) → Type 0) → Writing X → Writing Y → ℕ → Type 0
CommandIsDone words = IsCallDone (is_live words) words

-- or an allocation failed
abbrev pub IsDoneOrRefused : {X Y : Type 0} → List (List ℕ) → Reader → (((List ℕ → Option (List ℕ)) → Type 0) → Type 0) → Writing X → Writing Y → ℕ → Type 0
IsDoneOrRefused words reader Reads out err status = CommandIsDone words reader Reads out err status ⊎ IsMemoryRefused out err status

-- the given arguments went to their command, or one of them is not UTF-8, or an allocation failed
abbrev pub HasRunProgram : {X Y : Type 0} → (ℕ → List ℕ → Type 0) → (ℕ → Type 0) → Reader → (((List ℕ → Option (List ℕ)) → Type 0) → Type 0) → Writing X → Writing Y → ℕ → Type 0
HasRunProgram gives ends reader Reads out err status =
    ((words : List (List ℕ)) × AreAllWords gives ends words × CommandIsDone words reader Reads out err status)
    ⊎ ((HasNoText gives × IsMistakeTold out err status) ⊎ IsMemoryRefused out err status)
