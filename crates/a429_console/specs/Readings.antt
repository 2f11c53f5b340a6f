-- What a reader of files answered, call by call (vocabulary of contracts).
use Rattle.std.specs.Prelude.{◌≡◌, ◌∷◌, [], ⊤, ℕ, List, Option, Some, None, Result, Ok, Err}
use Rattle.std.specs.Prelude.{Bool, true, false, IsTrue}
use Rattle.std.specs.List.{AllByRecursion}
use Rattle.std.proofs.Common.{subst}
use Rattle.std.specs.declared.vec.Vec.{Vec}
use Rattle.std.specs.declared.alloc.Global.{Global}
use Rattle.a429_logs.specs.Logs.{joined}
use Rattle.a429_console.specs.Files.{bytes_of}
use Rattle.a429_console.specs.declared.files.FileFault.{FileFault}
use Rattle.a429_console.specs.declared.files.FileFault.TheVariants as fault

-- one call: the name that was asked for, and the bytes that were given, or why none were
pub record Reading : Type 0 where
  pub name : List ℕ
  pub answer : Result (List ℕ) FileFault

-- the text of what is kept of a file that was read, or why there is none
abbrev pub answer_by : {X : Type 0} → (X → List ℕ) → Result X FileFault → Result (List ℕ) FileFault
answer_by text (Ok kept) = Ok (text kept)
answer_by text (Err e) = Err e

-- its bytes
abbrev pub answer_of : Result (Vec ℕ Global) FileFault → Result (List ℕ) FileFault
answer_of answer = answer_by (λ bytes. bytes.items) answer

-- its bytes in pieces
abbrev pub pieces_answer : Result (Vec (Vec ℕ Global) Global) FileFault → Result (List ℕ) FileFault
pieces_answer answer = answer_by (λ pieces. joined (bytes_of pieces.items)) answer

-- these calls were answered so, one after another, from what the reader was to what it is; each call is as Answers says
abbrev pub AreAnswered : {S : Type 0} → (S → List ℕ → Result (List ℕ) FileFault → S → Type 0) → S → List Reading → S → Type 0
AreAnswered Answers old [] new = new ≡ old
AreAnswered {S} Answers old (r ∷ rs) new = (next : S) × Answers old r.name r.answer next × AreAnswered Answers next rs new

-- it is the answer of these files; if an allocation failed it says nothing of them
abbrev pub IsAnswerOf : (List ℕ → Option (List ℕ)) → List ℕ → Result (List ℕ) FileFault → Type 0
IsAnswerOf file name (Ok bytes) = file name ≡ Some bytes
IsAnswerOf file name (Err fault.Refused) = file name ≡ None
IsAnswerOf file name (Err fault.NoMemory) = ⊤

-- all of these are
abbrev pub AreAnswersOf : (List ℕ → Option (List ℕ)) → List Reading → Type 0
AreAnswersOf file readings = AllByRecursion (λ (r : Reading). IsAnswerOf file r.name r.answer) readings

-- Files were read by calls of a reader, from what it was to what it is, and Says is true of all files of which these are the answers. If one name was
-- answered in two ways, there are no such files.
pub record HasRead {S : Type 0} (Answers : S → List ℕ → Result (List ℕ) FileFault → S → Type 0) (Says : (List ℕ → Option (List ℕ)) → Type 0) (old new : S) : Type 0 where
  pub readings : List Reading
  pub answered : AreAnswered Answers old readings new
  pub says : (file : List ℕ → Option (List ℕ)) → AreAnswersOf file readings → Says file

-- the same, if the reader was used again after these calls
abbrev pub HasReadFrom : {S : Type 0} → (S → List ℕ → Result (List ℕ) FileFault → S → Type 0) → ((List ℕ → Option (List ℕ)) → Type 0) → S → Type 0
HasReadFrom {S} Answers Says old = (new : S) × HasRead Answers Says old new

-- the files of a reader are not known
abbrev pub IsUntold : Bool → Type 0
IsUntold true = ⊥
IsUntold false = ⊤

pub not_told : {A : Type 0} → IsTrue false → A
not_told told = absurd (subst IsUntold told tt)
