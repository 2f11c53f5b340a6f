-- What the loops of receivers and groups do at their gate: the points that they pass, in order, and the one at which it ended them
-- (vocabulary of contracts).
use Rattle.std.specs.Prelude.{◌≡◌, ◌+◌, ◌<◌, ◌⊎◌, ◌∷◌, [], ◌++◌, ⊤, ℕ, List, Result, Ok, Err, length, take}
use Rattle.a429_values.specs.Ends.{ReceiverEnd, accept_answer}
use Rattle.a429_values.specs.declared.receiver.Accept.{Accept}
use Rattle.a429_workers.specs.Receives.{LineWordsAreTaken, Gives, after_words, answers_to, counted, totals_of}
use Rattle.a429_filter.specs.declared.sources.LineSource as LineSource
use Rattle.a429_workers.specs.declared.gates.Gate as Gate
use Rattle.a429_workers.specs.declared.gates.Point.{Point}
use Rattle.a429_workers.specs.declared.gates.Point.TheVariants as point
use Rattle.a429_workers.specs.declared.receiving.ReceiveTotals.{ReceiveTotals}
use Rattle.a429_workers.specs.declared.receiving.ReceiveFault.{ReceiveFault}
use Rattle.a429_workers.specs.declared.receiving.ReceiveFault.TheVariants as receive
use Rattle.a429_workers.specs.declared.sending.SendFault.{SendFault}
use Rattle.a429_workers.specs.declared.sending.SendFault.TheVariants as send

-- ---- a gate

-- The points at which a gate may let a loop go on, and those at which it may end one; what holds once it was asked at a
-- point and shown a value there, and once it was given an answer and totals.
pub record GatePoints : Type 1 where
  pub passes : Point → Type 0
  pub shuts : Point → Type 0
  pub asked : Point → (S : Type 0) → S → Type 0
  pub told : Accept → ReceiveTotals → Type 0

abbrev pub points_of : {G : Type 0} → Gate.Ghosts G → G → GatePoints
points_of gate at = record { passes = gate.passes at; shuts = gate.shuts at; asked = gate.asked at; told = gate.told at }

-- ---- points in a row

-- the gate let the loop go on before and after each of the first n words, or cells
pub record HavePassed (passes : Point → Type 0) (before after : ℕ → Point) (n : ℕ) : Type 0 where
  pub each : (k : ℕ) → k < n → passes (before k) × passes (after k)

-- and then it ended the loop before the next one
pub record EndsBefore (gate : GatePoints) (before after : ℕ → Point) (n : ℕ) : Type 0 where
  pub passed : HavePassed gate.passes before after n
  pub shut : gate.shuts (before n)

-- or after the next one
pub record EndsAfter (gate : GatePoints) (before after : ℕ → Point) (n : ℕ) : Type 0 where
  pub passed : HavePassed gate.passes before after n
  pub begun : gate.passes (before n)
  pub shut : gate.shuts (after n)

-- ---- words

abbrev pub point_before_word : ℕ → ℕ → Point
point_before_word r n = point.BeforeAccept r n

abbrev pub point_after_word : ℕ → ℕ → Point
point_after_word r n = point.AfterAccept r n

-- the gate let the loop of receiver r go on before and after each of its first n words
abbrev pub HaveWordsPassed : (Point → Type 0) → ℕ → ℕ → Type 0
HaveWordsPassed passes r n = HavePassed passes (point_before_word r) (point_after_word r) n

-- Word n of receiver r: the gate was asked before it, and shown the receiver as it was before; and it was asked after it,
-- and shown the receiver as it was then. It was given the answer and the totals.
pub record IsAskedAndTold (gate : GatePoints) (r n : ℕ) (before after : ReceiverEnd) (answer : Accept) (totals : ReceiveTotals) : Type 0 where
  pub first : gate.asked (point_before_word r n) ReceiverEnd before
  pub told : gate.told answer totals
  pub last : gate.asked (point_after_word r n) ReceiverEnd after

-- A word that came in after these, since the receiver began: before it the receiver had taken these, and after it the
-- word too. The answer is the receiver's own, and the totals count the answers up to it.
abbrev pub IsInOrder : GatePoints → ℕ → ReceiverEnd → List ℕ → ℕ → Type 0
IsInOrder gate r start done raw = IsAskedAndTold gate r (length done)
    (after_words start done) (after_words start (done ++ raw ∷ [])) (accept_answer (after_words start done) raw) (totals_of (answers_to start (done ++ raw ∷ [])))

-- words that came in one after another, after those
abbrev pub AreInOrder : GatePoints → ℕ → ReceiverEnd → List ℕ → List ℕ → Type 0
AreInOrder gate r start done [] = ⊤
AreInOrder gate r start done (raw ∷ raws) = IsInOrder gate r start done raw × AreInOrder gate r start (done ++ raw ∷ []) raws

-- the gate ended the loop of receiver r after the last word that its line gave, which the receiver took
pub record IsShutAfterWord (gate : GatePoints) (r given taken : ℕ) : Type 0 where
  pub last : ℕ
  pub all : given ≡ taken
  pub counted : taken ≡ last + 1
  pub ended : EndsAfter gate (point_before_word r) (point_after_word r) last

-- The points of receiver r's loop, if its line gave `given` words and it took the first `taken` of them. If the gate
-- ended the loop, that was before the last word, which the receiver did not take, or after it.
abbrev pub IsGatedLine : GatePoints → ℕ → ℕ → ℕ → Result ReceiveTotals ReceiveFault → Type 0
IsGatedLine gate r given taken (Ok totals) = (given ≡ taken) × HaveWordsPassed gate.passes r taken
IsGatedLine gate r given taken (Err receive.Source) = (given ≡ taken) × HaveWordsPassed gate.passes r taken
IsGatedLine gate r given taken (Err (receive.TooMuch raw totals)) = (given ≡ taken + 1) × HaveWordsPassed gate.passes r taken
IsGatedLine gate r given taken (Err receive.Gate) =
    ((given ≡ taken + 1) × EndsBefore gate (point_before_word r) (point_after_word r) taken)
    ⊎ IsShutAfterWord gate r given taken

-- the receiver took the first `taken` of these words, each between two points of the gate
abbrev pub AreGated : GatePoints → ℕ → List ℕ → Result ReceiveTotals ReceiveFault → ReceiverEnd → ReceiverEnd → Type 0
AreGated gate r given answer old new =
    (taken : ℕ) × (new ≡ after_words old (take taken given)) × IsGatedLine gate r (length given) taken answer

-- a receiver with the source of its line
pub record Listening (L : Type 0) : Type 0 where
  pub line : L
  pub receiver : ReceiverEnd

abbrev pub listening : {L : Type 0} → L → ReceiverEnd → Listening L
listening line receiver = record { line = line; receiver = receiver }

-- What the loop of receiver r did: the line gave words, and the receiver took them, each between two points of the gate.
-- The gate was asked before each word that the receiver took, and after it, and was given the answer.
pub record HasTaken {L : Type 0} (source : LineSource.Ghosts L) (gate : GatePoints) (r : ℕ) (old new : Listening L) (answer : Result ReceiveTotals ReceiveFault) : Type 0 where
  pub words : List ℕ
  pub gave : Gives source.given source.left old.line words new.line
  pub taken : LineWordsAreTaken words answer old.receiver new.receiver
  pub gated : AreGated gate r words answer old.receiver new.receiver
  pub order : AreInOrder gate r old.receiver [] (take gated.0 words)

-- the gate was asked before and after word n, and was given the answer to it
abbrev pub IsHeardAt : GatePoints → ℕ → ℕ → ℕ → ReceiveTotals → ReceiverEnd → ReceiverEnd → Type 0
IsHeardAt gate r n raw totals old new = IsAskedAndTold gate r n old new (accept_answer old raw) (counted totals (accept_answer old raw))

-- the gate ended the loop of receiver r before word n, which the receiver did not take, or after it
abbrev pub IsShutAt : GatePoints → ℕ → ℕ → ℕ → ReceiveTotals → ReceiverEnd → ReceiverEnd → Type 0
IsShutAt gate r n raw totals old new =
    ((new ≡ old) × gate.shuts (point_before_word r n))
    ⊎ ((new ≡ after_words old (raw ∷ [])) × gate.passes (point_before_word r n) × gate.shuts (point_after_word r n) × IsHeardAt gate r n raw totals old new)

-- ---- cells

abbrev pub point_before_cell : ℕ → ℕ → Point
point_before_cell g n = point.BeforeCell g n

abbrev pub point_after_cell : ℕ → ℕ → Point
point_after_cell g n = point.AfterCell g n

-- the gate let the loop of group g go on before and after each of its first n cells
abbrev pub HaveCellsPassed : (Point → Type 0) → ℕ → ℕ → Type 0
HaveCellsPassed passes g n = HavePassed passes (point_before_cell g) (point_after_cell g) n

-- The points of group g's loop that a fault ended, if its sink took `taken` cells. If the sink failed, that was at the
-- next cell, which the gate let pass. If the gate ended the loop, that was before the next cell, which was not asked
-- for, or after the last one that the sink took.
abbrev pub IsStoppedGroup : GatePoints → ℕ → ℕ → SendFault → Type 0
IsStoppedGroup gate g taken send.Sink = HaveCellsPassed gate.passes g taken × gate.passes (point_before_cell g taken)
IsStoppedGroup gate g taken send.Change = HaveCellsPassed gate.passes g taken
IsStoppedGroup gate g taken send.Gate =
    EndsBefore gate (point_before_cell g) (point_after_cell g) taken
    ⊎ ((k : ℕ) × (taken ≡ k + 1) × EndsAfter gate (point_before_cell g) (point_after_cell g) k)

-- the points of group g's loop, if its sink took `taken` cells
abbrev pub IsGatedGroup : {A : Type 0} → GatePoints → ℕ → ℕ → Result A SendFault → Type 0
IsGatedGroup gate g taken (Ok done) = HaveCellsPassed gate.passes g taken
IsGatedGroup gate g taken (Err fault) = IsStoppedGroup gate g taken fault
