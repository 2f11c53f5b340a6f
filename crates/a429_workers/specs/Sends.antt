-- What a group's transmitter sent in a stretch of calls, and what its sink took (vocabulary of contracts).
use Rattle.std.specs.Prelude.{◌≡◌, ◌+◌, ◌<◌, ◌++◌, ◌∷◌, [], ◌⊎◌, ℕ, zero, suc, Bool, true, false, List, Option, Some, None, Result, Ok, Err, IsTrue, is_some, length, count_by, filter_map, option_map}
use Rattle.std.specs.List.{AllByRecursion}
use Rattle.a429_slots.specs.Tables.{PlanTable, cells_of}
use Rattle.a429_slots.specs.FrameStates.{FrameState, after_cell}
use Rattle.a429_workers.specs.Gates.{GatePoints, IsGatedGroup}
use Rattle.a429_workers.specs.Calls.{Call, Carried, Asks, Turns, Meets, Takes, StaysMid, StaysSpent}
use Rattle.a429_workers.specs.Sinks.{failures_by}
use Rattle.a429_workers.specs.Transmitting.{Transmitting, GoesOnByCalls, IsSameGroup}
use Rattle.a429_workers.specs.declared.cells.Sent.{Sent}
use Rattle.a429_workers.specs.declared.sending.SendTotals.{SendTotals}
use Rattle.a429_workers.specs.declared.sending.SendFault.{SendFault}
use Rattle.a429_workers.specs.declared.sending.SendFault.TheVariants.{Gate, Sink, Change}

-- the cells that were answered in calls, in order
abbrev pub sent_of : Call → Option Sent
sent_of (Asks (Some c)) = Some (record { bus = c.bus; slot = c.slot; word = c.word })
sent_of (Asks None) = None
sent_of (Turns plans t) = None
sent_of (Meets loads) = None

abbrev pub sent_in : List Call → List Sent
sent_in calls = filter_map sent_of calls

abbrev pub has_word : Sent → Bool
has_word s = is_some s.word

-- a next frame was taken
abbrev pub is_taken : Call → Bool
is_taken (Turns plans (Takes n)) = true
is_taken (Turns plans StaysMid) = false
is_taken (Turns plans StaysSpent) = false
is_taken (Asks c) = false
is_taken (Meets loads) = false

-- a cell was answered, or a next frame taken
abbrev pub is_send : Call → Bool
is_send (Asks (Some c)) = true
is_send (Asks None) = false
is_send (Turns plans (Takes n)) = true
is_send (Turns plans StaysMid) = false
is_send (Turns plans StaysSpent) = false
is_send (Meets loads) = false

-- what a sink has taken then, if it says what it took
abbrev pub with_cells : Option (List Sent) → List Sent → Option (List Sent)
with_cells taken cells = option_map (λ before. before ++ cells) taken

-- The transmitter answered these calls, each a cell or a next frame that was taken, and then the last; the sink took the cells of the former.
pub record HasSent (old new : Transmitting) (before after : Option (List Sent)) (calls last : List Call) : Type 0 where
  pub stands : GoesOnByCalls old (calls ++ last) new
  pub same : IsSameGroup old new
  pub sends : AllByRecursion (λ c. IsTrue (is_send c)) calls
  pub took : after ≡ with_cells before (sent_in calls)

-- the call that ended the loop: a cell that the sink did not take, or a frame that was not taken; at the gate there is none
abbrev pub IsLast : SendFault → List Call → Type 0
IsLast Gate last = last ≡ []
IsLast Sink last = (c : Carried) × (last ≡ Asks (Some c) ∷ [])
IsLast Change last = (plans : List PlanTable) × (last ≡ Turns plans StaysSpent ∷ [])

-- the calls are this number of whole frames: a next one is taken between two, and all cells of the last one are sent
abbrev pub AreWhole : ℕ → List Call → FrameState → Type 0
AreWhole zero calls frame = calls ≡ []
AreWhole (suc n) calls frame = (count_by is_taken calls ≡ n) × (frame.sent ≡ cells_of frame.table)

abbrev pub totals_of : List Sent → ℕ → SendTotals
totals_of cells plan = record { cells = length cells; words = count_by has_word cells; plan = plan }

-- a transmitter, and the cells that its sink took, if the sink says so
pub record Sending : Type 0 where
  pub transmit : Transmitting
  pub taken : Option (List Sent)

abbrev pub sending : Transmitting → Option (List Sent) → Sending
sending transmit taken = record { transmit = transmit; taken = taken }

-- This number of frames of group g was sent from the beginning of a frame on, each cell between two points of the gate.
-- The totals count the cells.
pub record AreAllSent (gate : GatePoints) (g frames : ℕ) (old new : Sending) (totals : SendTotals) : Type 0 where
  pub calls : List Call
  pub sent : HasSent old.transmit new.transmit old.taken new.taken calls []
  pub counted : totals ≡ totals_of (sent_in calls) new.transmit.number
  pub whole : AreWhole frames calls new.transmit.frame
  pub gated : IsGatedGroup {A = SendTotals} gate g (length (sent_in calls)) (Ok totals)

-- or fewer, if a fault ended the loop before
pub record AreFewerSent (gate : GatePoints) (g frames : ℕ) (old new : Sending) (fault : SendFault) : Type 0 where
  pub calls : List Call
  pub last : List Call
  pub sent : HasSent old.transmit new.transmit old.taken new.taken calls last
  pub ended : IsLast fault last
  pub fewer : count_by is_taken calls < frames
  pub gated : IsGatedGroup {A = SendTotals} gate g (length (sent_in calls)) (Err fault)

-- by the answer of the loop
abbrev pub AreSent : GatePoints → ℕ → ℕ → Sending → Sending → Result SendTotals SendFault → Type 0
AreSent gate g frames old new (Ok totals) = AreAllSent gate g frames old new totals
AreSent gate g frames old new (Err fault) = AreFewerSent gate g frames old new fault

-- the count of failures of the sink: it rises by one if the sink failed
abbrev pub sink_failures : {A : Type 0} → ℕ → Result A SendFault → ℕ
sink_failures n (Ok done) = n
sink_failures n (Err Sink) = failures_by {A = ℕ} {E = SendFault} n (Err Sink)
sink_failures n (Err Gate) = n
sink_failures n (Err Change) = n

-- ---- one cell, one frame

-- these cells are counted
pub record IsTallied (start totals : SendTotals) (sent : List Sent) : Type 0 where
  pub cells : totals.cells ≡ start.cells + length sent
  pub words : totals.words ≡ start.words + count_by has_word sent

-- a cell was answered
pub record IsCellMade (old new : Transmitting) (c : Carried) : Type 0 where
  pub stands : GoesOnByCalls old (Asks (Some c) ∷ []) new
  pub same : IsSameGroup old new
  pub frame : new.frame ≡ after_cell old.frame
  pub number : new.number ≡ old.number

-- and its sink took it
pub record IsCellTaken (old new : Transmitting) (before after : Option (List Sent)) (start totals : SendTotals) : Type 0 where
  pub cell : Carried
  pub made : IsCellMade old new cell
  pub took : after ≡ with_cells before (sent_in (Asks (Some cell) ∷ []))
  pub tallied : IsTallied start totals (sent_in (Asks (Some cell) ∷ []))

-- or did not take it
pub record IsCellLost (old new : Transmitting) (before after : Option (List Sent)) (start later : SendTotals) : Type 0 where
  pub cell : Carried
  pub made : IsCellMade old new cell
  pub left : after ≡ with_cells before []
  pub totals : later ≡ start

-- a cell was answered and its sink took it; or the gate ended the loop before or after that, or the sink did not take it
abbrev pub IsCell : Transmitting → Transmitting → Option (List Sent) → Option (List Sent) → SendTotals → SendTotals → Result (Unit {0}) SendFault → Type 0
IsCell old new before after start totals (Ok done) = IsCellTaken old new before after start totals
IsCell old new before after start totals (Err Gate) =
    ((new ≡ old) × (after ≡ before) × (totals ≡ start)) ⊎ IsCellTaken old new before after start totals
IsCell old new before after start totals (Err Sink) = IsCellLost old new before after start totals
IsCell old new before after start totals (Err Change) = ⊥

-- all cells of a frame were sent from its beginning on
pub record IsFrameSent (old new : Transmitting) (before after : Option (List Sent)) (start totals : SendTotals) : Type 0 where
  pub calls : List Call
  pub sent : HasSent old new before after calls []
  pub tallied : IsTallied start totals (sent_in calls)
  pub turns : count_by is_taken calls ≡ 0
  pub over : new.frame.sent ≡ cells_of new.frame.table

-- or fewer, if a fault ended the loop before
pub record IsFrameCut (old new : Transmitting) (before after : Option (List Sent)) (start totals : SendTotals) (fault : SendFault) : Type 0 where
  pub calls : List Call
  pub last : List Call
  pub sent : HasSent old new before after calls last
  pub ended : IsLast fault last
  pub turns : count_by is_taken calls ≡ 0
  pub tallied : IsTallied start totals (sent_in calls)

abbrev pub IsFrame : Transmitting → Transmitting → Option (List Sent) → Option (List Sent) → SendTotals → SendTotals → Result (Unit {0}) SendFault → Type 0
IsFrame old new before after start totals (Ok done) = IsFrameSent old new before after start totals
IsFrame old new before after start totals (Err fault) = IsFrameCut old new before after start totals fault

-- the next frame was taken
pub record IsTurnTaken (old new : Transmitting) : Type 0 where
  pub plans : List PlanTable
  pub next : ℕ
  pub stands : GoesOnByCalls old (Turns plans (Takes next) ∷ []) new
  pub same : IsSameGroup old new
  pub begins : new.frame.sent ≡ 0

-- or its slots cannot be counted
abbrev pub IsTurn : Transmitting → Transmitting → Result (Unit {0}) SendFault → Type 0
IsTurn old new (Ok done) = IsTurnTaken old new
IsTurn old new (Err Change) = (plans : List PlanTable) × GoesOnByCalls old (Turns plans StaysSpent ∷ []) new × IsSameGroup old new
IsTurn old new (Err Gate) = ⊥
IsTurn old new (Err Sink) = ⊥
