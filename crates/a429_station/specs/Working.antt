-- What the workers of a running station do (vocabulary of contracts).
use Rattle.std.specs.Prelude.{◌≡◌, ◌≢◌, ◌<◌, [], ℕ, true, List, Result, Err, OnOk, length, map}
use Rattle.std.specs.List.{AllByRecursion}
use mathlib.Core.List.{IsPrefix}
use Rattle.a429_filter.specs.declared.sources.LineSource as LineSource
use Rattle.a429_values.specs.Ends as ends
use Rattle.a429_equipment.specs.TableRecord.{TableRecord}
use Rattle.a429_equipment.specs.Agreement.{Agrees, loads_of_all}
use Rattle.a429_slots.specs.Tables.{PlanTable}
use Rattle.a429_board.specs.Lists.{Planning, beginner}
use Rattle.a429_workers.specs.Calls.{Call, Meets}
use Rattle.a429_workers.specs.Gates.{AreGated, GatePoints, Listening}
use Rattle.a429_workers.specs.Receives.{LineWordsAreTaken, Gives, source_failures}
use Rattle.a429_workers.specs.Sends.{AreSent, sending, sink_failures}
use Rattle.a429_workers.specs.Transmitting.{Transmitting, BeginsWith, GoesOnByCalls}
use Rattle.a429_workers.specs.declared.sinks.BusSink as BusSink
use Rattle.a429_workers.specs.declared.receiving.ReceiveTotals.{ReceiveTotals}
use Rattle.a429_workers.specs.declared.receiving.ReceiveFault.{ReceiveFault}
use Rattle.a429_workers.specs.declared.sending.SendTotals.{SendTotals}
use Rattle.a429_workers.specs.declared.sending.SendFault.{SendFault}
use Rattle.a429_workers.specs.declared.sending.SendFault.TheVariants.{Change}

-- ---- receivers

-- The line gave words, and the receiver took them, each between two points of the gate. The answer says how many, and
-- why it ended. If it is Ok the line's last call answered the end.
pub record HasReceived {L : Type 0} (source : LineSource.Ghosts L) (gate : GatePoints) (r : ℕ) (old new : Listening L) (answer : Result ReceiveTotals ReceiveFault) : Type 0 where
  pub words : List ℕ
  pub gave : Gives source.given source.left old.line words new.line
  pub taken : LineWordsAreTaken words answer old.receiver new.receiver
  pub gated : AreGated gate r words answer old.receiver new.receiver
  pub at_end : OnOk answer (source.ended new.line ≡ true)
  pub failures : source.failed new.line ≡ source_failures (source.failed old.line) answer

-- receiver k of the hub
abbrev pub IsReceiverAt : ends.Place → ℕ → ends.ReceiverEnd → Type 0
IsReceiverAt at k r = (r.at ≡ at) × (r.number ≡ k)

-- ---- groups

-- the transmitter of group g, before its first cell: at a hub and by a board whose planner is this, from slot 0 on
pub record IsReady (at : ends.Place) (p : Planning) (g : ℕ) (v : Transmitting) : Type 0 where
  pub inside : g < length at.station.groups
  pub transmitter : v.transmitter ≡ record { at = at; number = g; loads = [] }
  pub watcher : v.watcher ≡ beginner p
  pub begins : BeginsWith v.transmitter v.watcher 0 v

-- a transmitter with the sink of its group
pub record Emitting (B : Type 0) : Type 0 where
  pub transmit : Transmitting
  pub sink : B

abbrev pub emitting : {B : Type 0} → Transmitting → B → Emitting B
emitting transmit sink = record { transmit = transmit; sink = sink }

-- group g sent its frames, or fewer, and the sink took cells, each between two points of the gate
pub record HasEmitted {B : Type 0} (sink : BusSink.Ghosts B) (gate : GatePoints) (g frames : ℕ) (old new : Emitting B) (answer : Result SendTotals SendFault) : Type 0 where
  pub sent : AreSent gate g frames (sending old.transmit (sink.taken old.sink)) (sending new.transmit (sink.taken new.sink)) answer
  pub failures : sink.failed new.sink ≡ sink_failures (sink.failed old.sink) answer

-- the transmitter of a group after its loop: still at the hub and of the board, and its next frame was not refused if its watcher saw published
-- plans alone
pub record IsOver (at : ends.Place) (p : Planning) (v : Transmitting) (answer : Result SendTotals SendFault) : Type 0 where
  pub hub : v.transmitter.at ≡ at
  pub board : v.watcher.book ≡ p.book
  pub counts : IsPrefix v.watcher.list p.list → answer ≢ Err Change

-- ---- meetings

-- a receiver is met: each of its sources is loaded
abbrev pub meeting_of : TableRecord → ends.ReceiverEnd → Call
meeting_of t r = Meets (loads_of_all t r.number r.accepted)

-- the transmitter met these receivers, in order, and its loads agree with what they accepted
pub record HasMet (t : TableRecord) (receivers : List ends.ReceiverEnd) (old new : Transmitting) : Type 0 where
  pub stands : GoesOnByCalls old (map (meeting_of t) receivers) new
  pub rest : new ≡ record old { transmitter = new.transmitter }
  pub hub : new.transmitter.at ≡ old.transmitter.at
  pub agree : AllByRecursion (λ r. Agrees t r.number r.accepted new.transmitter.loads) receivers

-- the watcher's list is this
abbrev pub told : Transmitting → List PlanTable → Transmitting
told v list = record v { watcher = record v.watcher { list = list } }

-- the transmitter was given all plans that were published, and then met the receivers
pub record IsJoined (t : TableRecord) (list : List PlanTable) (receivers : List ends.ReceiverEnd) (v : Transmitting) : Type 0 where
  pub beginning : IsPrefix v.watcher.list list
  pub stands : GoesOnByCalls v [] (told v list)
  pub end : Transmitting
  pub met : HasMet t receivers (told v list) end
