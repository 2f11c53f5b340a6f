-- The workers of a station, before their loops and after them (vocabulary of contracts).
use Rattle.std.specs.Prelude.{◌≡◌, ℕ, IsTrue, List, Ok, Option, is_ok, map}
use Rattle.std.specs.List.{AllByRecursion}
use Rattle.a429_equipment.specs.TableRecord.{TableRecord}
use Rattle.a429_slots.specs.Tables.{PlanTable}
use Rattle.a429_board.specs.Lists.{Planning}
use Rattle.a429_values.specs.Ends as ends
use Rattle.a429_workers.specs.declared.gates.Gate as gate
use Rattle.a429_workers.specs.declared.sinks.BusSink as sink
use Rattle.a429_workers.specs.declared.receiving.ReceiveFault.{ReceiveFault}
use Rattle.a429_workers.specs.declared.sending.SendFault.{SendFault}
use Rattle.a429_station.specs.Course.{fresh}
use Rattle.a429_station.specs.Faults.{first_fault}
use Rattle.a429_station.specs.Numbered.{AllNumbered}
use Rattle.a429_station.specs.Working.{IsJoined, IsReady}
use Rattle.a429_station.specs.declared.reports.Report.{Report}
use Rattle.a429_station.specs.declared.threads.Ended.{Ended}
use Rattle.a429_station.specs.declared.working.Emitted.{Emitted}
use Rattle.a429_station.specs.declared.working.GroupWorker.{GroupWorker}
use Rattle.a429_station.specs.declared.working.Received.{Received}
use Rattle.a429_station.specs.declared.working.ReceiverWorker.{ReceiverWorker}

-- each worker is of the group at its place, before its first cell, and must send this number of frames
abbrev pub AreReady : {B G : Type 0} {b : sink.Ghosts B} {h : gate.Ghosts G} → ends.Place → Planning → ℕ → List (GroupWorker B G b h) → Type 0
AreReady at p frames workers = AllNumbered (λ g w. IsReady at p g w.transmit × (w.frames ≡ frames)) workers

-- the fault of the first receiver that has one
abbrev pub receivers_fault : {L : Type 0} → List (Received L) → Option ReceiveFault
receivers_fault received = first_fault (map (λ d. d.answer) received)

-- the fault of the first group that has one
abbrev pub groups_fault : {B : Type 0} → List (Emitted B) → Option SendFault
groups_fault sent = first_fault (map (λ d. d.answer) sent)

-- the transmitters of all groups were given all plans that were published, and then met the receivers
abbrev pub AreJoined : {B : Type 0} → TableRecord → List PlanTable → List ends.ReceiverEnd → List (Emitted B) → Type 0
AreJoined t list receivers sent = AllByRecursion (λ d. IsJoined t list receivers d.transmit) sent

-- What the workers did, all of which ended well, with their devices. The transmitters of all groups were given all
-- plans that were published, and then met the receivers. The control ended well too.
pub record ReportsAllEnds {L B : Type 0} (t : TableRecord) (list : List PlanTable) (done : Ended (Received L) (Emitted B)) (report : Report L B) : Type 0 where
  pub receivers : map (λ x. Ok x) report.receivers.items ≡ map (λ d. d.answer) done.first.items
  pub groups : map (λ x. Ok x) report.groups.items ≡ map (λ d. d.answer) done.second.items
  pub sources : report.sources.items ≡ map (λ d. d.line) done.first.items
  pub sinks : report.sinks.items ≡ map (λ d. d.sink) done.second.items
  pub joined : AreJoined t list (map (λ d. d.receiver) done.first.items) done.second.items
  pub control : IsTrue (is_ok done.answer)

-- the receivers of a hub, each with the line and the number of its place; they have accepted nothing, and work by this gate
pub record AreListening {L G : Type 0} (at : ends.Place) (shared : G) (sources : List L) (workers : List (ReceiverWorker L G)) : Type 0 where
  pub lines : map (λ w. w.line) workers ≡ sources
  pub fresh : AllNumbered (λ r w. w.receiver ≡ fresh at r) workers
  pub gates : AllNumbered (λ r w. (w.number ≡ r) × (w.gate.now ≡ shared)) workers

-- the groups of a hub, each with the sink and the number of its place; they are ready to send this number of frames, and work by this gate
pub record AreSending {B G : Type 0} {b : sink.Ghosts B} {h : gate.Ghosts G} (at : ends.Place) (p : Planning) (frames : ℕ) (shared : G) (buses : List B) (workers : List (GroupWorker B G b h)) : Type 0 where
  pub sinks : map (λ w. w.sink) workers ≡ buses
  pub ready : AreReady at p frames workers
  pub gates : AllNumbered (λ g w. (w.number ≡ g) × (w.gate.now ≡ shared)) workers
