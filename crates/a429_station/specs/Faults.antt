-- Why a station did not run, or not to its end: the faults of its plan and of its workers (vocabulary of contracts).
use Rattle.std.specs.Prelude.{◌≡◌, ◌<◌, ◌≤◌, List, [], ◌∷◌, ◌⊎◌, ⊤, ℕ, true, Option, Some, None, Result, Ok, Err, OnOk, length}
use Rattle.a429_equipment.specs.TableRecord.{TableRecord}
use Rattle.a429_filter.specs.declared.sources.LineSource as LineSource
use Rattle.a429_slots.specs.Tables.{PlanTable}
use Rattle.a429_slots.specs.Planned.{IsPlanOf}
use Rattle.a429_slots.specs.Faults.{IsFaultOf}
use Rattle.a429_workers.specs.Gates.{GatePoints, IsGatedGroup, IsGatedLine}
use Rattle.a429_workers.specs.Receives.{Gives, source_failures}
use Rattle.a429_workers.specs.Sends.{sink_failures}
use Rattle.a429_workers.specs.declared.receiving.ReceiveTotals.{ReceiveTotals}
use Rattle.a429_workers.specs.declared.receiving.ReceiveFault.{ReceiveFault}
use Rattle.a429_workers.specs.declared.receiving.ReceiveFault.TheVariants as receive
use Rattle.a429_workers.specs.declared.sinks.BusSink as BusSink
use Rattle.a429_workers.specs.declared.sending.SendTotals.{SendTotals}
use Rattle.a429_workers.specs.declared.sending.SendFault.{SendFault}
use Rattle.a429_workers.specs.declared.sending.SendFault.TheVariants as send
use Rattle.a429_station.specs.Course.{RunAsk}
use Rattle.a429_station.specs.Numbered.{AllOfTwo}
use Rattle.a429_station.specs.declared.faults.LiveFault.{LiveFault}
use Rattle.a429_station.specs.declared.faults.LiveFault.TheVariants as live

-- ---- of one worker

abbrev pub of_receiver : ReceiveFault → LiveFault
of_receiver receive.Source = live.Source
of_receiver receive.Gate = live.Gate
of_receiver (receive.TooMuch raw totals) = live.TooMuch

-- the slots of a million frames can be counted, so a group is never refused its next frame (profile: docs/RULES.md, Limits)
abbrev pub IsOfGroup : SendFault → LiveFault → Type 0
IsOfGroup send.Sink fault = fault ≡ live.Sink
IsOfGroup send.Gate fault = fault ≡ live.Gate
IsOfGroup send.Change fault = ⊥

-- ---- of all workers

-- the fault of the first that has one
abbrev pub first_fault : {A E : Type 0} → List (Result A E) → Option E
first_fault [] = None
first_fault (Ok done ∷ answers) = first_fault answers
first_fault (Err fault ∷ answers) = Some fault

-- the fault is that of the first receiver that has one; otherwise that of the first group that has one; otherwise
-- `NoMemory`
abbrev pub IsFirstFault : Option ReceiveFault → Option SendFault → LiveFault → Type 0
IsFirstFault (Some why) groups fault = fault ≡ of_receiver why
IsFirstFault None (Some why) fault = IsOfGroup why fault
IsFirstFault None None fault = fault ≡ live.NoMemory

-- the line gave a word after a million, if that is why its receiver's loop ended (profile: docs/RULES.md, Limits)
abbrev pub GaveTooMuch : List ℕ → Result ReceiveTotals ReceiveFault → Type 0
GaveTooMuch words (Err (receive.TooMuch raw totals)) = length words ≡ 1000001
GaveTooMuch words (Err receive.Source) = ⊤
GaveTooMuch words (Err receive.Gate) = ⊤
GaveTooMuch words (Ok totals) = ⊤

-- The source of receiver r's line gave words until the loop of that receiver ended with this answer, at the point of
-- the gate to which it had come. If the answer is Ok the source was at its end. The source's count of failures rose, as
-- far as 64 bits count, if the answer is Source, and stayed otherwise.
pub record EndsLine {L : Type 0} (source : LineSource.Ghosts L) (gate : GatePoints) (r : ℕ) (before : L) (answer : Result ReceiveTotals ReceiveFault) : Type 0 where
  pub after : L
  pub words : List ℕ
  pub gave : Gives source.given source.left before words after
  pub at_end : OnOk answer (source.ended after ≡ true)
  pub failures : source.failed after ≡ source_failures (source.failed before) answer
  pub many : GaveTooMuch words answer
  pub taken : ℕ
  pub gated : IsGatedLine gate r (length words) taken answer

-- The sink of group g was there until the group's loop ended with this answer, at the point of the gate to which it had
-- come. Its count of failures rose, as far as 64 bits count, if the answer is Sink, and stayed otherwise.
pub record EndsGroup {B : Type 0} (sink : BusSink.Ghosts B) (gate : GatePoints) (g : ℕ) (before : B) (answer : Result SendTotals SendFault) : Type 0 where
  pub after : B
  pub failures : sink.failed after ≡ sink_failures (sink.failed before) answer
  pub taken : ℕ
  pub gated : IsGatedGroup gate g taken answer

-- ---- of a run

-- the table has a plan, and this number of frames can be sent: threads may be started
pub record CanStart (t : TableRecord) (frames : ℕ) : Type 0 where
  pub plan : PlanTable
  pub planned : IsPlanOf t plan
  pub few : frames ≤ 1000000

-- the loops of all receivers and groups ended, and the fault is the first of theirs, or `NoMemory` if none has one
pub record HasStopped {L B : Type 0} (source : LineSource.Ghosts L) (sink : BusSink.Ghosts B) (gate : GatePoints) (ask : RunAsk L B) (fault : LiveFault) : Type 0 where
  pub heard : List (Result ReceiveTotals ReceiveFault)
  pub sent : List (Result SendTotals SendFault)
  pub lines : AllOfTwo (EndsLine source gate) ask.sources heard
  pub groups : AllOfTwo (EndsGroup sink gate) ask.sinks sent
  pub first : IsFirstFault (first_fault heard) (first_fault sent) fault

-- Why a run has no report: an allocation failed while the run was idle, before its control began; or a thread could not
-- be started or joined; or all loops ended, and it is the first fault.
abbrev pub IsRunFault : {L B : Type 0} → Type 0 → LineSource.Ghosts L → BusSink.Ghosts B → GatePoints → RunAsk L B → LiveFault → Type 0
IsRunFault idle source sink gate ask fault = ((fault ≡ live.NoMemory) × idle) ⊎ ((fault ≡ live.Join) ⊎ HasStopped source sink gate ask fault)

-- why a station of this table did not run, or not to its end, or has no report
abbrev pub IsLiveFault : {L B : Type 0} → Type 0 → LineSource.Ghosts L → BusSink.Ghosts B → GatePoints → RunAsk L B → LiveFault → Type 0
IsLiveFault idle source sink gate ask (live.Plan why) = IsFaultOf ask.table why
IsLiveFault idle source sink gate ask live.TooMuch =
    ((plan : PlanTable) × IsPlanOf ask.table plan × (1000000 < ask.frames)) ⊎ (CanStart ask.table ask.frames × HasStopped source sink gate ask live.TooMuch)
IsLiveFault idle source sink gate ask live.Source = CanStart ask.table ask.frames × HasStopped source sink gate ask live.Source
IsLiveFault idle source sink gate ask live.Gate = CanStart ask.table ask.frames × HasStopped source sink gate ask live.Gate
IsLiveFault idle source sink gate ask live.Sink = CanStart ask.table ask.frames × HasStopped source sink gate ask live.Sink
IsLiveFault idle source sink gate ask live.Join = CanStart ask.table ask.frames
IsLiveFault idle source sink gate ask live.NoMemory =
    CanStart ask.table ask.frames × (idle ⊎ HasStopped source sink gate ask live.NoMemory)
