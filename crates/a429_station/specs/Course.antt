-- The course of a run of a station: what came to its receivers, what its groups sent by that, and which plans were published during the run
-- (vocabulary of contracts).
use Rattle.std.specs.Prelude.{◌≡◌, ◌≤◌, ◌-◌, ◌^◌, ◌++◌, [], ℕ, Bool, true, List, Option, IsTrue, length, map}
use Rattle.std.specs.List.{AllByRecursion, range_with_len}
use Rattle.a429_equipment.specs.TableRecord.{TableRecord}
use Rattle.a429_equipment.specs.Receiving.{accepted_after}
use Rattle.a429_equipment.specs.Agreement.{loads_of_all}
use Rattle.a429_equipment.specs.Sound.{HaveOwnSources}
use Rattle.a429_filter.specs.declared.sources.LineSource as LineSource
use Rattle.a429_slots.specs.Tables.{SlotTable, PlanTable}
use Rattle.a429_slots.specs.Planned.{IsPlanOf}
use Rattle.a429_slots.specs.Proposed.{Proposed}
use Rattle.a429_slots.specs.Spacing.{IsOwnPlan}
use Rattle.a429_values.specs.Ends as ends
use Rattle.a429_workers.specs.Calls.{Call, Meets}
use Rattle.a429_workers.specs.Receives as receives
use Rattle.a429_workers.specs.Receives.{Gives, answers_to}
use Rattle.a429_workers.specs.Runs.{IsWorking, led_to}
use Rattle.a429_workers.specs.Sends as sends
use Rattle.a429_workers.specs.Sends.{AreWhole, is_send, sent_in, with_cells}
use Rattle.a429_workers.specs.declared.cells.Sent.{Sent}
use Rattle.a429_workers.specs.declared.receiving.ReceiveTotals.{ReceiveTotals}
use Rattle.a429_workers.specs.declared.sending.SendTotals.{SendTotals}
use Rattle.a429_workers.specs.declared.sinks.BusSink as BusSink
use Rattle.a429_station.specs.Numbered.{AllOfThree}
use Rattle.a429_station.specs.Resubmitting.{IsDoneBetween, Running, opening}
use Rattle.a429_station.specs.declared.control.Control as Control
use Rattle.a429_station.specs.declared.reports.Report.{Report}

-- the plan that the run began with, the proposals that were published during it, in order, and the raw words that came
-- to each receiver
pub record Course : Type 0 where
  pub opened : PlanTable
  pub later : List Proposed
  pub came : ℕ → List ℕ

-- ---- receivers

-- receiver r, which accepted nothing yet: of a source it accepts as many words as 41 bits count (profile: docs/RULES.md, Limits)
abbrev pub fresh : ends.Place → ℕ → ends.ReceiverEnd
fresh at r = record { at = at; number = r; limit = 2 ^ 41 - 1; accepted = [] }

-- what receiver r accepted of the words that came to it, as pairs of a source's number and a word
abbrev pub heard_in : TableRecord → Course → ℕ → List (ℕ × ℕ)
heard_in t c r = accepted_after (2 ^ 41 - 1) t r [] (c.came r)

-- the source of receiver r's line gave the words that came to it, up to its end, and the totals count the receiver's answers to them
pub record IsHeardIn {L : Type 0} (gives : L → List ℕ → L → Type 0) (ended : L → Bool) (t : TableRecord) (c : Course) (r : ℕ) (before after : L) (totals : ReceiveTotals) : Type 0 where
  pub gave : gives before (c.came r) after
  pub at_end : ended after ≡ true
  pub few : length (c.came r) ≤ 1000000
  pub hub : ends.Place
  pub station : hub.station ≡ t
  pub counted : totals ≡ receives.totals_of (answers_to (fresh hub r) (c.came r))

-- ---- groups

-- a receiver is met: each of its sources is loaded
abbrev pub meeting : TableRecord → Course → ℕ → Call
meeting t c r = Meets (loads_of_all t r (heard_in t c r))

-- after the frames each receiver is met, in order
abbrev pub meetings : TableRecord → Course → List Call
meetings t c = map (meeting t c) (range_with_len 0 (length t.receivers))

-- Group g was asked for this number of whole frames, from slot 0 on by the plan that the run began with, and then met
-- each receiver. Its calls are those of a working transmitter, which one run (`a429_workers::laws`) supposes, by the
-- plans that were published and what each receiver accepted. Its sink took the cells, if it says what it took, and the
-- totals count them.
pub record IsSentIn {B : Type 0} (taken : B → Option (List Sent)) (frames : ℕ) (t : TableRecord) (c : Course) (g : ℕ) (before after : B) (totals : SendTotals) : Type 0 where
  pub table : SlotTable
  pub calls : List Call
  pub works : IsWorking 41 (opening t c.opened) g table c.later (calls ++ meetings t c) (heard_in t c)
  pub only : AllByRecursion (λ x. IsTrue (is_send x)) calls
  pub whole : AreWhole frames calls (led_to (opening t c.opened) g table calls).frame
  pub took : taken after ≡ with_cells (taken before) (sent_in calls)
  pub counted : totals ≡ sends.totals_of (sent_in calls) (led_to (opening t c.opened) g table calls).number

-- ---- the station

-- What a run is asked: to send this number of frames of each group of this table, with a source for each receiver's
-- line and a sink for each group.
pub record RunAsk (L B : Type 0) : Type 0 where
  pub table : TableRecord
  pub frames : ℕ
  pub sources : List L
  pub sinks : List B

abbrev pub asked : {L B : Type 0} → TableRecord → ℕ → List L → List B → RunAsk L B
asked table frames sources sinks = record { table = table; frames = frames; sources = sources; sinks = sinks }

-- The station ran by a plan of its own table, and by plans of their own tables that were published during the run. The
-- number of a receiver or a group is its place in the table.
pub record HasRun {L B : Type 0} (source : LineSource.Ghosts L) (sink : BusSink.Ghosts B) (ask : RunAsk L B) (report : Report L B) : Type 0 where
  pub course : Course
  pub planned : IsPlanOf ask.table course.opened
  pub own_sources : AllByRecursion HaveOwnSources ask.table.outputs
  pub own_plans : AllByRecursion IsOwnPlan course.later
  pub few : ask.frames ≤ 1000000
  pub heard : AllOfThree (IsHeardIn (Gives source.given source.left) source.ended ask.table course) ask.sources report.sources.items report.receivers.items
  pub sent : AllOfThree (IsSentIn sink.taken ask.frames ask.table course) ask.sinks report.sinks.items report.groups.items

-- what a control says that it did to a station, from what it was itself to what it is
abbrev pub done_by : {K R : Type 0} → Control.Ghosts K R → K → K → Running → Running → Type 0
done_by control before after begin end = control.did before begin end after

-- such a run with a control: what the control did was done to the station during the run
abbrev pub HasRunBeside : {L B : Type 0} → (Running → Running → Type 0) → LineSource.Ghosts L → BusSink.Ghosts B → RunAsk L B → Report L B → Type 0
HasRunBeside did source sink ask report =
    (ran : HasRun source sink ask report) × IsDoneBetween did ask.table ran.course.opened ran.course.later
