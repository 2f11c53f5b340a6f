-- The origin of the words that a running station sends (vocabulary of contracts).
use Rattle.std.specs.Prelude.{◌≡◌, ◌++◌, ℕ, List, Option, Some, Contains, IsTrue, slice_get, take}
use Rattle.std.specs.List.{AllByRecursion, AllZip}
use Rattle.a429_equipment.specs.Arrivals.{accepts}
use Rattle.a429_equipment.specs.TableRecord.{TableRecord}
use Rattle.a429_equipment.specs.declared.rows.SourceRow.{SourceRow}
use Rattle.a429_filter.specs.declared.sources.LineSource as LineSource
use Rattle.a429_slots.specs.Tables.{SlotTable, Placed}
use Rattle.a429_slots.specs.Answers.{answer}
use Rattle.a429_slots.specs.Events.{Event, Cell}
use Rattle.a429_slots.specs.History.{Opening, current}
use Rattle.a429_slots.specs.declared.answers.Answer.TheVariants.{Sent}
use Rattle.a429_core.specs.Sends.{CarriesLatest}
use Rattle.a429_station.specs.Course.{Course, HasRun, IsSentIn, RunAsk, heard_in, meetings}
use Rattle.a429_station.specs.Numbered.{AllOfThree}
use Rattle.a429_station.specs.Resubmitting.{opening}
use Rattle.a429_station.specs.declared.reports.Report.{Report}
use Rattle.a429_callers.specs.KnownWords.{GoOutInTime, calls_of}
use Rattle.a429_workers.specs.Calls.{Asks, Call, Carried, GroupState}
use Rattle.a429_workers.specs.Runs as machine
use Rattle.a429_workers.specs.Runs.{led_to}
use Rattle.a429_workers.specs.SentWords.{output_due}
use Rattle.a429_workers.specs.Sends.{with_cells}
use Rattle.a429_workers.specs.declared.cells.Sent as cells
use Rattle.a429_workers.specs.declared.sinks.BusSink as BusSink
use Rattle.a429_workers.specs.declared.sending.SendTotals.{SendTotals}

-- ---- lines

-- a source of the table accepts the word at its receiver, by its parity, its label, its SDI and the filters, and the line of that receiver gave it
pub record IsGiven {L : Type 0} (t : TableRecord) (given : L → List ℕ) (lines : List L) (w : ℕ) : Type 0 where
  pub source : ℕ
  pub row : SourceRow
  pub has_row : slice_get t.sources source ≡ Some row
  pub accepted : IsTrue (accepts t row (row.receiver, w))
  pub line : L
  pub there : slice_get lines row.receiver ≡ Some line
  pub gave : Contains (given line) w

-- the cell is empty, or the line of the receiver of a source gave its word
abbrev pub HasGivenWord : {L : Type 0} → TableRecord → (L → List ℕ) → List L → cells.Sent → Type 0
HasGivenWord t given lines s = (w : ℕ) → s.word ≡ Some w → IsGiven t given lines w

-- the sink took cells, and the line of the receiver of a source gave the word of each
pub record TookGivenWords {L B : Type 0} (t : TableRecord) (given : L → List ℕ) (taken : B → Option (List cells.Sent)) (lines : List L) (before after : B) : Type 0 where
  pub cells : List cells.Sent
  pub took : taken after ≡ with_cells (taken before) cells
  pub words : AllByRecursion (HasGivenWord t given lines) cells

-- so it was with each sink of the station
abbrev pub HaveTakenGivenWords : {L B : Type 0} → LineSource.Ghosts L → BusSink.Ghosts B → RunAsk L B → Report L B → Type 0
HaveTakenGivenWords source sink ask report =
    AllZip (TookGivenWords ask.table source.given sink.taken report.sources.items) ask.sinks report.sinks.items

-- ---- sources

-- The word belongs to the source of this number: it came in at the source's receiver, and the source accepts it there, by its parity, its label, its
-- SDI and the receiver's filters.
pub record IsWordOf (t : TableRecord) (came : ℕ → List ℕ) (source w : ℕ) : Type 0 where
  pub row : SourceRow
  pub there : slice_get t.sources source ≡ Some row
  pub accepted : IsTrue (accepts t row (row.receiver, w))
  pub arrived : Contains (came row.receiver) w

-- the cell that is due has an output, and the word belongs to its source
pub record IsOwnWord (t : TableRecord) (came : ℕ → List ℕ) (s : GroupState) (w : ℕ) : Type 0 where
  pub output : Placed
  pub stands : output_due s ≡ Some output
  pub word : IsWordOf t came output.source w

-- each word that these calls of a group's transmitter sent belongs to the source of the output in its cell, by the plan
-- in force there
abbrev pub AreOwnWords : TableRecord → Course → ℕ → SlotTable → List Call → Type 0
AreOwnWords t course g p calls =
    (k : ℕ) (c : Carried) (w : ℕ) → slice_get calls k ≡ Some (Asks (Some c)) → c.word ≡ Some w
    → IsOwnWord t course.came (led_to (opening t course.opened) g p (take k calls)) w

-- the group sent no other words, and its sink took them
pub record SendsOwnWords {B : Type 0} (taken : B → Option (List cells.Sent)) (frames : ℕ) (t : TableRecord) (course : Course) (g : ℕ) (before after : B) (totals : SendTotals) : Type 0 where
  pub sent : IsSentIn taken frames t course g before after totals
  pub own : AreOwnWords t course g sent.table sent.calls

-- the station ran, and each of its groups sent no other words
pub record HasRunOnOwnWords {L B : Type 0} (source : LineSource.Ghosts L) (sink : BusSink.Ghosts B) (ask : RunAsk L B) (report : Report L B) : Type 0 where
  pub ran : HasRun source sink ask report
  pub sent : AllOfThree (SendsOwnWords sink.taken ask.frames ask.table ran.course) ask.sinks report.sinks.items report.groups.items

-- ---- the latest words

-- in this history each word that the group sent is the latest that its source accepted before
abbrev pub CarriesLatestWords : Opening → ℕ → SlotTable → List Event → Type 0
CarriesLatestWords o g p E =
    (k bus slot w : ℕ) → slice_get E k ≡ Some (Cell g) → answer 41 o (take k E) (Cell g) ≡ Sent bus slot (Some w)
    → CarriesLatest 41 o (take k E) (current o g p (take k E)) bus slot w

-- what the group was asked for, the words that came in and the plans that were published are one run of the machine, in which the group sent latest words
pub record SendsLatestWords {B : Type 0} (taken : B → Option (List cells.Sent)) (frames : ℕ) (t : TableRecord) (course : Course) (g : ℕ) (before after : B) (totals : SendTotals) : Type 0 where
  pub sent : IsSentIn taken frames t course g before after totals
  pub run : machine.CallsAreOneRun 41 (opening t course.opened) g course.later (sent.calls ++ meetings t course) (heard_in t course)
  pub latest : CarriesLatestWords (opening t course.opened) g sent.table run.events

-- the station ran, and each of its groups sent latest words
pub record HasRunOnLatestWords {L B : Type 0} (source : LineSource.Ghosts L) (sink : BusSink.Ghosts B) (ask : RunAsk L B) (report : Report L B) : Type 0 where
  pub ran : HasRun source sink ask report
  pub sent : AllOfThree (SendsLatestWords sink.taken ask.frames ask.table ran.course) ask.sinks report.sinks.items report.groups.items

-- ---- in time

-- what the group's transmitter knows of goes out in time
pub record SendsInTime {B : Type 0} (taken : B → Option (List cells.Sent)) (frames : ℕ) (t : TableRecord) (course : Course) (g : ℕ) (before after : B) (totals : SendTotals) : Type 0 where
  pub sent : IsSentIn taken frames t course g before after totals
  pub in_time : GoOutInTime (calls_of (opening t course.opened) g sent.table (sent.calls ++ meetings t course))

-- the station ran, and so it was in each of its groups
pub record HasRunInTime {L B : Type 0} (source : LineSource.Ghosts L) (sink : BusSink.Ghosts B) (ask : RunAsk L B) (report : Report L B) : Type 0 where
  pub ran : HasRun source sink ask report
  pub sent : AllOfThree (SendsInTime sink.taken ask.frames ask.table ran.course) ask.sinks report.sinks.items report.groups.items
