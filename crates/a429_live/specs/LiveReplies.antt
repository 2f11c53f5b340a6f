-- The command `live`: what it writes, and its status (profile: output).
use Rattle.std.specs.Prelude.{◌≡◌, ◌≤◌, ◌<◌, ◌+◌, ◌^◌, slice_get, sum_by, zero, suc, ◌∷◌, [], ◌++◌, ◌⊎◌, ⊤, ℕ, List, true, false, Option, Some, Ok, OnOk, Result, MatchResult, codes, length}
use Rattle.std.specs.List.{AllByRecursion, concat}
use Rattle.std.specs.Fmt.{decimal}
use Rattle.a429_equipment.specs.TableRecord.{TableRecord}
use Rattle.a429_equipment.specs.SameStation.{same_station}
use Rattle.a429_equipment.specs.declared.rows.ReceiverRow.{ReceiverRow}
use Rattle.a429_equipment.specs.declared.rows.GroupRow.{GroupRow}
use Rattle.a429_slots.specs.Planned.{IsPlanOf}
use Rattle.a429_slots.specs.Proposed.{Proposed}
use Rattle.a429_slots.specs.Tables.{SlotTable, PlanTable, cells_of, groups_of}
use Rattle.a429_values.specs.Ends as ends
use Rattle.a429_workers.specs.Receives as receives
use Rattle.a429_workers.specs.Receives.{answers_to}
use Rattle.a429_workers.specs.declared.receiving.ReceiveTotals.{ReceiveTotals}
use Rattle.a429_workers.specs.declared.sending.SendTotals.{SendTotals}
use Rattle.a429_console.specs.Files.{bytes_of}
use Rattle.a429_console.specs.FileReadings.{AreRead, IsFirstUnread}
use Rattle.a429_arguments.specs.Requests.{AskedBytes}
use Rattle.a429_console.specs.Names.{naming_of}
use Rattle.a429_console.specs.RefusalText.{OrMemory, refusal_line}
use Rattle.a429_console.specs.Tables.{IsProposedBy, IsTableRefusal}
use Rattle.a429_console.specs.WholeReplies.{IsDone, IsReplyBy, Replies}
use Rattle.a429_given.specs.GivenPlans.{IsGivenPlan, IsNoGivenPlan, TakesAll}
use Rattle.a429_given.specs.GivenTables.{IsTableRead, IsTableUnread, TableTexts, named_table, table_texts}
use Rattle.a429_station.specs.Course.{fresh}
use Rattle.a429_station.specs.Numbered.{AllNumbered}
use Rattle.a429_station.specs.Resubmitting.{Running}
use Rattle.a429_station.specs.declared.faults.LiveFault.{LiveFault}
use Rattle.a429_station.specs.declared.faults.LiveFault.TheVariants as live
use Rattle.a429_live.specs.WordsFile.{IsWordsFault, arrivals_of, words_for}
use Rattle.a429_live.specs.declared.running.LiveInput.{LiveInput}
use Rattle.a429_live.specs.declared.running.PreparedRun.{PreparedRun}
use Rattle.a429_live.specs.declared.words.Arrival.{Arrival}
use Rattle.a429_console.specs.declared.refusals.CommandRefusal.{CommandRefusal}
use Rattle.a429_console.specs.declared.refusals.CommandRefusal.TheVariants as refused
use Rattle.a429_console.specs.declared.reply.Reply.{Reply}

-- ---- before the run

-- the bytes of the files that a run reads
pub record LiveFiles : Type 0 where
  pub table : TableTexts
  pub words : List ℕ
  pub further : List (List ℕ)

-- they are those of the files that are asked for, which are all read before any is looked at
abbrev pub AreLiveFiles : (List ℕ → Option (List ℕ)) → AskedBytes → LiveFiles → Type 0
AreLiveFiles file r i = IsTableRead file (named_table r) i.table × AreRead file (r.second ∷ r.more) (i.words ∷ i.further)

-- of these files the first that cannot be read
abbrev pub IsLiveUnread : (List ℕ → Option (List ℕ)) → AskedBytes → CommandRefusal → Type 0
IsLiveUnread file r refusal =
    IsTableUnread file (named_table r) refusal ⊎ ((i : TableTexts) × IsTableRead file (named_table r) i × IsFirstUnread file (r.second ∷ r.more) refusal)

-- the station of the table takes the plans of the further ones
abbrev pub TakesLive : (List ℕ → Option (List ℕ)) → AskedBytes → Type 0
TakesLive file r = (i : LiveFiles) → AreLiveFiles file r i → TakesAll i.table i.further

-- the table has a plan, and the file of words these
pub record IsLiveStart (i : LiveFiles) (q : Proposed) (arrivals : List Arrival) : Type 0 where
  pub proposed : IsGivenPlan i.table q
  pub arrivals_are : arrivals_of (naming_of q.station) i.words ≡ Ok arrivals

-- of a table with a plan, the file of words has a fault
abbrev pub IsWordsRefusal : LiveFiles → CommandRefusal → Type 0
IsWordsRefusal i refusal = (q : Proposed) × IsGivenPlan i.table q × IsWordsFault (naming_of q.station) i.words refusal

-- why a run of these bytes does not begin: the table or its plan, or the words
abbrev pub IsNoLiveStart : LiveFiles → CommandRefusal → Type 0
IsNoLiveStart i refusal = IsNoGivenPlan i.table refusal ⊎ IsWordsRefusal i refusal

-- a receiver of the station gets more than a million words
abbrev pub HasTooMuch : TableRecord → List Arrival → Type 0
HasTooMuch t arrivals = (r : ℕ) × (r < length t.receivers) × (1000000 < length (words_for arrivals r))

-- Why a run of the station with these words for this number of frames failed: a thread could not be started or joined; or more
-- than a million frames were asked for, or a receiver gets more than a million words. Lines in memory, sinks that count and a gate that is always
-- open have no fault, so no refusal is for one.
abbrev pub IsRunRefusal : TableRecord → List Arrival → ℕ → CommandRefusal → Type 0
IsRunRefusal t arrivals frames refused.Join = frames ≤ 1000000
IsRunRefusal t arrivals frames refused.TooMuch = (1000000 < frames) ⊎ HasTooMuch t arrivals
IsRunRefusal t arrivals frames _ = ⊥

-- from these bytes a run began, and failed
abbrev pub IsLiveRunFault : LiveFiles → ℕ → CommandRefusal → Type 0
IsLiveRunFault i frames refusal = (q : Proposed) × (arrivals : List Arrival) × IsLiveStart i q arrivals × IsRunRefusal q.station arrivals frames refusal

-- the refusal for a fault of a run; its plan was made before, so if it cannot be made again an allocation failed
abbrev pub refusal_of : LiveFault → CommandRefusal
refusal_of (live.Plan why) = refused.Memory
refusal_of live.TooMuch = refused.TooMuch
refusal_of live.Join = refused.Join
refusal_of live.Source = refused.Source
refusal_of live.Gate = refused.Gate
refusal_of live.Sink = refused.Sink
refusal_of live.NoMemory = refused.Memory

-- why there is no report, the first that is true: a file, the bytes, or the run
abbrev pub IsLiveRefusal : (List ℕ → Option (List ℕ)) → AskedBytes → CommandRefusal → Type 0
IsLiveRefusal file r refusal =
    IsLiveUnread file r refusal
    ⊎ ((i : LiveFiles) × AreLiveFiles file r i × (IsNoLiveStart i refusal ⊎ IsLiveRunFault i r.number refusal))

-- ---- the report

-- the words that a receiver refused for another reason than parity
abbrev pub refused_words : ReceiveTotals → List ℕ
refused_words t = codes " filtered " ++ decimal t.filtered ++ codes " no-source " ++ decimal t.no_source ++ codes " spent " ++ decimal t.spent ++ 10 ∷ []

-- the line of a receiver
abbrev pub receiver_line : List ℕ → ReceiveTotals → List ℕ
receiver_line name t = codes "receiver " ++ name ++ codes " accepted " ++ decimal t.accepted ++ codes " parity " ++ decimal t.parity ++ refused_words t

-- those of several, in order
abbrev pub receiver_lines : List ReceiverRow → List ReceiveTotals → List ℕ
receiver_lines (row ∷ rows) (t ∷ totals) = receiver_line row.name t ++ receiver_lines rows totals
receiver_lines _ _ = []

-- the line of a group
abbrev pub group_line : List ℕ → SendTotals → List ℕ
group_line name t = codes "group " ++ name ++ codes " cells " ++ decimal t.cells ++ 10 ∷ []

-- those of several, in order
abbrev pub group_lines : List GroupRow → List SendTotals → List ℕ
group_lines (row ∷ rows) (t ∷ totals) = group_line row.name t ++ group_lines rows totals
group_lines _ _ = []

-- one line for each receiver of a station, and then one for each group, in table order
abbrev pub total_lines : TableRecord → List ReceiveTotals → List SendTotals → List ℕ
total_lines t totals sent = receiver_lines t.receivers totals ++ group_lines t.groups sent

-- The line of a further table that is submitted again to a station for which n plans were published, and how many there are then: its own refusal or
-- that of its plan; that it is of another station; or the number under which its plan is published.
abbrev pub IsResubmitLine : TableRecord → ℕ → List ℕ → ℕ → List ℕ → Type 0
IsResubmitLine t n table m line =
    ((refusal : CommandRefusal) × IsTableRefusal table refusal × (line ≡ refusal_line refusal ++ 10 ∷ []) × (m ≡ n))
    ⊎ (((q : Proposed) × IsProposedBy table q × (same_station t q.station ≡ false) × (line ≡ codes "refused station-differs" ++ 10 ∷ []) × (m ≡ n))
    ⊎ ((q : Proposed) × IsProposedBy table q × (same_station t q.station ≡ true) × (line ≡ codes "published " ++ decimal m ++ 10 ∷ []) × (m ≡ n + 1)))

-- those of several, one after another
abbrev pub AreResubmitLines : TableRecord → ℕ → List (List ℕ) → List (List ℕ) → Type 0
AreResubmitLines t n [] [] = ⊤
AreResubmitLines t n (table ∷ tables) (line ∷ lines) = (m : ℕ) × IsResubmitLine t n table m line × AreResubmitLines t m tables lines
AreResubmitLines t n _ _ = ⊥

-- one line for each further table, then those of the station's receivers and groups
abbrev pub IsReport : TableRecord → List (List ℕ) → List ReceiveTotals → List SendTotals → List ℕ → Type 0
IsReport t further totals sent bytes =
    (lines : List (List ℕ)) × AreResubmitLines t 0 further lines × (bytes ≡ concat lines ++ total_lines t totals sent)

-- The totals count what receiver r of the station, which had accepted nothing, answers to the words of the file that are for it, in order. There are at
-- most a million of these.
abbrev pub IsHeard : TableRecord → List Arrival → ℕ → ReceiveTotals → Type 0
IsHeard t arrivals r totals =
    (hub : ends.Place) × (hub.station ≡ t) × (totals ≡ receives.totals_of (answers_to (fresh hub r) (words_for arrivals r))) × (length (words_for arrivals r) ≤ 1000000)

-- one of these tables is of the station, and this is the slot table of group g by its plan
abbrev pub HasTableOf : TableRecord → ℕ → SlotTable → List (List ℕ) → Type 0
HasTableOf t g p [] = ⊥
HasTableOf t g p (table ∷ tables) =
    ((q : Proposed) × IsProposedBy table q × (same_station t q.station ≡ true) × (slice_get (groups_of q.plan) g ≡ Some p)) ⊎ HasTableOf t g p tables

-- the slot table of group g by the plan of the station, or by that of a further table
abbrev pub IsSlotTableOf : TableRecord → PlanTable → List (List ℕ) → ℕ → SlotTable → Type 0
IsSlotTableOf t plan further g p = (slice_get (groups_of plan) g ≡ Some p) ⊎ HasTableOf t g p further

-- group g sent this number of frames, whole: the first by the plan of the station, each later one by it or by that of a further table
abbrev pub IsSentWhole : TableRecord → PlanTable → List (List ℕ) → ℕ → ℕ → SendTotals → Type 0
IsSentWhole t plan further zero g sent = sent.cells ≡ 0
IsSentWhole t plan further (suc n) g sent =
    (first : SlotTable) × (slice_get (groups_of plan) g ≡ Some first) × (later : List SlotTable) × (length later ≡ n) × AllByRecursion (IsSlotTableOf t plan further g) later
    × (sent.cells ≡ cells_of first + sum_by cells_of later)

-- so did each group
abbrev pub AreSentWhole : TableRecord → ℕ → List (List ℕ) → List SendTotals → Type 0
AreSentWhole t frames further sent = (plan : PlanTable) × IsPlanOf t plan × AllNumbered (IsSentWhole t plan further frames) sent

-- a run of the station with these words for this number of frames, at most a million, with further tables: totals for each receiver and each group
pub record HasLiveRun (t : TableRecord) (arrivals : List Arrival) (frames : ℕ) (further : List (List ℕ)) (totals : List ReceiveTotals) (sent : List SendTotals) : Type 0 where
  pub few : frames ≤ 1000000
  pub heard : AllNumbered (IsHeard t arrivals) totals
  pub receivers : length totals ≡ length t.receivers
  pub groups : length sent ≡ length t.groups
  pub cells : AreSentWhole t frames further sent

-- the report of a run of the station with these words for this number of frames, with further tables
abbrev pub IsRunReport : TableRecord → List Arrival → ℕ → List (List ℕ) → List ℕ → Type 0
IsRunReport t arrivals frames further bytes = (totals : List ReceiveTotals) × (sent : List SendTotals) × HasLiveRun t arrivals frames further totals sent × IsReport t further totals sent bytes

-- the report of a run of the station of the table in the file, with the words of the other
abbrev pub IsReportOf : (List ℕ → Option (List ℕ)) → AskedBytes → List ℕ → Type 0
IsReportOf file r bytes = (i : LiveFiles) × (q : Proposed) × (arrivals : List Arrival) × AreLiveFiles file r i × IsLiveStart i q arrivals × IsRunReport q.station arrivals r.number i.further bytes

-- what is written, and the status: the line of a refusal, or the report
abbrev pub IsLiveReply : (List ℕ → Option (List ℕ)) → AskedBytes → ℕ → List ℕ → Type 0
IsLiveReply file r = IsReplyBy 1 (IsDone (IsReportOf file r)) (IsLiveRefusal file r)

-- ---- by the values of the program

abbrev pub files_of : LiveInput → LiveFiles
files_of i = record { table = table_texts i.table; words = i.words.items; further = bytes_of i.further.items }

-- what reading the files gives: their bytes, or the first that cannot be read
abbrev pub IsLiveReading : (List ℕ → Option (List ℕ)) → AskedBytes → Result LiveInput CommandRefusal → Type 0
IsLiveReading file r result = MatchResult result (λ i. AreLiveFiles file r (files_of i)) (OrMemory (IsLiveUnread file r))

-- a station and its words, from which a run of these bytes starts
abbrev pub IsPreparedLive : LiveFiles → PreparedRun → Type 0
IsPreparedLive i p = IsLiveStart i p.proposal p.arrivals.items

-- after a text comes the line of a table that was submitted again between these two states of a station
abbrev pub IsAppended : Running → Running → List ℕ → List ℕ → List ℕ → Type 0
IsAppended v w table old new = (line : List ℕ) × IsResubmitLine v.station v.planner.last.number table w.planner.last.number line × (new ≡ old ++ line)

-- the same, if the number of the next plan can be counted and no allocation fails
abbrev pub AppendsLine : {A E : Type 0} → Running → Running → List ℕ → List ℕ → List ℕ → Result A E → Type 0
AppendsLine v w table old new result = v.planner.last.number + 1 < 2 ^ 64 → OnOk result (IsAppended v w table old new)

-- after a text come the lines of tables that were submitted again to a station for which no plan was published
abbrev pub AreAppended : TableRecord → List (List ℕ) → List ℕ → List ℕ → Type 0
AreAppended t tables old new = (lines : List (List ℕ)) × AreResubmitLines t 0 tables lines × (new ≡ old ++ concat lines)

-- a report, or why there is none
abbrev pub IsRunResult : TableRecord → List Arrival → ℕ → List (List ℕ) → Result Reply CommandRefusal → Type 0
IsRunResult t arrivals frames further = Replies (IsDone (IsRunReport t arrivals frames further)) (IsRunRefusal t arrivals frames)
