-- The outcome of tables that are submitted again to a running station, one after another (profile: docs/FORMATS.md, Output of `live`).
use Rattle.std.specs.Prelude.{◌≡◌, ◌+◌, ◌^◌, ◌∷◌, [], ℕ, Bool, true, false, List, Ok, IfOk, OnOk, Result}
use Rattle.a429_equipment.specs.TableRecord.{TableRecord}
use Rattle.a429_workers.specs.declared.receiving.ReceiveTotals.{ReceiveTotals}
use Rattle.a429_workers.specs.declared.sending.SendTotals.{SendTotals}
use Rattle.a429_console.specs.declared.refusals.CommandRefusal.{CommandRefusal}
use Rattle.a429_console.specs.declared.reply.Reply.{Reply}
use Rattle.a429_console.specs.Tables.{IsProposedBy, IsTableRefusal}
use Rattle.a429_console.specs.WholeReplies.{IsDone, Replies}
use Rattle.a429_equipment.specs.SameStation.{same_station}
use Rattle.a429_slots.specs.Proposed.{Proposed}
use Rattle.a429_table.specs.Reading.{reading}
use Rattle.a429_station.specs.Resubmitting.{IsReplanFault, Publishes, Running}
use Rattle.a429_station.specs.declared.station.ReplanFault.{ReplanFault}
use Rattle.a429_live.specs.declared.control.SubmitAnswer.{SubmitAnswer}
use Rattle.a429_live.specs.declared.control.SubmitAnswer.TheVariants as answer
use Rattle.a429_live.specs.LiveReplies.{AppendsLine, AreAppended, IsReport}

-- What a table is answered by a station, and the station after it: the number under which its plan is published; or its refusal or that of its plan, that
-- it is of another station, or that no number is left, and then the station is as before.
abbrev pub IsAnswer : Running → List ℕ → SubmitAnswer → Running → Type 0
IsAnswer v table (answer.Published number) w = Publishes v table number w
IsAnswer v table (answer.Refused refusal) w = IsTableRefusal table refusal × (w ≡ v)
IsAnswer v table answer.OtherStation w = ((q : Proposed) × IsProposedBy table q × (same_station v.station q.station ≡ false)) × (w ≡ v)
IsAnswer v table answer.NumbersSpent w = (v.planner.last.number + 1 ≡ 2 ^ 64) × (w ≡ v)

-- a table was refused, or is of another station
abbrev pub is_refused : SubmitAnswer → Bool
is_refused (answer.Refused refusal) = true
is_refused answer.OtherStation = true
is_refused _ = false

-- the answer by the fault of a table of this equipment, to whatever station it is submitted
abbrev pub AnswersFault : {E : Type 0} → TableRecord → ReplanFault → Result SubmitAnswer E → Type 0
AnswersFault t fault result = (v : Running) (table : List ℕ) → reading table ≡ Ok t → IsReplanFault v table fault → IfOk result (λ answer. IsAnswer v table answer v)

-- the line of a table that was answered so is appended to a text, unless an allocation fails
abbrev pub AppendsAnswer : {A E : Type 0} → SubmitAnswer → List ℕ → List ℕ → Result A E → Type 0
AppendsAnswer given old new result = (v w : Running) (table : List ℕ) → IsAnswer v table given w → AppendsLine v w table old new result

-- what several are answered, one after another
abbrev pub AreAnswers : Running → List (List ℕ) → List SubmitAnswer → Running → Type 0
AreAnswers v [] [] w = w ≡ v
AreAnswers v (table ∷ tables) (given ∷ answers) w = (u : Running) × IsAnswer v table given u × AreAnswers u tables answers w
AreAnswers v _ _ w = ⊥

-- after a text come the lines of these tables, which were answered so by a station for which no plan was published, unless an allocation fails
abbrev pub AppendsAll : {A E : Type 0} → List (List ℕ) → List SubmitAnswer → List ℕ → List ℕ → Result A E → Type 0
AppendsAll tables answers old new result =
    (begin end : Running) → begin.planner.last.number ≡ 0 → AreAnswers begin tables answers end → OnOk result (AreAppended begin.station tables old new)

-- the report of a station for which no plan was published before, to which these tables were submitted again and answered so; or an allocation failed
abbrev pub ReportsRun : TableRecord → List (List ℕ) → List SubmitAnswer → List ReceiveTotals → List SendTotals → Result Reply CommandRefusal → Type 0
ReportsRun station tables answers received sent result =
    (begin end : Running) → begin.station ≡ station → begin.planner.last.number ≡ 0 → AreAnswers begin tables answers end
    → Replies (IsDone (IsReport station tables received sent)) (λ why. ⊥) result
