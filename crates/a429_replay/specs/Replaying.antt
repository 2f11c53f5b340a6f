-- The command `replay`: what it writes, and its status (profile: docs/FORMATS.md, Output of `replay`).
use Rattle.std.specs.Prelude.{◌≡◌, ◌∷◌, [], ◌++◌, ◌⊎◌, ℕ, List, Option, Some, Ok, Result, take, length}
use Rattle.std.specs.Borrow.{Bor}
use Rattle.a429_slots.specs.Events.{Event}
use Rattle.a429_slots.specs.Proposed.{Proposed}
use Rattle.a429_console.specs.Outputs.{memory_refused}
use Rattle.a429_console.specs.Names.{naming_of}
use Rattle.a429_console.specs.FileReadings.{AreRead, IsFirstUnread}
use Rattle.a429_arguments.specs.Texts.{texts_of}
use Rattle.a429_console.specs.Replying.{HasReplied}
use Rattle.a429_console.specs.declared.files.FileFault.{FileFault}
use Rattle.a429_console.specs.declared.output.OutputFault.{OutputFault}
use Rattle.a429_given.specs.GivenPlans.{IsGivenPlan, IsNoGivenPlan, TakesAll}
use Rattle.a429_given.specs.GivenTables.{IsTableRead, IsTableUnread, TableTexts, table_names}
use Rattle.a429_given.specs.declared.tables.TableNames.{TableNames}
use Rattle.a429_replay.specs.Script.{script_events, IsScriptFault}
use Rattle.a429_replay.specs.Playing.{Played}
use Rattle.a429_replay.specs.Views.{AskedView, IsNoGroup, asked_view, heading, view_of}
use Rattle.a429_console.specs.RefusalText.{OrMemory, refusal_line}
use Rattle.a429_console.specs.declared.refusals.CommandRefusal.{CommandRefusal}
use Rattle.a429_replay.specs.declared.script.ScriptEvent.{ScriptEvent}
use Rattle.a429_replay.specs.declared.views.ReplayForm.{ReplayForm}
use Rattle.a429_replay.specs.declared.views.View.{View}

-- the bytes of the files that a replay reads
pub record ReplayInput : Type 0 where
  pub table : TableTexts
  pub script : List ℕ
  pub further : List (List ℕ)

-- they are those of the files of these names, which are all read before any is looked at
abbrev pub IsInput : (List ℕ → Option (List ℕ)) → TableTexts → List ℕ → List (List ℕ) → ReplayInput → Type 0
IsInput file table script further i = IsTableRead file table i.table × AreRead file (script ∷ further) (i.script ∷ i.further)

-- of these files the first that cannot be read
abbrev pub IsInputUnread : (List ℕ → Option (List ℕ)) → TableTexts → List ℕ → List (List ℕ) → CommandRefusal → Type 0
IsInputUnread file table script further refusal =
    IsTableUnread file table refusal ⊎ ((i : TableTexts) × IsTableRead file table i × IsFirstUnread file (script ∷ further) refusal)

-- the station of the first of these files takes the plans of the further ones
abbrev pub TakesFurther : (List ℕ → Option (List ℕ)) → TableTexts → List ℕ → List (List ℕ) → Type 0
TakesFurther file table script further = (i : ReplayInput) → IsInput file table script further i → TakesAll i.table i.further

-- the table has a plan, at whose slot 0 the station opens, and the script these events
pub record IsStart (i : ReplayInput) (q : Proposed) (events : List ScriptEvent) : Type 0 where
  pub proposed : IsGivenPlan i.table q
  pub events_are : script_events (naming_of q.station) (length i.further) i.script ≡ Ok events

-- of a table with a plan: no group has the name that is asked for, or, if one has, the script has a fault
abbrev pub IsScriptRefusal : ReplayInput → AskedView → CommandRefusal → Type 0
IsScriptRefusal i asked refusal =
    (q : Proposed) × IsGivenPlan i.table q
    × (IsNoGroup (naming_of q.station) asked refusal
    ⊎ ((v : View) × (view_of (naming_of q.station) asked ≡ Some v) × IsScriptFault (naming_of q.station) (length i.further) i.script refusal))

-- why a replay of these bytes does not begin: the table or its plan, the group, or the script
abbrev pub IsNoStart : ReplayInput → AskedView → CommandRefusal → Type 0
IsNoStart i asked refusal = IsNoGivenPlan i.table refusal ⊎ IsScriptRefusal i asked refusal

-- why a replay does not begin: a file, or the bytes
abbrev pub IsReplayRefusal : (List ℕ → Option (List ℕ)) → AskedView → TableTexts → List ℕ → List (List ℕ) → CommandRefusal → Type 0
IsReplayRefusal file asked table script further refusal =
    IsInputUnread file table script further refusal
    ⊎ ((i : ReplayInput) × IsInput file table script further i × IsNoStart i asked refusal)

-- from the opening these of the script's events happened, and these bytes were printed: the heading, if there is one, and the answers
abbrev pub IsPlayed : ReplayInput → View → Proposed → List ScriptEvent → List ℕ → Type 0
IsPlayed i v q events bytes =
    (E : List Event) × (answers : List ℕ) × Played (record { proposal = q; first = 0 }) v (naming_of q.station) i.further [] events E answers × (bytes ≡ heading v ++ answers)

-- what a replay that began writes, and its status: the lines of all events, or those of some and then that an allocation failed
abbrev pub IsOutcome : ReplayInput → View → Proposed → List ScriptEvent → ℕ → List ℕ → Type 0
IsOutcome i v q events status bytes =
    (IsPlayed i v q events bytes × (status ≡ 0))
    ⊎ ((n : ℕ) × (lines : List ℕ) × IsPlayed i v q (take n events) lines × (status ≡ 1) × (bytes ≡ lines ++ memory_refused ++ 10 ∷ []))

-- the replay of these bytes, of which this is printed, from its beginning to its outcome
abbrev pub HasOutcome : ReplayInput → AskedView → ℕ → List ℕ → Type 0
HasOutcome i asked status bytes =
    (q : Proposed) × (v : View) × (events : List ScriptEvent) × (view_of (naming_of q.station) asked ≡ Some v) × IsStart i q events × IsOutcome i v q events status bytes

-- what a replay writes, and its status: the line of a refusal, or its outcome
abbrev pub IsReplay : (List ℕ → Option (List ℕ)) → AskedView → TableTexts → List ℕ → List (List ℕ) → ℕ → List ℕ → Type 0
IsReplay file asked table script further status bytes =
    ((refusal : CommandRefusal) × OrMemory (IsReplayRefusal file asked table script further) refusal × (status ≡ 1) × (bytes ≡ refusal_line refusal ++ 10 ∷ []))
    ⊎ ((i : ReplayInput) × IsInput file table script further i × HasOutcome i asked status bytes)

-- what `replay` answers of the files of a reader: the files are those that give what the reader answered in the call
abbrev pub HasReplayed : {S X : Type 0} → (S → List ℕ → Result (List ℕ) FileFault → S → Type 0) → (X → Option (List ℕ)) → ReplayForm → TableNames → List ℕ → List (Bor (List ℕ)) → S → S → X → X → Result ℕ OutputFault → Type 0
HasReplayed Answers contents form table script further = HasReplied Answers contents (λ file. IsReplay file (asked_view form) (table_names table) script (texts_of further))
