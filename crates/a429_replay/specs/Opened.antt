-- A station that is open for a script, and what a replay makes of the bytes that it was given (vocabulary of contracts).
use Rattle.std.specs.Prelude.{◌≡◌, ◌∷◌, [], ℕ, List, Option, Some, Result, MatchResult, length}
use Rattle.std.specs.declared.vec.Vec.{Vec}
use Rattle.std.specs.declared.alloc.Global.{Global}
use Rattle.a429_equipment.specs.Limits.{count_bits}
use Rattle.a429_slots.specs.Proposed.{Proposed}
use Rattle.a429_core.specs.MachineStates.{MachineState, StandsForHistory}
use Rattle.a429_console.specs.FileReadings.{AreRead, IsFirstUnread}
use Rattle.a429_console.specs.Names.{naming_of}
use Rattle.a429_console.specs.Outputs.{IsPut}
use Rattle.a429_console.specs.RefusalText.{OrMemory}
use Rattle.a429_replay.specs.Kept.{TakesAllTables, events_of}
use Rattle.a429_replay.specs.Views.{AskedView, heading, view_of}
use Rattle.a429_replay.specs.Replaying.{IsInput, IsInputUnread, IsOutcome, IsStart, ReplayInput}
use Rattle.a429_given.specs.GivenPlans.{IsGivenPlan}
use Rattle.a429_given.specs.GivenTables.{TableTexts, table_names, table_texts}
use Rattle.a429_given.specs.declared.tables.TableNames.{TableNames}
use Rattle.a429_console.specs.declared.refusals.CommandRefusal.{CommandRefusal}
use Rattle.a429_console.specs.declared.refusals.CommandRefusal.TheVariants as refused
use Rattle.a429_replay.specs.declared.replay.Input.{Input}
use Rattle.a429_replay.specs.declared.replay.PreparedReplay.{PreparedReplay}
use Rattle.a429_replay.specs.declared.station.ReplayStation.{ReplayStation}

-- it has the names and the equipment of the proposed station, and nothing happened to it since it was opened at slot 0
abbrev pub IsOpened : Proposed → ReplayStation → Type 0
IsOpened q s = (s.names ≡ naming_of q.station) × StandsForHistory count_bits (record { proposal = q; first = 0 }) [] s.state × (s.equipment ≡ q.station)

-- the machine of a proposal, to which nothing has happened, or that an allocation failed
abbrev pub OpensMachine : Proposed → Result MachineState CommandRefusal → Type 0
OpensMachine q result = MatchResult result (StandsForHistory count_bits (record { proposal = q; first = 0 }) []) (λ e. e ≡ refused.Memory)

-- the station of a proposal, just opened, or that an allocation failed
abbrev pub OpensStation : Proposed → Result ReplayStation CommandRefusal → Type 0
OpensStation q result = MatchResult result (IsOpened q) (λ e. e ≡ refused.Memory)

-- the station of a table, just opened
abbrev pub IsOpenedFrom : TableTexts → ReplayStation → Type 0
IsOpenedFrom table s = (q : Proposed) × IsGivenPlan table q × IsOpened q s

abbrev pub input_of : Input → ReplayInput
input_of i = record { table = table_texts i.table; script = i.script.items; further = i.further.items }

-- what reading tables of these names gives: their bytes, or the first that cannot be read
abbrev pub AreTablesRead : (List ℕ → Option (List ℕ)) → List (List ℕ) → Result (Vec (List ℕ) Global) CommandRefusal → Type 0
AreTablesRead file names result = MatchResult result (λ tables. AreRead file names tables.items) (OrMemory (IsFirstUnread file names))

-- what reading the files of these names gives: their bytes, or the first that cannot be read
abbrev pub IsInputReading : (List ℕ → Option (List ℕ)) → TableNames → List ℕ → List (List ℕ) → Result Input CommandRefusal → Type 0
IsInputReading file table script further result =
    MatchResult result (λ i. IsInput file (table_names table) script further (input_of i)) (OrMemory (IsInputUnread file (table_names table) script further))

-- the station, just opened, from which a replay of these bytes starts, what is printed of it, and the events of the script, which has no faulty line
pub record IsPrepared (i : ReplayInput) (asked : AskedView) (p : PreparedReplay) (q : Proposed) : Type 0 where
  pub view : view_of (naming_of q.station) asked ≡ Some p.view
  pub start : IsStart i q (events_of p.events.items)
  pub opened : IsOpened q p.station
  pub lines : p.lines.text.items ≡ heading p.view

abbrev pub IsPreparedFor : ReplayInput → AskedView → PreparedReplay → Type 0
IsPreparedFor i asked p = (q : Proposed) × IsPrepared i asked p q × TakesAllTables (length i.further) p.events.items

-- of a station just opened, with the lines before the answers: the outcome of the events was put
abbrev pub IsOutcomePut : ReplayInput → PreparedReplay → Option (List ℕ) → Option (List ℕ) → ℕ → Type 0
IsOutcomePut i p old new status =
    (q : Proposed) → IsStart i q (events_of p.events.items) → IsOpened q p.station → p.lines.text.items ≡ heading p.view
    → IsPut (IsOutcome i p.view q (events_of p.events.items)) old new status
