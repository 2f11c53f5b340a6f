-- What a call from C is answered, and what it leaves (profile: docs/C.md, The calls). Each call has an outcome: what it gives, or the status by
-- which it is refused.
use Rattle.std.specs.Prelude.{◌++◌, ℕ, List, Option, Some, None, Result, Ok, Err, if◌then◌else◌, nat_le, length, take, drop, option_and_then, option_map, slice_get}
use Rattle.std.specs.Option.{option_map_or}
use Rattle.a429_equipment.specs.Limits.{count_bits}
use Rattle.a429_slots.specs.Tables.{SlotTable}
use Rattle.a429_slots.specs.declared.answers.Answer.{Answer}
use Rattle.a429_slots.specs.declared.answers.Answer.TheVariants.{Accepted, Sent, Changed, Published, Refused}
use Rattle.a429_core.specs.MachineStates.{MachineState}
use Rattle.a429_core.specs.MachineSteps.{arrived}
use Rattle.a429_console.specs.Names.{Naming, number_named}
use Rattle.a429_c.specs.SlotTables.{place_in}
use Rattle.a429_c.specs.Stations.{Held}
use Rattle.a429_c.specs.Statuses.{code_of, line_of, status_for}
use Rattle.a429_c.specs.declared.statuses.Status.{Status}
use Rattle.a429_c.specs.declared.statuses.Status.TheVariants.{NoSuch, Closed, NoRoom}
use Rattle.a429_c.specs.declared.answers.CellAnswer.{CellAnswer}
use Rattle.a429_c.specs.declared.answers.PlaceAnswer.{PlaceAnswer}
use Rattle.a429_c.specs.declared.refusal_text.RefusalText.{RefusalText}

-- ---- what a call gives back

-- the text of the last refusal, of which 92 bytes are kept
abbrev pub text_in : RefusalText → List ℕ
text_in t = take t.length t.text

abbrev pub kept_text : List ℕ → List ℕ
kept_text line = take 92 line

-- why a call is refused
abbrev pub refusal_of : {X : Type 0} → Result X Status → Option Status
refusal_of (Ok x) = None
refusal_of (Err status) = Some status

-- the number of its status; 0 if it is not refused
abbrev pub status_in : Option Status → ℕ
status_in refused = option_map_or code_of refused 0

abbrev pub status_of : {X : Type 0} → Result X Status → ℕ
status_of outcome = status_in (refusal_of outcome)

-- the text of the last refusal after it
abbrev pub text_by : Option Status → List ℕ → List ℕ
text_by refused before = option_map_or (λ status. kept_text (line_of status)) refused before

abbrev pub text_after : {X : Type 0} → Result X Status → List ℕ → List ℕ
text_after outcome before = text_by (refusal_of outcome) before

-- what the caller's place holds after it: what the call gives, or what was there
abbrev pub given_or : {X : Type 0} → Result X Status → X → X
given_or (Ok x) before = x
given_or (Err status) before = before

-- ---- the machine's calls

-- the source for which a word is accepted; no arrival is answered otherwise
abbrev pub source_of : Answer → Result ℕ Status
source_of (Accepted source) = Ok source
source_of (Refused why) = Err (status_for why)
source_of _ = Err NoSuch

-- the cell that is sent, of which no word is 0; no cell is answered otherwise
abbrev pub cell_of : Answer → Result CellAnswer Status
cell_of (Sent bus slot (Some word)) = Ok (record { slot = slot; bus = bus; filled = 1; word = word })
cell_of (Sent bus slot None) = Ok (record { slot = slot; bus = bus; filled = 0; word = 0 })
cell_of (Refused why) = Err (status_for why)
cell_of _ = Err NoSuch

-- the number of a plan; a frame and a publication have only such answers
abbrev pub plan_of : Answer → Result ℕ Status
plan_of (Changed plan) = Ok plan
plan_of (Published plan) = Ok plan
plan_of (Refused why) = Err (status_for why)
plan_of _ = Err NoSuch

-- a raw word comes in at a receiver of a station that counts words as the program does
abbrev pub arrival_step : ℕ → ℕ → MachineState → Answer × MachineState
arrival_step receiver raw s = arrived count_bits s receiver raw

-- a step of the machine on the station that is held: what the call gives
abbrev pub asked : {X : Type 0} → (Answer → Result X Status) → (MachineState → Answer × MachineState) → Option Held → Result X Status
asked read step None = Err Closed
asked read step (Some m) = read (step m.state).0

abbrev pub with_state : Held → MachineState → Held
with_state m s = record m { state = s }

-- and the station after it
abbrev pub moved : (MachineState → Answer × MachineState) → Option Held → Option Held
moved step held = option_map (λ m. with_state m (step m.state).1) held

-- ---- names and numbers

abbrev pub or_no_such : {X : Type 0} → Option X → Result X Status
or_no_such None = Err NoSuch
or_no_such (Some x) = Ok x

-- the number of the first of these names that is this one
abbrev pub numbered : (Naming → List (List ℕ)) → List ℕ → Option Held → Result ℕ Status
numbered names name None = Err Closed
numbered names name (Some m) = or_no_such (number_named (names m.names) name)

-- a text that a room of this many bytes has to hold
abbrev pub fitting : ℕ → List ℕ → Result (List ℕ) Status
fitting room text = if nat_le (length text) room then Ok text else Err NoRoom

abbrev pub name_in : ℕ → Option (List ℕ) → Result (List ℕ) Status
name_in room None = Err NoSuch
name_in room (Some name) = fitting room name

-- the name of a number
abbrev pub named : (Naming → List (List ℕ)) → ℕ → ℕ → Option Held → Result (List ℕ) Status
named names number room None = Err Closed
named names number room (Some m) = name_in room (slice_get (names m.names) number)

-- the room with the text at its start, and the text's length
abbrev pub room_after : Result (List ℕ) Status → List ℕ → List ℕ
room_after (Ok text) before = text ++ drop (length text) before
room_after (Err status) before = before

abbrev pub length_or : Result (List ℕ) Status → ℕ → ℕ
length_or (Ok text) before = length text
length_or (Err status) before = before

-- ---- sizes and places

-- how many of a kind the station has
abbrev pub counted : (Naming → List (List ℕ)) → Option Held → Result ℕ Status
counted names None = Err Closed
counted names (Some m) = Ok (length (names m.names))

-- a size of the slot table that is in force for a group
abbrev pub sized : (SlotTable → ℕ) → ℕ → Option Held → Result ℕ Status
sized size group None = Err Closed
sized size group (Some m) = or_no_such (option_map (λ s. size s.table) (slice_get m.state.groups group))

-- the place of an output by the slot table that is in force for its group
abbrev pub placed : ℕ → ℕ → Option Held → Result PlaceAnswer Status
placed group output None = Err Closed
placed group output (Some m) = or_no_such (option_and_then (λ s. place_in s.table output) (slice_get m.state.groups group))
