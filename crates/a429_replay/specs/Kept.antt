-- Events of a script as they are kept between reading and play (vocabulary of contracts).
use Rattle.std.specs.Prelude.{[], ◌≡◌, ◌+◌, ◌*◌, ◌^◌, ◌<◌, ◌∷◌, ◌++◌, ⊤, ℕ, List, Some, None, Ok, Err, Result, MatchResult, length, map, slice_index}
use Rattle.std.specs.List.{AllByRecursion}
use Rattle.std.specs.declared.vec.Vec.{Vec}
use Rattle.std.specs.declared.alloc.Global.{Global}
use Rattle.a429_word.specs.Hexadecimal.{raw_word}
use Rattle.a429_console.specs.Lines.{first_entry}
use Rattle.a429_console.specs.Names.{Naming}
use Rattle.a429_console.specs.RefusalText.{OrMemory}
use Rattle.a429_console.specs.declared.files.lines.LinesFault.{LinesFault}
use Rattle.a429_console.specs.declared.files.lines.LinesFault.TheVariants as fault
use Rattle.a429_console.specs.declared.refusals.CommandRefusal.{CommandRefusal}
use Rattle.a429_replay.specs.Playing.{HasTable}
use Rattle.a429_replay.specs.Script.{IsScriptFault, line_event, script_events}
use Rattle.a429_replay.specs.declared.kept.KeptEvent.{KeptEvent}
use Rattle.a429_replay.specs.declared.kept.Verb.{Verb}
use Rattle.a429_replay.specs.declared.kept.Verb.TheVariants as verb
use Rattle.a429_replay.specs.declared.script.ScriptEvent.{ScriptEvent}
use Rattle.a429_replay.specs.declared.script.ScriptEvent.TheVariants.{Arrive, Cell, Frame, Publish}

-- the number of a further table that is published fits 40 bits
abbrev pub IsShortEvent : ScriptEvent → Type 0
IsShortEvent (Publish n) = n < 2 ^ 40
IsShortEvent _ = ⊤

-- the raw word of a kept event, of which the low half comes first
abbrev pub raw_of : KeptEvent → ℕ
raw_of k = k.low + 65536 * k.high

abbrev event_by : Verb → ℕ → ℕ → ScriptEvent
event_by verb.Arrive place raw = Arrive place raw
event_by verb.Cell place raw = Cell place
event_by verb.Frame place raw = Frame place
event_by verb.Publish place raw = Publish (place + 256 * raw)

-- the event that was kept
abbrev pub event_of : KeptEvent → ScriptEvent
event_of k = event_by k.verb k.place (raw_of k)

-- the events that were kept
abbrev pub events_of : List KeptEvent → List ScriptEvent
events_of kept = map event_of kept

-- ---- reading

-- the first four bytes of a text are `cell`
abbrev pub BeginsWithCell : List ℕ → Type 0
BeginsWithCell text = (slice_index text 0 ≡ 99) × (slice_index text 1 ≡ 101) × (slice_index text 2 ≡ 108) × (slice_index text 3 ≡ 108)

-- a text begins with a line that states a raw word, and this is the rest
abbrev pub IsWordLine : List ℕ → ℕ → List ℕ → Type 0
IsWordLine text raw rest = (digits : List ℕ) × (text ≡ digits ++ 10 ∷ rest) × (raw_word digits ≡ Some raw)

-- an event that can be kept, if there is this number of further tables
abbrev pub CanBeKept : ℕ → ScriptEvent → Type 0
CanBeKept further e = HasTable further e × IsShortEvent e

-- the first line of a text states an event that publishes no table, whatever their number, and this rest follows the line
pub record StartsWithEvent (names : Naming) (text : List ℕ) (event : ScriptEvent) (rest : List ℕ) : Type 0 where
  pub states : (further : ℕ) → first_entry (line_event names further) text ≡ Some (event, rest)
  pub kept : (further : ℕ) → CanBeKept further event
  pub shorter : length rest < length text

-- an event is kept after others
pub record IsKeptAfter (before after : List KeptEvent) (event : ScriptEvent) : Type 0 where
  pub kept : KeptEvent
  pub pushed : after ≡ before ++ kept ∷ []
  pub is : event_of kept ≡ event

-- the event of a text's first line is kept after others, and this rest follows the line
pub record KeepsLine (names : Naming) (text : List ℕ) (before after : List KeptEvent) (rest : List ℕ) : Type 0 where
  pub event : ScriptEvent
  pub starts : StartsWithEvent names text event rest
  pub last : IsKeptAfter before after event

-- the same with this number of further tables, which the event may publish
pub record KeepsEntry (names : Naming) (further : ℕ) (text : List ℕ) (before after : List KeptEvent) (rest : List ℕ) : Type 0 where
  pub event : ScriptEvent
  pub states : first_entry (line_event names further) text ≡ Some (event, rest)
  pub table : HasTable further event
  pub shorter : length rest < length text
  pub last : IsKeptAfter before after event

-- the line of this number, which follows these events, is faulty
abbrev pub IsFaultyLine : Naming → ℕ → List ℕ → List KeptEvent → LinesFault → Type 0
IsFaultyLine names further text before e = (n : ℕ) → e ≡ fault.Line n → (n ≡ length before + 1) × (first_entry (line_event names further) text ≡ None)

-- each table that is published is one of this number
abbrev pub TakesAllTables : ℕ → List KeptEvent → Type 0
TakesAllTables further kept = AllByRecursion (λ k. HasTable further (event_of k)) kept

-- these are the events of a script
abbrev pub AreEvents : Naming → ℕ → List ℕ → List KeptEvent → Type 0
AreEvents names further script kept = script_events names further script ≡ Ok (events_of kept)

-- the events of a script, or its first faulty line; memory may be refused
abbrev pub KeepsScript : Naming → ℕ → List ℕ → Result (Vec KeptEvent Global) LinesFault → Type 0
KeepsScript names further script result =
    MatchResult result (λ kept. AreEvents names further script kept.items) (λ e. (n : ℕ) → e ≡ fault.Line n → script_events names further script ≡ Err n)

-- the same as a refusal of a command
abbrev pub ReadsScript : Naming → ℕ → List ℕ → Result (Vec KeptEvent Global) CommandRefusal → Type 0
ReadsScript names further script result =
    MatchResult result (λ kept. AreEvents names further script kept.items) (OrMemory (IsScriptFault names further script))
