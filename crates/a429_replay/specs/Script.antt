-- Scripts: one event a line (profile: replay script). A script is read with the names of its station and the number of further tables.
use Rattle.std.specs.Prelude.{◌≡◌, ◌&&◌, ℕ, List, Option, Some, None, Result, Err, codes, if◌then◌else◌, nat_lt, nat_le, option_map, option_and_then}
use Rattle.std.specs.Str.{bytes_eq}
use Rattle.a429_word.specs.Hexadecimal.{raw_word}
use Rattle.a429_text.specs.CutText.{cut}
use Rattle.a429_console.specs.Lines.{entries_of}
use Rattle.a429_word.specs.Decimal.{decimal_number}
use Rattle.a429_console.specs.Names.{Naming, number_named}
use Rattle.a429_console.specs.declared.refusals.CommandRefusal.{CommandRefusal}
use Rattle.a429_console.specs.declared.refusals.CommandRefusal.TheVariants as refused
use Rattle.a429_replay.specs.declared.script.ScriptEvent.{ScriptEvent}
use Rattle.a429_replay.specs.declared.script.ScriptEvent.TheVariants.{Arrive, Cell, Frame, Publish}

-- ---- the event of a line

abbrev pub arrival : Option ℕ → Option ℕ → Option ScriptEvent
arrival (Some receiver) (Some raw) = Some (Arrive receiver raw)
arrival _ _ = None

-- of a receiver's name, a space and a number
abbrev pub arrive_event : Naming → List ℕ → Option ScriptEvent
arrive_event names words = option_and_then (λ p. arrival (number_named names.receivers p.0) (raw_word p.1)) (cut 32 words)

-- of a number from 1 to that of the further tables
abbrev pub publish_event : ℕ → List ℕ → Option ScriptEvent
publish_event further number = option_and_then (λ n. if nat_lt 0 n && nat_le n further then Some (Publish n) else None) (decimal_number number)

-- of a verb and the rest after the space that follows it
abbrev pub event_by : Naming → ℕ → List ℕ → List ℕ → Option ScriptEvent
event_by names further verb words =
    if bytes_eq verb (codes "arrive") then arrive_event names words
    else (if bytes_eq verb (codes "cell") then option_map Cell (number_named names.groups words)
    else (if bytes_eq verb (codes "frame") then option_map Frame (number_named names.groups words)
    else (if bytes_eq verb (codes "publish") then publish_event further words else None)))

unfoldable pub line_event : Naming → ℕ → List ℕ → Option ScriptEvent
line_event names further line = option_and_then (λ p. event_by names further p.0 p.1) (cut 32 line)

-- ---- the events of a script

-- the events of a script, or the number of its first faulty line, from 1
abbrev pub script_events : Naming → ℕ → List ℕ → Result (List ScriptEvent) ℕ
script_events names further script = entries_of (line_event names further) script

-- the number is that of the script's first faulty line
abbrev pub IsScriptFault : Naming → ℕ → List ℕ → CommandRefusal → Type 0
IsScriptFault names further script (refused.Script n) = script_events names further script ≡ Err n
IsScriptFault names further script _ = ⊥
