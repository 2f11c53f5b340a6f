-- Files of words: one word a line, `RECEIVER HEX` (profile: words file). They are read with the names of the station.
use Rattle.std.specs.Prelude.{◌≡◌, ◌==◌, ℕ, List, Option, Some, None, Result, MatchResult, Ok, Err, filter_map, if◌then◌else◌, option_and_then}
use Rattle.std.specs.declared.vec.Vec.{Vec}
use Rattle.std.specs.declared.alloc.Global.{Global}
use Rattle.a429_word.specs.Hexadecimal.{raw_word}
use Rattle.a429_console.specs.Names.{Naming, number_named}
use Rattle.a429_console.specs.RefusalText.{OrMemory}
use Rattle.a429_text.specs.CutText.{cut}
use Rattle.a429_console.specs.Lines.{entries_of}
use Rattle.a429_live.specs.declared.words.Arrival.{Arrival}
use Rattle.a429_console.specs.declared.refusals.CommandRefusal.{CommandRefusal}
use Rattle.a429_console.specs.declared.refusals.CommandRefusal.TheVariants as refused

abbrev pub arrival : Option ℕ → Option ℕ → Option Arrival
arrival (Some receiver) (Some raw) = Some (record { receiver = receiver; raw = raw })
arrival _ _ = None

-- of a receiver's name, a space and a number
unfoldable pub line_arrival : Naming → List ℕ → Option Arrival
line_arrival names line = option_and_then (λ p. arrival (number_named names.receivers p.0) (raw_word p.1)) (cut 32 line)

-- the words of a file, or the number of its first faulty line, from 1
abbrev pub arrivals_of : Naming → List ℕ → Result (List Arrival) ℕ
arrivals_of names text = entries_of (line_arrival names) text

-- the number is that of the file's first faulty line
abbrev pub IsWordsFault : Naming → List ℕ → CommandRefusal → Type 0
IsWordsFault names text (refused.Script n) = arrivals_of names text ≡ Err n
IsWordsFault names text _ = ⊥

-- what reading a file of words gives: its words, or the number of its first faulty line
abbrev pub IsWordsReading : Naming → List ℕ → Result (Vec Arrival Global) CommandRefusal → Type 0
IsWordsReading names text result = MatchResult result (λ arrivals. arrivals_of names text ≡ Ok arrivals.items) (OrMemory (IsWordsFault names text))

-- the raw word, if it is for this receiver
abbrev pub raw_for : ℕ → Arrival → Option ℕ
raw_for r a = if a.receiver == r then Some a.raw else None

-- the words for one receiver, in order
abbrev pub words_for : List Arrival → ℕ → List ℕ
words_for arrivals r = filter_map (raw_for r) arrivals
