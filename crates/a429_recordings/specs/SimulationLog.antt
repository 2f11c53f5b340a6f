-- Logs of words as a simulation takes them: words at receivers of a station (profile: simulation log).
use Rattle.std.specs.Prelude.{◌≡◌, ◌+◌, ◌<◌, ◌≤◌, ℕ, List, Option, Some, None, Result, Ok, MatchResult, if◌then◌else◌, nat_lt, option_map, slice_get}
use Rattle.std.specs.declared.vec.Vec.{Vec}
use Rattle.std.specs.declared.alloc.Global.{Global}
use Rattle.a429_logs.specs.LogRows.{Stated}
use Rattle.a429_logs.specs.declared.reading.Reading.{Reading}
use Rattle.a429_console.specs.Names.{Naming, number_named}
use Rattle.a429_console.specs.RefusalText.{OrMemory}
use Rattle.a429_console.specs.declared.refusals.CommandRefusal.{CommandRefusal}
use Rattle.a429_recordings.specs.LogItems.{IsItemFault, items_of}
use Rattle.a429_recordings.specs.LogViews.{View, one_item, viewed}
use Rattle.a429_recordings.specs.declared.simulate.log.LogWord.{LogWord}

-- a word at the receiver of this name; its time is below 10^14 microseconds
unfoldable pub word_for : Naming → Stated → Option LogWord
word_for names w =
    if nat_lt w.time 100000000000000 then option_map (λ r. record { time = w.time; receiver = r; raw = w.raw }) (number_named names.receivers w.name)
    else None

-- the same, of a word as it is taken
abbrev pub log_word_by : Naming → View → Stated → Option (List LogWord)
log_word_by names view = viewed view (one_item (word_for names))

-- the words of logs in order, as they are taken, or the number of the first faulty line, from 1
unfoldable pub log_words : Naming → View → Reading → List (List ℕ) → Result (List LogWord) ℕ
log_words names view reading texts = items_of (log_word_by names view) reading texts

-- the number is that of the first faulty line
abbrev pub IsLogFault : Naming → View → Reading → List (List ℕ) → CommandRefusal → Type 0
IsLogFault names view reading texts refusal = IsItemFault (log_word_by names view) reading texts refusal

-- what reading logs gives: their words, or the number of the first faulty line
abbrev pub IsLogReading : Naming → View → Reading → List (List ℕ) → Result (Vec LogWord Global) CommandRefusal → Type 0
IsLogReading names view reading texts result =
    MatchResult result (λ words. log_words names view reading texts ≡ Ok words.items) (OrMemory (IsLogFault names view reading texts))

-- no word comes in before the one above it, and each time has at most fourteen digits
pub record AreInTime (words : List LogWord) : Type 0 where
  pub in_order : (i : ℕ) (w v : LogWord) → slice_get words i ≡ Some w → slice_get words (i + 1) ≡ Some v → w.time ≤ v.time
  pub few : (i : ℕ) (w : LogWord) → slice_get words i ≡ Some w → w.time < 100000000000000
