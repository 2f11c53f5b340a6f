-- The logs of a box: what came in, and what it sent (profile: log of what was sent).
use Rattle.std.specs.Prelude.{◌≡◌, ◌≤◌, ◌∷◌, ◌⊎◌, [], ⊤, true, MatchResult, ◌==◌, ◌&&◌, ◌+◌, ℕ, List, Bool, length, false, Option, Some, None, Result, Ok, Err, drop, fold, if◌then◌else◌, is_some, nat_le, nat_lt, option_and_then, option_map, position, slice_get, take}
use Rattle.std.specs.Option.{option_map_or}
use Rattle.a429_word.specs.Decimal.{decimal_number}
use Rattle.a429_logs.specs.Calendars.{begun_again}
use Rattle.a429_logs.specs.LogRows.{Stated}
use Rattle.a429_logs.specs.declared.reading.Reading.{Reading}
use Rattle.a429_equipment.specs.Agreement.{last_of}
use Rattle.a429_equipment.specs.Arrivals.{sorted}
use Rattle.a429_equipment.specs.TableRecord.{TableRecord}
use Rattle.a429_equipment.specs.declared.arrivals.ArrivalRefusal.{ArrivalRefusal}
use Rattle.a429_console.specs.Files.{logs_of}
use Rattle.a429_console.specs.Names.{Naming, number_named}
use Rattle.a429_console.specs.declared.refusals.logs.LogRefusal.{LogRefusal}
use Rattle.a429_judge.specs.Recordings.{JudgedLogs, Recording, hear, no_words, send, with_heard, with_sent}
use Rattle.a429_judge.specs.declared.duties.Sent.{Sent}
use Rattle.a429_judge.specs.declared.facts.Mark.{Mark}
use Rattle.a429_console.specs.RefusalText.{OrMemory}
use Rattle.a429_console.specs.declared.refusals.CommandRefusal.{CommandRefusal}
use Rattle.a429_console.specs.declared.refusals.CommandRefusal.TheVariants as refused
use Rattle.a429_recordings.specs.LogItems.{IsItemFault, items_of, reading_behind}
use Rattle.a429_recordings.specs.LogViews.{View, one_item, view_after, viewed}
use Rattle.a429_recordings.specs.declared.judge.words.BoxLog.{BoxLog}
use Rattle.a429_recordings.specs.declared.judge.words.BoxLog.TheVariants as log
use Rattle.a429_recordings.specs.declared.judge.words.BoxPart.{BoxPart}
use Rattle.a429_recordings.specs.declared.judge.words.BoxWord.{BoxWord}
use Rattle.a429_recordings.specs.declared.judge.noting.LogTexts.{LogTexts}
use Rattle.a429_recordings.specs.declared.judge.noting.LogTexts.TheVariants as texts
use Rattle.a429_recordings.specs.declared.judge.noting.NotedLogs.{NotedLogs}
use Rattle.a429_recordings.specs.declared.judge.spans.BoxSpan.{BoxSpan}
use Rattle.a429_recordings.specs.declared.judge.words.Place.{Place}

-- ---- the places of words

-- a bus, by its number in decimal digits; the plan need not have it
abbrev pub bus_named : List ℕ → Option ℕ
bus_named text = option_and_then (λ bus. if nat_lt bus 4294967296 then Some bus else None) (decimal_number text)

-- at this number, on no bus that is known
abbrev pub at_number : ℕ → Place
at_number n = record { number = n; bus = None }

-- a bus of a group, by the names of both
abbrev pub bus_place : Naming → List ℕ → List ℕ → Option Place
bus_place names group bus =
    option_and_then (λ g. option_map (λ b. record { number = g; bus = Some b }) (bus_named bus)) (number_named names.groups group)

-- the place of a word that was sent, by its name; the first full stop of that, if there is one, is here
abbrev pub place_by : Naming → List ℕ → Option ℕ → Option Place
place_by names name None = option_map at_number (number_named names.groups name)
place_by names name (Some at) = bus_place names (take at name) (drop (at + 1) name)

-- the place of a word that was sent, by `GROUP` or `GROUP.BUS`
unfoldable pub sent_place : Naming → List ℕ → Option Place
sent_place names name = place_by names name (position (λ c. c == 46) name)

-- the place of a word, by the name that a log has for it
abbrev pub place_named : Naming → BoxLog → List ℕ → Option Place
place_named names log.Heard name = option_map at_number (number_named names.receivers name)
place_named names log.Sent name = sent_place names name

-- a word of a log, if there is a place of its name; its time is below 10^14 microseconds
unfoldable pub box_word : Naming → BoxLog → Stated → Option BoxWord
box_word names l w =
    if nat_lt w.time 100000000000000 then option_map (λ place. record { time = w.time; place = place; raw = w.raw }) (place_named names l w.name)
    else None

-- the other kind of words
abbrev pub other_log : BoxLog → BoxLog
other_log log.Heard = log.Sent
other_log log.Sent = log.Heard

-- a name stands for a place of this kind
abbrev pub has_place : Naming → BoxLog → List ℕ → Bool
has_place names l name = is_some (place_named names l name)

-- A word of a log that has both what came in and what was sent. Its name says which it is: a word of the other kind is passed over, and a name that
-- stands for places of both kinds makes its line faulty.
unfoldable pub mixed_word : Naming → BoxLog → Stated → Option (List BoxWord)
mixed_word names l w =
    if has_place names (other_log l) w.name then (if has_place names l w.name then None else Some []) else one_item (box_word names l) w

-- a word of a log that has this kind alone, or both
abbrev pub part_word : Naming → BoxPart → Stated → Option (List BoxWord)
part_word names part w = if part.is_mixed then mixed_word names part.log w else one_item (box_word names part.log) w

-- the word that is read of a log, or none if it makes its line faulty
abbrev pub word_in : Result BoxWord LogRefusal → Option BoxWord
word_in (Ok w) = Some w
word_in (Err why) = None

-- the same in a log that may have words of the other kind
abbrev pub words_in : Result (Option BoxWord) LogRefusal → Option (List BoxWord)
words_in (Ok None) = Some []
words_in (Ok (Some w)) = Some (w ∷ [])
words_in (Err why) = None

-- the same, of a word as it is taken
abbrev pub part_word_by : Naming → View → BoxPart → Stated → Option (List BoxWord)
part_word_by names view part = viewed view (part_word names part)

-- ---- how logs are read

-- How the first log of what was sent is read, after those of what came in: its times begin again. They are moved and then counted from the same one
-- (`view_after`); without a word that came in, from that of its first word.
abbrev pub restarted : Reading → Reading
restarted reading =
    record reading {
      shape = None;
      calendar = begun_again reading.calendar;
      clock = record { base = option_map (λ _. 0) reading.clock.base; last = 0 };
    }

-- the times of the first and the last word of a log; a log without words has none
abbrev pub span_of : List BoxWord → Option BoxSpan
span_of words = option_and_then (λ a. option_map (λ b. record { first = a.time; last = b.time }) (last_of words)) (slice_get words 0)

-- neither begins after the other ends
abbrev pub meet : Option BoxSpan → Option BoxSpan → Bool
meet None other = false
meet (Some a) None = false
meet (Some a) (Some b) = nat_le a.first b.last && nat_le b.first a.last

-- two logs have a time in common
abbrev pub overlap : List BoxWord → List BoxWord → Bool
overlap words other = meet (span_of words) (span_of other)

-- with one more word at this time
abbrev pub with_time : Option BoxSpan → ℕ → Option BoxSpan
with_time None time = Some (record { first = time; last = time })
with_time (Some s) time = Some (record s { last = time })

-- no word comes before the one above it, nor before this time
abbrev pub AreFrom : ℕ → List BoxWord → Type 0
AreFrom last [] = ⊤
AreFrom last (w ∷ words) = (last ≤ w.time) × AreFrom w.time words

abbrev pub AreOrdered : List BoxWord → Type 0
AreOrdered words = AreFrom 0 words

-- ---- the words as they are judged

abbrev pub source_in : Result ℕ ArrivalRefusal → Option ℕ
source_in (Ok source) = Some source
source_in (Err refusal) = None

-- the source that accepts a word which came in, as the station does
abbrev pub accepting : TableRecord → BoxWord → Option ℕ
accepting t w = if nat_lt w.place.number (length t.receivers) then source_in (sorted t w.place.number w.raw) else None

abbrev pub mark_of : BoxWord → Mark
mark_of w = record { time = w.time; raw = w.raw }

abbrev pub sent_of : BoxWord → Sent
sent_of w = record { group = w.place.number; bus = w.place.bus; mark = mark_of w }

-- one more word that came in, and one more that was sent
abbrev pub hears : TableRecord → Recording → BoxWord → Recording
hears t r w = with_heard (accepting t w) (mark_of w) r

abbrev pub sends : Recording → BoxWord → Recording
sends r w = with_sent (sent_of w) r

-- the words of both logs
abbrev pub recording_of : TableRecord → List BoxWord → List BoxWord → Recording
recording_of t heard sent = fold sends (fold (hears t) no_words heard) sent

-- the same with the outputs that are judged
abbrev pub notes : TableRecord → BoxLog → JudgedLogs → BoxWord → JudgedLogs
notes t log.Heard j w = hear (accepting t w) (mark_of w) j
notes t log.Sent j w = send (sent_of w) j

-- the texts of logs, whether they stay or not
abbrev pub texts_of_logs : LogTexts → List (List ℕ)
texts_of_logs (texts.Kept logs) = logs_of logs.now
texts_of_logs (texts.Freed logs) = logs_of logs.items

-- these words of logs are noted after those before
pub record AreNoted (t : TableRecord) (l : BoxLog) (item : Stated → Option (List BoxWord)) (reading : Reading) (texts : List (List ℕ))
    (before : JudgedLogs) (n : NotedLogs) : Type 0 where
  pub words : List BoxWord
  pub read : items_of item reading texts ≡ Ok words
  pub judge : n.judge ≡ fold (notes t l) before words
  pub span : n.span ≡ span_of words
  pub next : n.next ≡ reading_behind reading texts
  pub ordered : AreOrdered words

-- they are, or a line of the logs is faulty
abbrev pub IsNoting : TableRecord → BoxLog → (Stated → Option (List BoxWord)) → Reading → List (List ℕ) → JudgedLogs → Result NotedLogs CommandRefusal → Type 0
IsNoting t l item reading texts before result =
    MatchResult result (AreNoted t l item reading texts before) (OrMemory (IsItemFault item reading texts))

-- the words of what was sent, in logs after those that are read so; the logs may have both kinds of words
abbrev pub IsSentNoting : TableRecord → Naming → View → Bool → Reading → List (List ℕ) → JudgedLogs → Result NotedLogs CommandRefusal → Type 0
IsSentNoting t names view mixed after texts before result =
    IsNoting t log.Sent (part_word_by names (view_after after view) (record { log = log.Sent; is_mixed = mixed })) (restarted after) texts before result

-- they are, and have a time in common with those of what came in
pub record AreLaterNoted (t : TableRecord) (names : Naming) (view : View) (mixed : Bool) (heard : NotedLogs) (texts : List (List ℕ)) (j : JudgedLogs) : Type 0 where
  pub sent : NotedLogs
  pub noted : AreNoted t log.Sent (part_word_by names (view_after heard.next view) (record { log = log.Sent; is_mixed = mixed })) (restarted heard.next) texts
      heard.judge sent
  pub common : meet heard.span sent.span ≡ true
  pub judge : j ≡ sent.judge

-- they have none
pub record AreApartFrom (t : TableRecord) (names : Naming) (view : View) (mixed : Bool) (heard : NotedLogs) (texts : List (List ℕ)) (refusal : CommandRefusal) : Type 0 where
  pub sent : NotedLogs
  pub noted : AreNoted t log.Sent (part_word_by names (view_after heard.next view) (record { log = log.Sent; is_mixed = mixed })) (restarted heard.next) texts
      heard.judge sent
  pub apart : meet heard.span sent.span ≡ false
  pub refused : refusal ≡ refused.Apart

abbrev pub IsLaterNoting : TableRecord → Naming → View → Bool → NotedLogs → List (List ℕ) → Result JudgedLogs CommandRefusal → Type 0
IsLaterNoting t names view mixed heard texts result =
    MatchResult result (AreLaterNoted t names view mixed heard texts)
    (OrMemory (λ refusal. IsItemFault (part_word_by names (view_after heard.next view) (record { log = log.Sent; is_mixed = mixed })) (restarted heard.next) texts refusal
    ⊎ AreApartFrom t names view mixed heard texts refusal))
