-- Logs as commands take them: which items each word becomes is given, and a word that is refused makes its line faulty (profile: log).
use Rattle.std.specs.Prelude.{◌≡◌, ◌<◌, ◌≤◌, ◌∷◌, ◌++◌, [], ◌⊎◌, ⊤, ℕ, List, Option, Some, None, Result, Ok, Err, MatchResult, drop, fold, length}
use Rattle.std.specs.declared.alloc.Global.{Global}
use Rattle.std.specs.declared.vec.Vec.{Vec}
use Rattle.a429_logs.specs.Logs.{WordAt, log_entries, reading_after, series_entries}
use Rattle.a429_logs.specs.LogRows.{Stated}
use Rattle.a429_logs.specs.LogsLeft.{IsBetween, entries_at, entries_left, lines_left, next_of, pieces_of, reading_at, reading_left, tail_at_point, tail_left, tail_of, titles_at, titles_now, titles_of}
use Rattle.a429_logs.specs.declared.reader.LogFault.{LogFault}
use Rattle.a429_logs.specs.declared.reader.LogPoint.{LogPoint}
use Rattle.a429_logs.specs.declared.reader.LogReader.{LogReader}
use Rattle.a429_logs.specs.declared.reading.Reading.{Reading}
use Rattle.a429_console.specs.FileReadings.{AreReadLogs}
use Rattle.a429_console.specs.Files.{bytes_of}
use Rattle.a429_console.specs.Lines.{entries_before}
use Rattle.a429_console.specs.RefusalText.{OrMemory}
use Rattle.a429_console.specs.declared.refusals.CommandRefusal.{CommandRefusal}
use Rattle.a429_console.specs.declared.refusals.CommandRefusal.TheVariants as refused
use Rattle.a429_recordings.specs.declared.logs.keeping.KeepFault.{KeepFault}
use Rattle.a429_recordings.specs.declared.logs.keeping.LogEnd.{LogEnd}
use Rattle.a429_recordings.specs.declared.logs.keeping.PieceEnd.{PieceEnd}
use Rattle.a429_recordings.specs.declared.logs.keeping.KeepFault.TheVariants as fault

-- ---- items

abbrev pub items_then : {A : Type 0} → ℕ → Option (List A) → Result (List A) ℕ → Result (List A) ℕ
items_then line None later = Err line
items_then line (Some xs) later = entries_before xs later

-- the items of what logs state, or the number of the first line that is faulty or whose word is refused
abbrev pub items_from : {A : Type 0} → (Stated → Option (List A)) → List (Result WordAt LogFault) → Result (List A) ℕ
items_from item [] = Ok []
items_from item (Err fault ∷ later) = Err fault.line
items_from item (Ok w ∷ later) = items_then w.line (item w.word) (items_from item later)

-- the items of several logs, read as if they were one; a line is numbered from 1 in the log that has it
abbrev pub items_of : {A : Type 0} → (Stated → Option (List A)) → Reading → List (List ℕ) → Result (List A) ℕ
items_of item reading texts = items_from item (series_entries reading texts)

-- the refusal names the first faulty line
abbrev pub IsItemFault : {A : Type 0} → (Stated → Option (List A)) → Reading → List (List ℕ) → CommandRefusal → Type 0
IsItemFault item reading texts (refused.LogLine n) = items_of item reading texts ≡ Err n
IsItemFault item reading texts _ = ⊥

-- how the log after some logs is read
abbrev pub reading_behind : Reading → List (List ℕ) → Reading
reading_behind reading texts = fold reading_after reading texts

-- no line of logs is passed over, other than those that every log may have
abbrev pub PassesNone : Reading → List (List ℕ) → Type 0
PassesNone reading [] = ⊤
PassesNone reading (text ∷ texts) = (titles_of reading text ≡ 0) × (tail_of reading text ≡ None) × PassesNone (reading_after reading text) texts

-- the same of files
abbrev pub PassesNoLine : (List ℕ → Option (List ℕ)) → List (List ℕ) → Reading → Type 0
PassesNoLine file names reading = (logs : List (List ℕ)) → AreReadLogs file names logs → PassesNone reading logs

-- ---- what calls answer

-- the item of a word comes after what was kept before, unless the word makes its line faulty
abbrev pub IsKept : {A B : Type 0} → Option A → List A → List A → Result B KeepFault → Type 0
IsKept {A = A} item old new (Ok _) = (x : A) × (item ≡ Some x) × (new ≡ old ++ x ∷ [])
IsKept item old new (Err (fault.Line why)) = item ≡ None
IsKept item old new (Err fault.NoMemory) = ⊤

-- the items of a word come after what was kept before, unless the word makes its line faulty
abbrev pub AreKept : {A B : Type 0} → Option (List A) → List A → List A → Result B KeepFault → Type 0
AreKept {A = A} items old new (Ok _) = (xs : List A) × (items ≡ Some xs) × (new ≡ old ++ xs)
AreKept items old new (Err (fault.Line why)) = items ≡ None
AreKept items old new (Err fault.NoMemory) = ⊤

-- the refusal names the first line of what is stated that is faulty, or whose word is refused; or an allocation failed
abbrev pub Refuses : {A : Type 0} → (Stated → Option (List A)) → List (Result WordAt LogFault) → CommandRefusal → Type 0
Refuses item entries refusal = (refusal ≡ refused.Memory) ⊎ ((n : ℕ) × (refusal ≡ refused.LogLine n) × (items_from item entries ≡ Err n))

-- of a log
abbrev pub RefusesLog : {A : Type 0} → (Stated → Option (List A)) → Reading → List ℕ → CommandRefusal → Type 0
RefusesLog item reading text refusal = Refuses item (log_entries reading text) refusal

-- What is left of a log after one of its pieces: the items of the piece come after those that there were, and then come those that are left. Or a line of the
-- piece is faulty.
abbrev pub KeepsPiece : {A B : Type 0} → (Stated → Option (List A)) → LogReader → LogReader → List A → List A → Result B CommandRefusal → Type 0
KeepsPiece item before after old new result =
    MatchResult result (λ _. entries_before old (items_from item (entries_left before)) ≡ entries_before new (items_from item (entries_left after)))
    (Refuses item (entries_left before))

-- a reader is at the end of the piece that it reads, and nothing else of it changed
pub record GoesOnFrom (was is : LogReader) : Type 0 where
  pub after : reading_left is ≡ reading_left was
  pub tail : tail_left is ≡ tail_left was
  pub titles : titles_now is ≡ titles_now was
  pub pieces : pieces_of is ≡ pieces_of was
  pub more : next_of was ≤ next_of is
  pub between : IsBetween is
  pub ended : next_of is ≡ length (pieces_of is) → lines_left is ≡ []

-- what is left of a log: what it states, how the next log is read, its tail, and its titles
pub record LogLeft : Type 0 where
  pub entries : List (Result WordAt LogFault)
  pub after : Reading
  pub tail : Option ℕ
  pub titles : ℕ

-- all of a log, and what is left of it from a point on
abbrev pub whole_log : Reading → List ℕ → LogLeft
whole_log reading text = record { entries = log_entries reading text; after = reading_after reading text; tail = tail_of reading text; titles = titles_of reading text }

abbrev pub left_at : LogPoint → List (List ℕ) → LogLeft
left_at point texts = record { entries = entries_at point texts; after = reading_at point texts; tail = tail_at_point point texts; titles = titles_at point }

-- the same of pieces that begin with those that are read
abbrev pub left_after : List (Vec ℕ Global) → PieceEnd → LogLeft
left_after pieces end = left_at end.point (bytes_of (drop end.next pieces))

-- the items of pieces that are read come after those that there were, and then come those that are left
pub record PiecesEnd {A : Type 0} (item : Stated → Option (List A)) (all : LogLeft) (pieces : List (Vec ℕ Global)) (old new : List A) (end : PieceEnd) : Type 0 where
  pub kept : entries_before old (items_from item all.entries) ≡ entries_before new (items_from item (left_after pieces end).entries)
  pub after : (left_after pieces end).after ≡ all.after
  pub tail : (left_after pieces end).tail ≡ all.tail
  pub titles : (left_after pieces end).titles ≡ all.titles
  pub begun : 0 < length pieces → 0 < end.next
  pub within : end.next ≤ length pieces

-- or a line of them is faulty
abbrev pub KeepsPieces : {A : Type 0} → (Stated → Option (List A)) → LogLeft → List (Vec ℕ Global) → List A → List A → Result PieceEnd CommandRefusal → Type 0
KeepsPieces item all pieces old new result = MatchResult result (PiecesEnd item all pieces old new) (Refuses item all.entries)

-- the items of a log come after those that there are, and the next log is read so; or the log is faulty
abbrev pub KeepsLog : {A : Type 0} → (Stated → Option (List A)) → Reading → List ℕ → List A → List A → Result LogEnd CommandRefusal → Type 0
KeepsLog item reading text old new result =
    MatchResult result (λ end. (end.next ≡ reading_after reading text) × (entries_before old (items_from item (log_entries reading text)) ≡ Ok new))
    (RefusesLog item reading text)

-- these are the items of logs, and the next log is read so; or a log is faulty
abbrev pub KeepsLogs : {A : Type 0} → (Stated → Option (List A)) → Reading → List (List ℕ) → List A → Result Reading CommandRefusal → Type 0
KeepsLogs item reading texts items result =
    MatchResult result (λ next. (items_of item reading texts ≡ Ok items) × (next ≡ reading_behind reading texts)) (OrMemory (IsItemFault item reading texts))
