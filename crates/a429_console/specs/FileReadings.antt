-- Files as a command reads them, by their names (vocabulary of contracts).
use Rattle.std.specs.Prelude.{◌≡◌, ◌∷◌, [], ◌⊎◌, ℕ, List, Option, Some, None, Result, MatchResult, if◌then◌else◌, nat_le, length, map, string_bytes, chars, encode_utf8_all}
use Rattle.std.specs.Char.{is_control}
use Rattle.std.specs.List.{AllZip}
use Rattle.std.specs.declared.vec.Vec.{Vec}
use Rattle.std.specs.declared.alloc.Global.{Global}
use Rattle.a429_console.specs.Files.{bytes_of, logs_of}
use Rattle.a429_console.specs.RefusalText.{OrMemory}
use Rattle.a429_console.specs.declared.refusals.CommandRefusal.{CommandRefusal}
use Rattle.a429_console.specs.declared.refusals.CommandRefusal.TheVariants as refused

-- how many bytes a file may have, and how many a log: 16 MiB and 1 GiB (profile: docs/RULES.md, Limits)
abbrev pub largest_file : ℕ
largest_file = 16777216

abbrev pub largest_log : ℕ
largest_log = 1073741824

-- the bytes of a file that can be read: there are at most `most`
abbrev pub readable_in : ℕ → Option (List ℕ) → Option (List ℕ)
readable_in most None = None
readable_in most (Some bytes) = if nat_le (length bytes) most then Some bytes else None

abbrev pub readable : Option (List ℕ) → Option (List ℕ)
readable bytes = readable_in largest_file bytes

-- these are the bytes of the files of these names
abbrev pub AreReadIn : ℕ → (List ℕ → Option (List ℕ)) → List (List ℕ) → List (List ℕ) → Type 0
AreReadIn most file names contents = AllZip (λ name bytes. readable_in most (file name) ≡ Some bytes) names contents

abbrev pub AreRead : (List ℕ → Option (List ℕ)) → List (List ℕ) → List (List ℕ) → Type 0
AreRead file names contents = AreReadIn largest_file file names contents

-- and of these logs
abbrev pub AreReadLogs : (List ℕ → Option (List ℕ)) → List (List ℕ) → List (List ℕ) → Type 0
AreReadLogs file names contents = AreReadIn largest_log file names contents

-- a character as a refusal prints it; a control character, such as a line feed, is `?` (profile: docs/FORMATS.md, Refusals before an answer)
abbrev pub printable_char : ℕ → ℕ
printable_char c = if is_control c then 63 else c

-- a name as a refusal prints it, in one line
unfoldable pub printable_name : List ℕ → List ℕ
printable_name name = encode_utf8_all (map printable_char (chars name))

-- the file of this name cannot be read
abbrev pub IsFileRefusalIn : ℕ → (List ℕ → Option (List ℕ)) → List ℕ → CommandRefusal → Type 0
IsFileRefusalIn most file name (refused.File told) = (string_bytes told ≡ printable_name name) × (readable_in most (file name) ≡ None)
IsFileRefusalIn most file name _ = ⊥

abbrev pub IsFileRefusal : (List ℕ → Option (List ℕ)) → List ℕ → CommandRefusal → Type 0
IsFileRefusal file name refusal = IsFileRefusalIn largest_file file name refusal

-- of these files the first that cannot be read
abbrev pub IsFirstUnreadIn : ℕ → (List ℕ → Option (List ℕ)) → List (List ℕ) → CommandRefusal → Type 0
IsFirstUnreadIn most file [] refusal = ⊥
IsFirstUnreadIn most file (name ∷ names) refusal =
    IsFileRefusalIn most file name refusal ⊎ ((bytes : List ℕ) × (readable_in most (file name) ≡ Some bytes) × IsFirstUnreadIn most file names refusal)

abbrev pub IsFirstUnread : (List ℕ → Option (List ℕ)) → List (List ℕ) → CommandRefusal → Type 0
IsFirstUnread file names refusal = IsFirstUnreadIn largest_file file names refusal

-- and of these logs
abbrev pub IsFirstUnreadLog : (List ℕ → Option (List ℕ)) → List (List ℕ) → CommandRefusal → Type 0
IsFirstUnreadLog file names refusal = IsFirstUnreadIn largest_log file names refusal

-- what reading a file gives, of which `text` is what is kept: the text of the file, or that it cannot be read
abbrev pub IsReadingOf : {X : Type 0} → (X → List ℕ) → ℕ → (List ℕ → Option (List ℕ)) → List ℕ → Result X CommandRefusal → Type 0
IsReadingOf text most file name result = MatchResult result (λ kept. readable_in most (file name) ≡ Some (text kept)) (OrMemory (IsFileRefusalIn most file name))

-- its bytes
abbrev pub IsReading : (List ℕ → Option (List ℕ)) → List ℕ → Result (Vec ℕ Global) CommandRefusal → Type 0
IsReading file name result = IsReadingOf {X = Vec ℕ Global} (λ bytes. bytes.items) largest_file file name result

-- what reading several files gives: their texts, or the first that cannot be read
abbrev pub AreReadingsOf : {X : Type 0} → (X → List ℕ) → ℕ → (List ℕ → Option (List ℕ)) → List (List ℕ) → Result (Vec X Global) CommandRefusal → Type 0
AreReadingsOf text most file names result = MatchResult result (λ all. AreReadIn most file names (map text all.items)) (OrMemory (IsFirstUnreadIn most file names))

-- their bytes
abbrev pub AreReadings : (List ℕ → Option (List ℕ)) → List (List ℕ) → Result (Vec (Vec ℕ Global) Global) CommandRefusal → Type 0
AreReadings file names result = MatchResult result (λ all. AreRead file names (bytes_of all.items)) (OrMemory (IsFirstUnread file names))

-- and what reading logs gives, each in pieces
abbrev pub AreLogReadings : (List ℕ → Option (List ℕ)) → List (List ℕ) → Result (Vec (Vec (Vec ℕ Global) Global) Global) CommandRefusal → Type 0
AreLogReadings file names result = MatchResult result (λ all. AreReadLogs file names (logs_of all.items)) (OrMemory (IsFirstUnreadLog file names))
