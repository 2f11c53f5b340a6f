-- What a log states, line by line.
use Rattle.std.proofs.Common.{◌≡◌, ◌∙◌, ◌∷◌, ℕ, List, sym, ap}
use Rattle.std.specs.Prelude.{Ok, Option, Result}
use Rattle.a429_logs.specs.LogRows.{stated_by}
use Rattle.a429_logs.specs.Logs.{LineRead, WordAt, entries_from, entry_then, next_log, past_then, read_line, reading_past, tail_at}
use Rattle.a429_logs.specs.LogsLeft.{tail_from, tail_then}
use Rattle.a429_logs.specs.declared.reader.LogFault.{LogFault}
use Rattle.a429_logs.specs.declared.reading.Reading.{Reading}
use Rattle.a429_logs.specs.declared.rows.StatedWord.{StatedWord}

-- what follows from the first line
abbrev pub entries_by : ℕ → List ℕ → List (ℕ × List ℕ) → LineRead → List (Result WordAt LogFault)
entries_by n line lines read = entry_then n (tail_at read ((n, line) ∷ lines)) read.states (entries_from read.next lines)

abbrev pub past_by : ℕ → List ℕ → List (ℕ × List ℕ) → LineRead → Reading
past_by n line lines read = next_log (past_then (tail_at read ((n, line) ∷ lines)) read.states read.next (reading_past read.next lines))

abbrev pub tail_by : ℕ → List ℕ → List (ℕ × List ℕ) → LineRead → Option ℕ
tail_by n line lines read = tail_then n (tail_at read ((n, line) ∷ lines)) read.states (tail_from read.next lines)

pub entries-first : (reading : Reading) (left : List (ℕ × List ℕ)) (n : ℕ) (line : List ℕ) (lines : List (ℕ × List ℕ)) (read : LineRead)
    → left ≡ (n, line) ∷ lines → read ≡ read_line reading line → entries_from reading left ≡ entries_by n line lines read
entries-first reading left n line lines read taken is =
    ap (λ (l : List (ℕ × List ℕ)). entries_from reading l) taken
    ∙ ap (entries_by n line lines) (sym is)

-- how the line after the first one is read
pub past-first : (reading : Reading) (left : List (ℕ × List ℕ)) (n : ℕ) (line : List ℕ) (lines : List (ℕ × List ℕ)) (read : LineRead)
    → left ≡ (n, line) ∷ lines → read ≡ read_line reading line → next_log (reading_past reading left) ≡ past_by n line lines read
past-first reading left n line lines read taken is =
    ap (λ (l : List (ℕ × List ℕ)). next_log (reading_past reading l)) taken
    ∙ ap (past_by n line lines) (sym is)

-- the tail, if it begins at the first line or later
pub tail-first : (reading : Reading) (left : List (ℕ × List ℕ)) (n : ℕ) (line : List ℕ) (lines : List (ℕ × List ℕ)) (read : LineRead)
    → left ≡ (n, line) ∷ lines → read ≡ read_line reading line → tail_from reading left ≡ tail_by n line lines read
tail-first reading left n line lines read taken is =
    ap (λ (l : List (ℕ × List ℕ)). tail_from reading l) taken
    ∙ ap (tail_by n line lines) (sym is)

-- the first word, by another name of it
pub word-first : (n : ℕ) (a b : StatedWord) (later : List (Result WordAt LogFault)) → a ≡ b
    → Ok (record { line = n; word = stated_by b }) ∷ later ≡ Ok (record { line = n; word = stated_by a }) ∷ later
word-first n a b later same = ap (λ (w : StatedWord). Ok (record { line = n; word = stated_by w }) ∷ later) (sym same)
