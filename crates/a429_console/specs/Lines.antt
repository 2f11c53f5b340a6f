-- Files with one thing a line (profile: replay script, words file): what a text states, or its first faulty line. What one line states is given.
use Rattle.std.specs.Prelude.{◌≡◌, ◌+◌, ◌∷◌, [], ◌++◌, ℕ, List, Option, Some, None, Result, Ok, Err, MatchResult, option_map, option_and_then}
use Rattle.std.specs.declared.vec.Vec.{Vec}
use Rattle.std.specs.declared.alloc.Global.{Global}
use Rattle.a429_console.specs.declared.files.lines.LinesFault.{LinesFault}
use Rattle.a429_console.specs.declared.files.lines.LinesFault.TheVariants as fault
use Rattle.a429_text.specs.CutText.{cut, lines_of}

-- what the first line of a text states, and the text after the line
abbrev pub first_entry : {A : Type 0} → (List ℕ → Option A) → List ℕ → Option (A × List ℕ)
first_entry states text = option_and_then (λ p. option_map (λ e. (e, p.1)) (states p.0)) (cut 10 text)

-- entries before those of later lines
abbrev pub entries_before : {A : Type 0} → List A → Result (List A) ℕ → Result (List A) ℕ
entries_before entries (Ok later) = Ok (entries ++ later)
entries_before entries (Err n) = Err n

abbrev pub entry_then : {A : Type 0} → Option A → ℕ → Result (List A) ℕ → Result (List A) ℕ
entry_then None n later = Err n
entry_then (Some e) n later = entries_before (e ∷ []) later

-- of lines from number n on, and the rest after the last: the entries, or the number of the first faulty line
abbrev pub entries_from : {A : Type 0} → (List ℕ → Option A) → ℕ → List (List ℕ) → List ℕ → Result (List A) ℕ
entries_from states n [] [] = Ok []
entries_from states n [] (x ∷ xs) = Err n
entries_from states n (line ∷ lines) rest = entry_then (states line) n (entries_from states (n + 1) lines rest)

-- of a text that follows n lines
abbrev pub entries_after : {A : Type 0} → (List ℕ → Option A) → ℕ → List ℕ → Result (List A) ℕ
entries_after states n text = entries_from states (n + 1) (lines_of text).0 (lines_of text).1

-- the entries of a text, or the number of its first faulty line, from 1
unfoldable pub entries_of : {A : Type 0} → (List ℕ → Option A) → List ℕ → Result (List A) ℕ
entries_of states text = entries_after states 0 text

-- ---- what calls answer

-- the entries of all lines, or the first faulty one; memory may be refused
abbrev pub ReadsLines : {A : Type 0} → (List ℕ → Option A) → List ℕ → Result (Vec A Global) LinesFault → Type 0
ReadsLines states text result =
    MatchResult result (λ entries. entries_of states text ≡ Ok entries.items) (λ e. (n : ℕ) → e ≡ fault.Line n → entries_of states text ≡ Err n)
