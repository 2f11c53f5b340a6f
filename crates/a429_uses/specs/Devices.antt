-- What the two devices read and print (vocabulary of contracts).
use Rattle.std.specs.Prelude.{◌≡◌, ⊤, ◌++◌, ◌∷◌, [], ℕ, List, Option, Some, None, Result, Ok, Err, zero, suc, codes, flat_map}
use Rattle.std.specs.List.{AllByRecursion}
use Rattle.std.specs.Fmt.{decimal}
use Rattle.std.specs.Io.KnownBytes.{Consumes, IsAtEnd}
use Rattle.a429_word.specs.Hexadecimal.{hex, raw_word}
use Rattle.a429_filter.specs.declared.sources.SourceFault.{SourceFault}
use Rattle.a429_equipment.specs.TableRecord.{TableRecord}
use Rattle.a429_workers.specs.declared.cells.Sent.{Sent}
use Rattle.a429_uses.specs.Stations.{HasWordOfLine}

-- A word that is given is that of the next line of the text: eight hexadecimal digits and a line feed, which are read,
-- and nothing else is. The end is that of the text. It says so of readers that say what they have left.
abbrev pub ReadsWord : Option (List ℕ) → Option (List ℕ) → Result (Option ℕ) SourceFault → Type 0
ReadsWord before after (Ok None) = IsAtEnd before
ReadsWord before after (Ok (Some raw)) = (digits : List ℕ) × (raw_word digits ≡ Some raw) × Consumes before after (digits ++ 10 ∷ [])
ReadsWord before after (Err fault) = ⊤

-- the line of a word
abbrev pub word_line : ℕ → ℕ → ℕ → List ℕ
word_line bus slot word = codes "bus " ++ decimal bus ++ codes " slot " ++ decimal slot ++ codes " word " ++ hex word ++ 10 ∷ []

-- the line of a cell, if it has a word
abbrev pub line_of : ℕ → ℕ → Option ℕ → List ℕ
line_of bus slot None = []
line_of bus slot (Some word) = word_line bus slot word

abbrev pub sent_line : Sent → List ℕ
sent_line s = line_of s.bus s.slot s.word

-- the lines of these cells
abbrev pub sent_lines : List Sent → List ℕ
sent_lines cells = flat_map sent_line cells

-- writers of this kind say what they took
abbrev pub TellsTaken : {W : Type 0} → (W → Option (List ℕ)) → Type 0
TellsTaken {W = W} contents = (w : W) → (text : List ℕ) × (contents w ≡ Some text)

-- the text, as long as nothing failed
abbrev pub sure_text : Option (List ℕ) → ℕ → Option (List ℕ)
sure_text text zero = text
sure_text text (suc failures) = None

-- as long as nothing failed, what was printed is the lines of cells, and each word in them was given
pub record PrintedGivenWords (t : TableRecord) (given : List ℕ) (text : Option (List ℕ)) (failures : ℕ) : Type 0 where
  pub cells : List Sent
  pub printed : failures ≡ 0 → text ≡ Some (sent_lines cells)
  pub words : AllByRecursion (HasWordOfLine t given) cells
