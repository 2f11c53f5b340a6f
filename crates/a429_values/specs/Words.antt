-- The one number that the table holds for a source: how many words it accepted, and bits 9 to 31 of the last of them
-- (profile: docs/RULES.md, Limits).
use Rattle.std.specs.Prelude.{◌≡◌, ◌+◌, ◌*◌, ◌<◌, ◌^◌, ℕ, Option, Some, None, IsTrue}
use Rattle.a429_word.specs.Bits.{has_odd_parity, label_of, number_from}
use Rattle.a429_equipment.specs.declared.loads.Load.{Load}

-- a count above 23 bits of a word; 0 if there is no word
abbrev pub packed : ℕ → Option ℕ → ℕ
packed count None = 0
packed count (Some word) = count * 2 ^ 23 + number_from 9 23 word

-- the load of a source, as what it found
abbrev pub load_of : ℕ → Option (ℕ × ℕ) → Load
load_of s None = record { source = s; count = 0; word = None }
load_of s (Some found) = record { source = s; count = found.0; word = Some found.1 }

-- the word is one of 32 bits, of odd parity, with this label
abbrev pub HasLabel : ℕ → ℕ → Type 0
HasLabel label word = (word < 2 ^ 32) × IsTrue (has_odd_parity word) × (label_of word ≡ label)

-- if words were counted, there is a last one, and it has this label
abbrev pub IsCounted : ℕ → ℕ → Option ℕ → Type 0
IsCounted label count None = count ≡ 0
IsCounted label count (Some word) = (0 < count) × HasLabel label word

-- the number stands for the load of the source, whose words have this label
pub record Tells (s label number : ℕ) (l : Load) : Type 0 where
  pub source : l.source ≡ s
  pub stands : number ≡ packed l.count l.word
  pub counted : IsCounted label l.count l.word
