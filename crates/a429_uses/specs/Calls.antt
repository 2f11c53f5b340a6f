-- What the calls without threads answer (vocabulary of contracts).
use Rattle.std.specs.Prelude.{◌≡◌, ℕ, List, Some}
use Rattle.a429_line.specs.declared.found.Symbol.{Symbol}
use Rattle.a429_line.specs.Slots.{slot}
use Rattle.a429_slots.specs.History.{Opening}
use Rattle.a429_slots.specs.Proposed.{Proposed}
use Rattle.a429_word.specs.Bits.{data_of, label_of}

-- the symbols of a slot with a word of this label and this data
pub record IsSlotOf (label value : ℕ) (symbols : List Symbol) : Type 0 where
  pub word : ℕ
  pub is : symbols ≡ slot (Some word)
  pub label_is : label_of word ≡ label
  pub data_is : data_of word ≡ value

-- a station that begins by this proposal at slot 0
abbrev pub opening : Proposed → Opening
opening q = record { proposal = q; first = 0 }
