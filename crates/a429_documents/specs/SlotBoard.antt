-- The slot tables of a plan as a bus board takes them: the names of the columns, and a row for each word of a frame, bus by bus
-- (profile: docs/FORMATS.md, Output of `slots`).
use Rattle.std.specs.Prelude.{◌≡◌, ◌<◌, ◌+◌, ◌*◌, ◌^◌, ℕ, IsTrue, List, [], ◌∷◌, Option, codes, if◌then◌else◌, unwrap_or}
use Rattle.std.specs.List.{flat_map, range_with_len}
use Rattle.std.specs.Option.{option_map_or}
use Rattle.a429_text.specs.Fields.{Field, Text, Number}
use Rattle.a429_word.specs.Bits.{data_of, has_odd_parity, label_of, reversed_from, sdi_of, ssm_of}
use Rattle.a429_word.specs.Hexadecimal.{hex}
use Rattle.a429_word.specs.Texts.{octal}
use Rattle.a429_equipment.specs.TableRecord.{TableRecord}
use Rattle.a429_slots.specs.Tables.{PlanTable, buses_of, cell_at, frame_of}
use Rattle.a429_slots.specs.Times.{slots_us}
use Rattle.a429_documents.specs.Document.{sdi_field}
use Rattle.a429_documents.specs.PlannedGroups.{PlannedGroup, PlannedOutput, of_groups, output_at}

-- ---- the columns

-- the bus, when the word begins there, and the word
abbrev pub board_columns : List (List ℕ)
board_columns = codes "group" ∷ codes "bus" ∷ codes "time_us" ∷ codes "label" ∷ codes "sdi" ∷ codes "word" ∷ []

-- ---- a word without data

-- bits 1 to 31: the label, the SDI, data 0 and SSM 0 (ARINC 429 Part 1, word format)
abbrev pub bits_below_parity : ℕ → ℕ → ℕ
bits_below_parity label sdi = reversed_from 1 8 label + 256 * sdi

-- the same with bit 32, which makes the parity odd
unfoldable pub board_word : ℕ → ℕ → ℕ
board_word label sdi = if has_odd_parity (bits_below_parity label sdi) then bits_below_parity label sdi else 2 ^ 31 + bits_below_parity label sdi

-- ---- the rows

-- the word of an output in a slot of a bus: when the slot begins, in microseconds from the start of the frame, rounded up; the label, the SDI,
-- and the word with SDI 0 for any
abbrev pub board_row : ℕ → ℕ → PlannedOutput → List Field
board_row bus slot o =
    Text o.group.name ∷ Number bus ∷ Number (slots_us o.group.rate slot) ∷ Text (octal o.source.label) ∷ sdi_field o.source.sdi
    ∷ Text (hex (board_word o.source.label (unwrap_or o.source.sdi 0))) ∷ []

-- the rows of a cell: one if it has an output
unfoldable pub board_cell : PlannedGroup → ℕ → ℕ → List (List Field)
board_cell g bus slot = option_map_or (λ o. board_row bus slot (output_at g o) ∷ []) (cell_at g.table bus slot) []

-- the rows of a bus over one frame, slot by slot
abbrev pub board_bus : PlannedGroup → ℕ → List (List Field)
board_bus g bus = flat_map (board_cell g bus) (range_with_len 0 (frame_of g.table))

-- the rows of a group, bus by bus
abbrev pub board_group : PlannedGroup → List (List Field)
board_group g = flat_map (board_bus g) (range_with_len 0 (buses_of g.table))

-- the rows of a plan, of one group or of all in table order
abbrev pub board_rows : TableRecord → PlanTable → Option ℕ → List (List Field)
board_rows e p group = of_groups board_group e p group

-- ---- what the word is

-- a word of odd parity with this label and SDI, data 0 and SSM 0
pub record IsWordWithoutData (label sdi raw : ℕ) : Type 0 where
  pub range : raw < 2 ^ 32
  pub odd : IsTrue (has_odd_parity raw)
  pub label_is : label_of raw ≡ label
  pub sdi_is : sdi_of raw ≡ sdi
  pub data_is : data_of raw ≡ 0
  pub ssm_is : ssm_of raw ≡ 0

abbrev pub BoardWordsHaveNoData : Type 0
BoardWordsHaveNoData = (label sdi : ℕ) → label < 256 → sdi < 4 → IsWordWithoutData label sdi (board_word label sdi)
