-- The distance between the cells of an output when the plan of its group changes (profile: docs/FORMATS.md, Output of `diff`).
use Rattle.std.specs.Prelude.{◌≡◌, ℕ, ◌+◌, ◌-◌, ◌^◌, ◌<◌, Some}
use Rattle.a429_slots.specs.declared.group_plan.SlotPlace.{SlotPlace}
use Rattle.a429_slots.specs.Tables.{SlotTable, cell_at, frame_of, place_of}

-- the output has a cell in the slot, on some bus
abbrev pub StandsIn : SlotTable → ℕ → ℕ → Type 0
StandsIn t output slot = (bus : ℕ) × (cell_at t bus slot ≡ Some output)

-- its last slot in a frame
pub record IsLastSlot (t : SlotTable) (output slot : ℕ) : Type 0 where
  pub within : slot < frame_of t
  pub stands : StandsIn t output slot
  pub last : (later : ℕ) → slot < later → later < frame_of t → ¬ (StandsIn t output later)

-- its first slot in a frame
pub record IsFirstSlot (t : SlotTable) (output slot : ℕ) : Type 0 where
  pub within : slot < frame_of t
  pub stands : StandsIn t output slot
  pub first : (earlier : ℕ) → earlier < slot → ¬ (StandsIn t output earlier)

-- The distance in slots from the last cell of an output in a frame to its first cell in the next frame. The next frame
-- follows another table, in which the output may have another number.
pub record IsGap (before : SlotTable) (output : ℕ) (after : SlotTable) (same gap : ℕ) : Type 0 where
  pub from : ℕ
  pub to : ℕ
  pub last : IsLastSlot before output from
  pub first : IsFirstSlot after same to
  pub apart : from + gap ≡ frame_of before + to

-- the gap is what the output's old offset leaves of its old period, and its new offset; it is below both periods together
abbrev pub IsGapOfPlaces : SlotTable → ℕ → SlotTable → ℕ → ℕ → Type 0
IsGapOfPlaces before output after same gap =
    (old new : SlotPlace) → place_of before output ≡ Some old → place_of after same ≡ Some new
    → (gap ≡ 2 ^ old.period - old.offset + new.offset) × (gap < 2 ^ old.period + 2 ^ new.period)
