-- What is true of every slot table (profile: layout).
use Rattle.std.specs.Prelude.{◌≡◌, ◌+◌, ◌-◌, ◌<◌, ◌≤◌, ◌*◌, ◌/◌, ◌%◌, ◌^◌, ◌∷◌, [], ℕ, List, Some, length, map, slice_index}
use Rattle.std.specs.List.{range_with_len}
use Rattle.std.specs.List.Sorted.{IsPermutation}
use Rattle.a429_grid.specs.Reversal.{reversed}
use Rattle.a429_pack.specs.Schedules.{IsExactlyPeriodic}
use Rattle.a429_slots.specs.Tables.{SlotTable, placed_at, cell_at, frame_of, buses_of, share_of}

-- The block of an output: its places among all. They are counted bus by bus, and on a bus by the slot with its digits in reverse.
abbrev pub begin_of : SlotTable → ℕ → ℕ
begin_of t o = (placed_at t o).place.bus * frame_of t + reversed t.frame (placed_at t o).place.offset

abbrev pub end_of : SlotTable → ℕ → ℕ
end_of t o = begin_of t o + share_of t o

-- the place of a cell among all
abbrev pub place_of_cell : SlotTable → ℕ → ℕ → ℕ
place_of_cell t bus slot = bus * frame_of t + reversed t.frame (slot % frame_of t)

-- the place of the cell is in the block
abbrev pub HoldsCell : SlotTable → ℕ → ℕ → ℕ → Type 0
HoldsCell t o bus slot = (begin_of t o ≤ place_of_cell t bus slot) × (place_of_cell t bus slot < end_of t o)

-- how far each of these ends is from the one before it, the first from s
abbrev pub steps_from : ℕ → List ℕ → List ℕ
steps_from s [] = []
steps_from s (e ∷ ends) = (e - s) ∷ steps_from e ends

-- in the order of the outputs each block begins at the end of the one before it, or later
abbrev pub BlocksFollow : SlotTable → Type 0
BlocksFollow t = (k : ℕ) → k + 1 < length t.outputs → end_of t (slice_index t.order k) ≤ begin_of t (slice_index t.order (k + 1))

-- The stretches of a table, in the order of its outputs: each is a block with the free places before it.
abbrev pub stretches_of : SlotTable → List ℕ
stretches_of t = steps_from 0 (map (end_of t) t.order)

-- one bus and one offset: the output has the cells of that bus once in every period, and no others
abbrev pub StandsJustAt : SlotTable → ℕ → ℕ → ℕ → ℕ → Type 0
StandsJustAt t o bus offset period = IsExactlyPeriodic (λ row slot. cell_at t row slot ≡ Some o) bus offset period

-- the block of an output has exactly the cells of its place
abbrev pub HoldsJustItsCells : SlotTable → ℕ → Type 0
HoldsJustItsCells t o = IsExactlyPeriodic (HoldsCell t o) (placed_at t o).place.bus (placed_at t o).place.offset (2 ^ (placed_at t o).place.period)

-- The stretch of an output begins at a place, counted from the first bus's first. The frame divides that place: the
-- quotient is the bus, and the slot is the remainder with its digits in reverse.
pub record BeginsAt (t : SlotTable) (o start : ℕ) : Type 0 where
  pub bus : (placed_at t o).place.bus ≡ start / frame_of t
  pub offset : (placed_at t o).place.offset ≡ reversed t.frame (start % frame_of t)

-- a table of at most n outputs, each with the cells of its block, in the order of the blocks
pub record IsTable (n : ℕ) (t : SlotTable) : Type 0 where
  pub room : length t.outputs ≤ n
  pub frame : t.frame ≤ 13
  pub few : buses_of t ≤ 16
  pub order : IsPermutation (range_with_len 0 (length t.outputs)) t.order
  pub within : (o : ℕ) → o < length t.outputs → (placed_at t o).place.period ≤ t.frame
  pub on_bus : (o : ℕ) → o < length t.outputs → (placed_at t o).place.bus < buses_of t
  pub spaced : (o : ℕ) → o < length t.outputs → 1 ≤ (placed_at t o).limits.spacing
  pub periodic : (o : ℕ) → o < length t.outputs → HoldsJustItsCells t o
  pub follow : BlocksFollow t
