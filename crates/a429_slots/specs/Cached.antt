-- What is in the cells of a frame, a number a cell (vocabulary of contracts).
use Rattle.std.specs.Prelude.{◌≡◌, ◌+◌, ◌/◌, ◌%◌, ◌<◌, ◌^◌, ℕ, List, Option, Some, None, get_or, length}
use Rattle.a429_slots.specs.Tables.{SlotTable, cell_at}
use Rattle.a429_slots.specs.declared.group_plan.SlotPlace.{SlotPlace}

-- an empty cell, and the cell of an output
abbrev pub cached : Option ℕ → ℕ
cached None = 0
cached (Some o) = o + 1

-- the cell of this bus and slot is one of the place
abbrev pub IsCellOf : SlotPlace → ℕ → ℕ → Type 0
IsCellOf p bus slot = (bus ≡ p.bus) × (slot % 2 ^ p.period ≡ p.offset)

-- each number states what is in the cell of its place: places count slot by slot, and in a slot 16 buses
abbrev pub AreCached : SlotTable → List ℕ → Type 0
AreCached t cells = (i : ℕ) → i < length cells → get_or cells i 0 ≡ cached (cell_at t (i % 16) (i / 16))
