-- The state of a group in its frame, as the machine keeps it (vocabulary of contracts).
use Rattle.std.specs.Prelude.{◌≡◌, ◌<◌, ◌*◌, ◌⊎◌, ◌+◌, ◌/◌, ◌%◌, ◌^◌, ℕ, Bool, Option, Some, None, List, if◌then◌else◌, nat_lt, min}
use Rattle.std.specs.List.{list_all}
use Rattle.a429_slots.specs.Tables.{Placed, SlotTable, frame_of, buses_of, cells_of}
use Rattle.a429_slots.specs.declared.senders.Due.{Due}
use Rattle.a429_slots.specs.History.{Current, cells_since}

-- the table in force, the frame's first slot, and how many of its cells were sent
pub record FrameState : Type 0 where
  pub table : SlotTable
  pub first : ℕ
  pub sent : ℕ

-- how many cells of a frame come before one: cells are counted slot by slot, and in a slot bus by bus
abbrev pub cells_before : SlotTable → ℕ → ℕ → ℕ
cells_before t bus slot = slot * buses_of t + bus

-- a frame's next cell: one of its cells, or the first after them
pub record IsNextCell (t : SlotTable) (bus slot : ℕ) : Type 0 where
  pub bus_of : (bus ≡ 0) ⊎ (bus < buses_of t)
  pub slot_of : (slot < frame_of t) ⊎ ((slot ≡ frame_of t) × (bus ≡ 0))

abbrev pub begun : ℕ → SlotTable → FrameState
begun first p = record { table = p; first = first; sent = 0 }

-- 64 bits can count the slots of each group's first frame
abbrev pub all_fit : ℕ → List SlotTable → Bool
all_fit first tables = list_all (λ p. nat_lt (first + frame_of p) (2 ^ 64)) tables

-- the bus and the slot in the frame of the next cell
abbrev pub next_cell : FrameState → Option (ℕ × ℕ)
next_cell s = if nat_lt s.sent (cells_of s.table) then Some (s.sent % buses_of s.table, s.sent / buses_of s.table) else None

abbrev pub after_cell : FrameState → FrameState
after_cell s = if nat_lt s.sent (cells_of s.table) then record s { sent = s.sent + 1 } else s

-- 64 bits can count the slots of a next frame by this table
abbrev pub fits_next : FrameState → SlotTable → Bool
fits_next s newest = nat_lt (s.first + frame_of s.table + frame_of newest) (2 ^ 64)

abbrev pub turned : FrameState → SlotTable → FrameState
turned s newest =
    if fits_next s newest then record { table = newest; first = s.first + frame_of s.table; sent = 0 } else s

-- what the machine keeps of a frame
abbrev pub frame_state_of : ℕ → Current → FrameState
frame_state_of g f = record { table = f.table; first = f.first; sent = min (cells_since g f) (cells_of f.table) }

-- the output in a cell: its source, and what limits its sends
abbrev pub due_of : Placed → Due
due_of output = record { source = output.source; limits = output.limits }
