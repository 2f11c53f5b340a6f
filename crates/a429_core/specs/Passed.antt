-- A group whose slots have passed by one table (vocabulary of contracts).
use Rattle.std.specs.Prelude.{◌-◌, ◌*◌, ◌%◌, ℕ, List, slice_get, slice_set}
use Rattle.std.specs.Option.{option_map_or}
use Rattle.a429_slots.specs.FrameStates.{FrameState}
use Rattle.a429_slots.specs.Tables.{PlanTable, SlotTable, buses_of, frame_of, groups_of}
use Rattle.a429_core.specs.MachineStates.{MachineState}

-- after n slots by this table, from slot 0: the frame that slot n is in, and the cells of this frame that come before it
abbrev pub after_slots : SlotTable → ℕ → FrameState
after_slots p n = record { table = p; first = n - n % frame_of p; sent = n % frame_of p * buses_of p }

-- the groups, of which one has passed n slots by its newest table
abbrev pub groups_passed : List FrameState → PlanTable → ℕ → ℕ → List FrameState
groups_passed groups newest g n = option_map_or (λ p. slice_set groups g (after_slots p n)) (slice_get (groups_of newest) g) groups

abbrev pub passed : MachineState → ℕ → ℕ → MachineState
passed v g n = record v { groups = groups_passed v.groups v.newest g n }
