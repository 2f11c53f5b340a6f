-- The slot tables that are in force, next to what the machine keeps, and the places of outputs in them (profile: docs/RULES.md, Sending).
use Rattle.std.specs.Prelude.{◌&&◌, ◌^◌, ℕ, List, Option, if◌then◌else◌, nat_lt, get_or, length, map, option_map, slice_set}
use Rattle.a429_slots.specs.Tables.{SlotTable, groups_of, no_table, place_of}
use Rattle.a429_core.specs.MachineStates.{MachineState}
use Rattle.a429_c.specs.declared.answers.PlaceAnswer.{PlaceAnswer}

-- of each group, that which is in force
abbrev pub tables_in_force : MachineState → List SlotTable
tables_in_force s = map (λ g. g.table) s.groups

-- of each group, that of the newest plan
abbrev pub newest_tables : MachineState → List SlotTable
newest_tables s = groups_of s.newest

-- a group has taken over its newest table
abbrev pub followed : List SlotTable → List SlotTable → ℕ → List SlotTable
followed tables newest group =
    if nat_lt group (length tables) && nat_lt group (length newest) then slice_set tables group (get_or newest group no_table) else tables

-- the place of an output: its bus, its first slot from the frame's start, and its period in slots
abbrev pub place_in : SlotTable → ℕ → Option PlaceAnswer
place_in t output = option_map (λ p. record { bus = p.bus; offset = p.offset; period = 2 ^ p.period }) (place_of t output)
