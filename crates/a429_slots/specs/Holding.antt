-- How often a group sends one accepted word (profile: hold).
use Rattle.std.specs.Prelude.{◌≡◌, ◌<◌, ℕ, List, Some, length, take}
use Rattle.a429_slots.specs.Tables.{Placed, SlotTable}
use Rattle.a429_slots.specs.Events.{Event}
use Rattle.a429_slots.specs.History.{Opening, accepted_by, answered_cells, times_sent}
use Rattle.a429_slots.specs.Spacing.{Sends}

-- before this place, how often the group sent the word that is the source's last accepted one there: this very one, not an equal one
abbrev pub times_before : ℕ → Opening → ℕ → SlotTable → List Event → ℕ → ℕ → ℕ
times_before C o g p E k source = times_sent (answered_cells C o g p (take k E)) source (length (accepted_by C o source (take k E)))

-- a cell sends an accepted word only if the group sent it fewer times before, under any plans, than the plan in force
-- allows
abbrev pub HoldsAreKept : Type 0
HoldsAreKept =
    (C : ℕ) (o : Opening) (g : ℕ) (p : SlotTable) (E : List Event) (k : ℕ) (output : Placed) (slot word hold : ℕ)
    → Sends C o g p E k output slot word → output.limits.hold ≡ Some hold → times_before C o g p E k output.source < hold
