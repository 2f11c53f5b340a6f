-- One group after another, as their outputs are given places (vocabulary of contracts).
use Rattle.std.specs.Prelude.{◌≡◌, ◌≢◌, ℕ, List, Some, length, slice_get}
use Rattle.a429_equipment.specs.declared.rows.GroupRow.{GroupRow}
use Rattle.a429_slots.specs.declared.group_plan.SlotPlace.{SlotPlace}
use Rattle.a429_slots.specs.Proposed.{Proposed}
use Rattle.a429_slots.specs.Tables.{SlotTable, groups_of}
use Rattle.a429_keep.specs.KeptPlans.{KeepsGroup, kept_places}
use Rattle.a429_keep.specs.Rows.{Listed}

-- the places that the outputs of group k keep
pub record ArePlaces (rows : List Listed) (p : Proposed) (k : ℕ) (places : List SlotPlace) : Type 0 where
  pub group : GroupRow
  pub table : SlotTable
  pub row : slice_get p.station.groups k ≡ Some group
  pub there : slice_get (groups_of p.plan) k ≡ Some table
  pub are : places ≡ kept_places p.station.sources rows group table

-- group k keeps its places, and the others are what they were
pub record IsGroupKept (rows : List Listed) (p q : Proposed) (k : ℕ) : Type 0 where
  pub station : q.station ≡ p.station
  pub count : length (groups_of q.plan) ≡ length (groups_of p.plan)
  pub group : KeepsGroup rows p q k
  pub others : (i : ℕ) → i ≢ k → slice_get (groups_of q.plan) i ≡ slice_get (groups_of p.plan) i
