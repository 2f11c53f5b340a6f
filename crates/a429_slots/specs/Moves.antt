-- The outputs of a slot table at other places (profile: layout).
use Rattle.std.specs.Prelude.{◌≡◌, ◌≢◌, ◌+◌, ◌*◌, ◌/◌, ◌%◌, ◌^◌, ◌<◌, ◌≤◌, ℕ, List, All, Some, get_or, length, map, slice_get, slice_set}
use Rattle.std.specs.List.{range_with_len}
use Rattle.a429_grid.specs.Reversal.{reversed}
use Rattle.a429_slots.specs.declared.group_plan.SlotPlace.{SlotPlace}
use Rattle.a429_slots.specs.declared.moves.Block.{Block}
use Rattle.a429_slots.specs.Tables.{PlanTable, SlotTable, groups_of, unplaced}

-- the place is on one of the buses, at an offset of its period, which is at most the frame
abbrev pub IsInside : ℕ → ℕ → SlotPlace → Type 0
IsInside frame buses p = (p.bus < buses) × (p.offset < 2 ^ p.period) × (p.period ≤ frame)

abbrev pub AreInside : SlotTable → List SlotPlace → Type 0
AreInside t places = All (IsInside t.frame t.buses) places

-- the place of the output of this number
abbrev pub place_in : List SlotPlace → ℕ → SlotPlace
place_in places o = get_or places o unplaced.place

-- the output of this number has the cell
abbrev pub HasCell : List SlotPlace → ℕ → ℕ → ℕ → Type 0
HasCell places o bus slot = ((place_in places o).bus ≡ bus) × (slot % 2 ^ (place_in places o).period ≡ (place_in places o).offset)

-- two of the places have a cell in common
pub record HaveCommonCell (places : List SlotPlace) : Type 0 where
  pub first : ℕ
  pub second : ℕ
  pub other : first ≢ second
  pub first_known : first < length places
  pub second_known : second < length places
  pub bus : ℕ
  pub slot : ℕ
  pub in_first : HasCell places first bus slot
  pub in_second : HasCell places second bus slot

-- ---- blocks

-- the block of an output at this place, in a frame of this exponent: places are counted bus by bus, and on a bus by the slot with its digits in reverse
abbrev pub block_of : ℕ → ℕ → SlotPlace → Block
block_of frame o p = record {
  begin = p.bus * 2 ^ frame + reversed frame p.offset;
  end = p.bus * 2 ^ frame + reversed frame p.offset + 2 ^ frame / 2 ^ p.period;
  output = o;
}

-- the blocks of outputs at these places, by their numbers
abbrev pub blocks_of : ℕ → List SlotPlace → List Block
blocks_of frame places = map (λ o. block_of frame o (place_in places o)) (range_with_len 0 (length places))

abbrev pub block_at : List Block → ℕ → Block
block_at blocks k = get_or blocks k (record { begin = 0; end = 0; output = 0 })

-- none begins before the end of the one before it
abbrev pub AreApart : List Block → Type 0
AreApart blocks = (k : ℕ) → k + 1 < length blocks → (block_at blocks k).end ≤ (block_at blocks (k + 1)).begin

-- one begins before the end of the one before it
abbrev pub HasOverlap : List Block → Type 0
HasOverlap blocks = (k : ℕ) × (k + 1 < length blocks) × ((block_at blocks (k + 1)).begin < (block_at blocks k).end)

-- ---- tables

-- the second table has the outputs of the first one at these places
pub record IsMoved (t u : SlotTable) (places : List SlotPlace) : Type 0 where
  pub frame : u.frame ≡ t.frame
  pub buses : u.buses ≡ t.buses
  pub sources : map (λ x. x.source) u.outputs ≡ map (λ x. x.source) t.outputs
  pub at : map (λ x. x.place) u.outputs ≡ places
  pub limits : map (λ x. x.limits) u.outputs ≡ map (λ x. x.limits) t.outputs

-- in the second plan the outputs of group g have these places, and nothing else differs
pub record IsReplaced (p q : PlanTable) (g : ℕ) (places : List SlotPlace) : Type 0 where
  pub before : SlotTable
  pub after : SlotTable
  pub there : slice_get (groups_of p) g ≡ Some before
  pub moved : IsMoved before after places
  pub groups : groups_of q ≡ slice_set (groups_of p) g after
  pub number : q.number ≡ p.number

-- each output of the group gets a place at its period, on one of the group's buses
pub record AreFor (p : PlanTable) (g : ℕ) (places : List SlotPlace) : Type 0 where
  pub table : SlotTable
  pub there : slice_get (groups_of p) g ≡ Some table
  pub periods : map (λ x. x.period) places ≡ map (λ o. o.place.period) table.outputs
  pub inside : AreInside table places
