-- The layout of a group: consecutive stretches of places, and the cells that they stand for (profile: layout).
use Rattle.std.specs.Prelude.{◌≡◌, ℕ, ◌+◌, ◌-◌, ◌*◌, ◌/◌, ◌%◌, ◌^◌, ◌<◌, ◌≤◌, List, length, slice_index, sum}
use Rattle.std.specs.List.{range_with_len}
use Rattle.std.specs.List.Sorted.{IsPermutation}
use Rattle.a429_grid.specs.Reversal.{reversed}
use Rattle.a429_pack.specs.Schedules.{IsExactlyPeriodic}
use Rattle.a429_pack.specs.Sums.{start_of, Holds}

-- A frame has 2^frame slots on each bus. The inputs are in layout order. Each demand is how many slots of a frame its
-- input has.
pub record Layout : Type 0 where
  pub frame : ℕ
  pub buses : ℕ
  pub inputs : List ℕ
  pub demands : List ℕ

-- how many slots a frame has
abbrev pub slots_of : Layout → ℕ
slots_of l = 2 ^ l.frame

-- the place of a cell among all: bus by bus, and on a bus by the slot with its digits in reverse
abbrev pub place_of_cell : Layout → ℕ → ℕ → ℕ
place_of_cell l bus slot = bus * slots_of l + reversed l.frame (slot % slots_of l)

-- the cells of the stretch of demand k
abbrev pub IsCellOf : Layout → ℕ → ℕ → ℕ → Type 0
IsCellOf l k bus slot = Holds l.demands (place_of_cell l bus slot) k

-- What is true of every layout: it has each input once, no stretch crosses a bus, and every bus except the last is
-- full. Each stretch has the cells of one bus and one offset, once in every period.
pub record IsLaidOut (l : Layout) : Type 0 where
  pub frame : l.frame ≤ 13
  pub few : l.buses ≤ 16
  pub inputs : IsPermutation (range_with_len 0 (length l.demands)) l.inputs
  pub on_one_bus : (k : ℕ) → k < length l.demands
      → start_of l.demands k / slots_of l ≡ (start_of l.demands k + slice_index l.demands k - 1) / slots_of l
  pub room : sum l.demands ≤ l.buses * slots_of l
  pub full : (l.buses - 1) * slots_of l < sum l.demands
  pub periodic : (k : ℕ) → k < length l.demands
      → IsExactlyPeriodic (IsCellOf l k) (start_of l.demands k / slots_of l) (reversed l.frame (start_of l.demands k % slots_of l)) (slots_of l / slice_index l.demands k)
