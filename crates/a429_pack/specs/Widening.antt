-- Outputs of a group that get twice their period, so that the group does with a bus less (profile: docs/FORMATS.md, Output of `margin`).
use Rattle.std.specs.Prelude.{◌≡◌, ℕ, ◌+◌, ◌-◌, ◌*◌, ◌^◌, ◌<◌, ◌≤◌, List, [], ◌∷◌, Bool, true, false, IsTrue, length, slice_index, slice_index_or}
use Rattle.a429_pack.specs.Demanded.{demand_of, IsBusCount}
use Rattle.a429_pack.specs.Demands.{greatest}

-- the periods' exponents if each chosen output has twice its period: an exponent of one more
abbrev pub widened : List ℕ → List Bool → List ℕ
widened [] chosen = []
widened (k ∷ exponents) [] = k ∷ exponents
widened (k ∷ exponents) (true ∷ chosen) = (k + 1) ∷ widened exponents chosen
widened (k ∷ exponents) (false ∷ chosen) = k ∷ widened exponents chosen

-- A choice among the outputs, yes or no for each one, of which each chosen output has a period below the greatest:
-- so the frame stays.
pub record MayWiden (exponents : List ℕ) (chosen : List Bool) : Type 0 where
  pub each : length chosen ≡ length exponents
  pub shorter : (i : ℕ) → IsTrue (slice_index_or chosen i false) → slice_index exponents i < greatest exponents

-- the number of cells of a frame of 2^frame slots that become free if the chosen outputs are wider: half of those that
-- each one had
abbrev pub freed_in : ℕ → List ℕ → List Bool → ℕ
freed_in frame [] chosen = 0
freed_in frame (k ∷ exponents) [] = 0
freed_in frame (k ∷ exponents) (true ∷ chosen) = 2 ^ (frame - k - 1) + freed_in frame exponents chosen
freed_in frame (k ∷ exponents) (false ∷ chosen) = freed_in frame exponents chosen

-- how many cells of the group's frame become free
abbrev pub freed : List ℕ → List Bool → ℕ
freed exponents chosen = freed_in (greatest exponents) exponents chosen

-- how many cells of the demand one bus less has no room for
abbrev pub excess : List ℕ → ℕ → ℕ
excess exponents buses = demand_of exponents - (buses - 1) * 2 ^ greatest exponents

-- the group with the chosen outputs wider needs exactly one bus less
pub record Saves (exponents : List ℕ) (buses : ℕ) (chosen : List Bool) : Type 0 where
  pub may : MayWiden exponents chosen
  pub fewer : IsBusCount (widened exponents chosen) (buses - 1)

-- no other choice that saves a bus frees fewer cells
pub record IsLeastSaving (exponents : List ℕ) (buses : ℕ) (chosen : List Bool) : Type 0 where
  pub saves : Saves exponents buses chosen
  pub least : (others : List Bool) → MayWiden exponents others → demand_of (widened exponents others) ≤ (buses - 1) * 2 ^ greatest exponents
      → freed exponents chosen ≤ freed exponents others

-- no choice saves a bus
abbrev pub NoneSaves : List ℕ → ℕ → Type 0
NoneSaves exponents buses = (others : List Bool) → MayWiden exponents others
    → (buses - 1) * 2 ^ greatest exponents < demand_of (widened exponents others)
