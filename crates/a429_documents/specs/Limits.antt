-- The fewest buses of a group, if each bus may have only a part of its cells filled (profile: docs/FORMATS.md, Output of `load`).
use Rattle.std.specs.Prelude.{ℕ, ◌+◌, ◌*◌, ◌/◌, ◌^◌, ◌≡◌, ◌==◌, ◌<◌, ◌≤◌, List, [], ◌∷◌, if◌then◌else◌, length, map, nat_le, sum, Option, None, Some}
use Rattle.std.specs.Int.{div_ceil}
use Rattle.std.specs.List.{AllByRecursion, list_all, range_with_len}
use Rattle.a429_pack.specs.Demands.{greatest}

-- how many cells of a frame are filled on a bus. Each output has its demand of cells, and is on the bus of its place.
abbrev pub load_on : ℕ → List ℕ → List ℕ → ℕ
load_on bus [] places = 0
load_on bus (d ∷ demands) [] = 0
load_on bus (d ∷ demands) (place ∷ places) = (if place == bus then d else 0) + load_on bus demands places

-- each output is on one of the buses, and no bus has more cells filled than the capacity
pub record IsSpread (demands : List ℕ) (capacity buses : ℕ) (places : List ℕ) : Type 0 where
  pub each : length places ≡ length demands
  pub known : AllByRecursion (λ place. place < buses) places
  pub within : (bus : ℕ) → load_on bus demands places ≤ capacity

-- the outputs can be spread over this number of buses, and not over fewer
pub record AreFewestWithin (demands : List ℕ) (capacity buses : ℕ) : Type 0 where
  pub enough : (places : List ℕ) × IsSpread demands capacity buses places
  pub least : (others : ℕ) (places : List ℕ) → IsSpread demands capacity others places → buses ≤ others

-- ---- how many they are

-- the demands of a group: a power of two each, of at most 2^13 cells, which is the longest frame
abbrev pub AreShares : List ℕ → Type 0
AreShares demands = AllByRecursion (λ d. (k : ℕ) × (k ≤ 13) × (d ≡ 2 ^ k)) demands

-- no output alone is above the capacity
abbrev pub FitEach : ℕ → List ℕ → Type 0
FitEach capacity demands = AllByRecursion (λ d. d ≤ capacity) demands

-- an output's demand, if it has at least this size
abbrev pub if_from : ℕ → ℕ → ℕ
if_from size d = if nat_le size d then d else 0

-- the cells of all outputs of at least this size
abbrev pub demand_from : ℕ → List ℕ → ℕ
demand_from size demands = sum (map (if_from size) demands)

-- The number of buses that the outputs of at least 2^k cells need: of each bus they fill a multiple of 2^k cells.
abbrev pub buses_from : ℕ → List ℕ → ℕ → ℕ
buses_from capacity demands k = div_ceil (demand_from (2 ^ k) demands) (capacity / 2 ^ k * 2 ^ k)

-- the greatest of these numbers
unfoldable pub buses_within : ℕ → List ℕ → ℕ
buses_within capacity demands = greatest (map (buses_from capacity demands) (range_with_len 0 14))

-- the number of buses, if no output alone is above the capacity
abbrev pub needed_buses : ℕ → List ℕ → Option ℕ
needed_buses capacity demands = if list_all (λ d. nat_le d capacity) demands then Some (buses_within capacity demands) else None

-- These buses are the fewest. If there is no number, the outputs cannot be spread over any number of buses.
abbrev pub AreNeeded : List ℕ → ℕ → Option ℕ → Type 0
AreNeeded demands capacity None = (buses : ℕ) (places : List ℕ) → IsSpread demands capacity buses places → ⊥
AreNeeded demands capacity (Some buses) = AreFewestWithin demands capacity buses
