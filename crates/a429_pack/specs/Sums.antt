-- Demands as stretches that follow one another (profile: layout).
use Rattle.std.specs.Prelude.{◌+◌, ◌<◌, ◌≤◌, ℕ, List, length, slice_index, sum, take}

-- the beginning of the stretch of demand i: after the stretches before it
abbrev pub start_of : List ℕ → ℕ → ℕ
start_of demands i = sum (take i demands)

-- the stretch of demand i has x
abbrev pub Holds : List ℕ → ℕ → ℕ → Type 0
Holds demands x i = (i < length demands) × (start_of demands i ≤ x) × (x < start_of demands i + slice_index demands i)
