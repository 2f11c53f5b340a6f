-- What any schedule of a group needs, of any form and with any periods (profile: raw bound).
use Rattle.std.specs.Prelude.{ℕ, ◌/◌, ◌^◌, List, Option, map, sum}
use Rattle.std.specs.Int.{div_ceil}
use Rattle.a429_pack.specs.Schedules.{Schedule, Serves}

-- a schedule that goes on as long as anyone asks: each row is a bus, each cell empty or an output
pub record Endless : Type 0 where
  pub rows : ℕ
  pub cell : ℕ → ℕ → Option ℕ

-- its first slots
abbrev pub begun : ℕ → Endless → Schedule
begun slots e = record { rows = e.rows; slots = slots; cell = e.cell }

-- each output recurs within its own window of slots, without end (ARINC 429 Part 1: maximum transmit interval)
abbrev pub ServesEndlessly : List ℕ → Endless → Type 0
ServesEndlessly windows e = (slots : ℕ) → Serves slots windows (begun slots e)

-- the least number of cells that outputs of these windows have in this number of slots: one in each whole window
abbrev pub cells_asked : ℕ → List ℕ → ℕ
cells_asked slots windows = sum (map (λ w. slots / w) windows)

-- the sum of 1 / window, each term cut off after 32 binary digits, and then rounded up
abbrev pub raw_bound : List ℕ → ℕ
raw_bound windows = div_ceil (cells_asked (2 ^ 32) windows) (2 ^ 32)
