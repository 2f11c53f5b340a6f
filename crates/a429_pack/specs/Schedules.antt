-- Schedules of a group of outputs on some buses, of any form, and the fewest buses (profile: docs/RULES.md, Plans).
use Rattle.std.specs.Prelude.{◌≡◌, ℕ, ◌+◌, ◌<◌, ◌≤◌, ◌%◌, ◌↔◌, Option, Some, List, length, slice_index}

-- Each row is a bus, with one slot after another. Each cell is empty or names an output; what `cell` says is
-- read below `rows` and `slots` only. No cycle is assumed.
pub record Schedule : Type 0 where
  pub rows : ℕ
  pub slots : ℕ
  pub cell : ℕ → ℕ → Option ℕ

-- each cell that is not empty names one of n outputs
abbrev pub NamesBelow : ℕ → Schedule → Type 0
NamesBelow n s = (row slot output : ℕ) → row < s.rows → slot < s.slots → s.cell row slot ≡ Some output → output < n

-- any `period` slots in a row have the output on some bus (ARINC 429 Part 1: maximum transmit interval)
abbrev pub RecursWithin : ℕ → ℕ → Schedule → Type 0
RecursWithin period output s =
    (from : ℕ) → from + period ≤ s.slots
    → (row : ℕ) × (slot : ℕ) × (row < s.rows) × (from ≤ slot) × (slot < from + period) × (s.cell row slot ≡ Some output)

-- A schedule that serves a group, given by the outputs' periods: it has at least `frame` slots, and each output
-- recurs within its period.
pub record Serves (frame : ℕ) (periods : List ℕ) (s : Schedule) : Type 0 where
  pub names : NamesBelow (length periods) s
  pub long : frame ≤ s.slots
  pub recurs : (output : ℕ) → output < length periods → RecursWithin (slice_index periods output) output s

-- some schedule with m rows serves the group, and none with fewer rows does
pub record IsFewest (frame : ℕ) (periods : List ℕ) (m : ℕ) : Type 0 where
  pub enough : (s : Schedule) × (s.rows ≡ m) × Serves frame periods s
  pub least : (s : Schedule) → Serves frame periods s → m ≤ s.rows

-- the cells are those of one bus in the slots that leave one offset when they are divided by the period, and
-- no others, for every slot
pub record IsExactlyPeriodic (IsIn : ℕ → ℕ → Type 0) (bus offset period : ℕ) : Type 0 where
  pub within : offset < period
  pub cells : (row slot : ℕ) → IsIn row slot ↔ ((row ≡ bus) × (slot % period ≡ offset))
