-- What a reader does at a stretch of bytes, for its own proof: the public clauses do not speak of it (vocabulary of contracts).
use Rattle.std.specs.Prelude.{◌≡◌, ◌==◌, ◌≤◌, ℕ, List, length, map, slice_range}
use Rattle.std.specs.Simd.Lanes.{mask_l}
use Rattle.a429_line.specs.LineBytes.{symbols_of}
use Rattle.a429_line.specs.Stages.{after_all, due_in}
use Rattle.a429_line.specs.declared.found.Found.{Found}
use Rattle.a429_line.specs.declared.stage.Stage.{Stage}

-- the bytes from one place up to another lead from one stage to another, and these reports are due in them
pub record Takes (bytes : List ℕ) (from : ℕ) (before : Stage) (found : List Found) (to : ℕ) (stage : Stage) : Type 0 where
  pub forward : from ≤ to
  pub within : to ≤ length bytes
  pub due : due_in before (symbols_of (slice_range bytes from to)) ≡ found
  pub after : after_all before (symbols_of (slice_range bytes from to)) ≡ stage

-- the places of a byte, as the bits of a number: the first is the lowest
abbrev pub places : ℕ → List ℕ → ℕ
places byte bytes = mask_l (map (λ b. b == byte) bytes)
