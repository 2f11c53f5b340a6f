-- How outputs are chosen to be widened: from the shortest period on, as long as cells are needed (profile: docs/FORMATS.md, Output of `margin`).
use Rattle.std.specs.Prelude.{◌≡◌, ℕ, ◌+◌, ◌-◌, ◌*◌, ◌^◌, ◌<◌, ◌≤◌, List, [], ◌∷◌, Bool, false, IsTrue, ◌&&◌, nat_le, nat_lt, if◌then◌else◌, length, slice_index, slice_index_or}
use Rattle.a429_pack.specs.Widening.{freed_in}

-- the number of cells of a frame of 2^frame slots that become free if all outputs whose exponent is at least `low` and
-- below `high` are wider
abbrev pub freeable : ℕ → ℕ → ℕ → List ℕ → ℕ
freeable frame low high [] = 0
freeable frame low high (k ∷ exponents) =
    (if nat_le low k && nat_lt k high then 2 ^ (frame - k - 1) else 0) + freeable frame low high exponents

-- The state once the outputs with exponents below `low` are decided, if at least `needed` cells must become free:
-- `cells` are free already, and the outputs that are left suffice for the rest. No choice that suffices frees fewer.
pub record AreTaken (frame needed low : ℕ) (exponents : List ℕ) (chosen : List Bool) (cells : ℕ) : Type 0 where
  pub each : length chosen ≡ length exponents
  pub decided : (i : ℕ) → IsTrue (slice_index_or chosen i false) → slice_index exponents i < low
  pub is : cells ≡ freed_in frame exponents chosen
  pub whole : (m : ℕ) × (cells ≡ m * 2 ^ (frame - low))
  pub enough : needed ≤ cells + freeable frame low frame exponents
  pub tight : cells < needed + 2 ^ frame
  pub least : (others : List Bool) → ((i : ℕ) → IsTrue (slice_index_or others i false) → slice_index exponents i < frame)
      → needed ≤ freed_in frame exponents others → cells ≤ freed_in frame exponents others
