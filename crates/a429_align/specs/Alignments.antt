-- What is found of a clock (profile: log).
use Rattle.std.specs.Prelude.{◌≤◌, ℕ}
use Rattle.a429_arguments.specs.Given.{last_drift, last_shift}
use Rattle.a429_arguments.specs.declared.times.Shift.{Shift}
use Rattle.a429_arguments.specs.declared.times.Shift.TheVariants as shift
use Rattle.a429_align.specs.Corrections.{parts_of}
use Rattle.a429_align.specs.declared.search.Alignment.{Alignment}

-- by how many microseconds a shift moves times
abbrev pub micros_of : Shift → ℕ
micros_of (shift.Later by) = by
micros_of (shift.Earlier by) = by

-- the options `--shift` and `--drift` can state it
pub record CanBeStated (a : Alignment) : Type 0 where
  pub shift : micros_of a.shift ≤ last_shift
  pub drift : parts_of a.drift ≤ last_drift
