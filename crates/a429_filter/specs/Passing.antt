-- A table of the labels that pass (profile: filters).
use Rattle.std.specs.Prelude.{◌≡◌, ◌<◌, ℕ, false, ◌||◌, List, Option, slice_index_or}
use Rattle.a429_filter.specs.declared.filters.Filter.{Filter}
use Rattle.a429_filter.specs.declared.passing.Passing.{Passing}
use Rattle.a429_filter.specs.Filters.{passes, set_passes}

-- the table says of each label whether the set passes it
abbrev pub TellsPassing : Passing → Option (List Filter) → Type 0
TellsPassing p set = (label : ℕ) → label < 256 → slice_index_or p.labels label false ≡ set_passes set label

-- those that passed before, and those that the filter passes
abbrev pub PassesMore : Passing → Filter → Passing → Type 0
PassesMore p f q = (label : ℕ) → label < 256 → slice_index_or q.labels label false ≡ (slice_index_or p.labels label false || passes f label)
