-- Which labels pass a list of filters (profile: filters).
use Rattle.std.specs.Prelude.{ℕ, Bool, true, List, [], Option, Some, None, ◌==◌, bit_and}
use Rattle.std.specs.List.{list_any}
use Rattle.a429_filter.specs.declared.filters.Filter.{Filter}

-- the label agrees with the filter's in the bits of the mask
abbrev pub passes : Filter → ℕ → Bool
passes f label = bit_and label f.mask == bit_and f.label f.mask

-- without a list each label passes; otherwise a label passes if a filter of the list passes it
abbrev pub set_passes : Option (List Filter) → ℕ → Bool
set_passes None label = true
set_passes (Some filters) label = list_any (λ f. passes f label) filters

-- the filters of a list; without a list, no filter
abbrev pub filters_of : Option (List Filter) → List Filter
filters_of None = []
filters_of (Some filters) = filters
