-- Filters as texts (profile: filters).
use Rattle.std.specs.Prelude.{ℕ, ◌==◌, ◌&&◌, List, Bool, Option, Some, None, drop, is_some, length, slice_index, take, unwrap_or, if◌then◌else◌}
use Rattle.a429_word.specs.Texts.{label_value, octal_number}
use Rattle.a429_filter.specs.declared.filters.Filter.{Filter}

-- a label, a slash and a mask, each of three octal digits: 203/377
unfoldable pub is_filter : List ℕ → Bool
is_filter s = (length s == 7 && slice_index s 3 == 47) && (is_some (label_value (take 3 s)) && is_some (label_value (drop 4 s)))

-- the filter that a text states
unfoldable pub filter_read : List ℕ → Option Filter
filter_read s = if is_filter s then Some (record { label = octal_number (take 3 s); mask = octal_number (drop 4 s) }) else None

-- the filter that a text of this form states; of another text, one that passes every label
unfoldable pub filter_of : List ℕ → Filter
filter_of s = unwrap_or (filter_read s) (record { label = 0; mask = 0 })
