-- Two equipments of one station: equal receivers with their filters as written, sources, and names and bit rates of groups, each in order
-- (profile: docs/RULES.md, Sending). Neither the versions nor the bit rates of the roots are compared: a table of version 1 and one of version 2 may
-- be of one station.
use Rattle.std.specs.Prelude.{◌≡◌, ◌==◌, ◌&&◌, ℕ, Bool, true, false, List, Option, Some, None, length}
use Rattle.std.specs.List.{list_all, zip}
use Rattle.std.specs.Str.{bytes_eq}
use Rattle.a429_filter.specs.declared.filters.Filter.{Filter}
use Rattle.a429_equipment.specs.declared.rows.ReceiverRow.{ReceiverRow}
use Rattle.a429_equipment.specs.declared.rows.SourceRow.{SourceRow}
use Rattle.a429_equipment.specs.declared.rows.GroupRow.{GroupRow}
use Rattle.a429_equipment.specs.TableRecord.{TableRecord}

-- as many on both sides, and each agrees with the one at its place
abbrev pub all_agree : {X : Type 0} → (X → X → Bool) → List X → List X → Bool
all_agree agree xs ys = length xs == length ys && list_all (λ p. agree p.0 p.1) (zip xs ys)

abbrev pub same_filter : Filter → Filter → Bool
same_filter a b = a.label == b.label && a.mask == b.mask

abbrev pub same_filters : Option (List Filter) → Option (List Filter) → Bool
same_filters None None = true
same_filters (Some a) (Some b) = all_agree same_filter a b
same_filters _ _ = false

abbrev pub same_receiver : ReceiverRow → ReceiverRow → Bool
same_receiver a b = bytes_eq a.name b.name && same_filters a.filters b.filters

abbrev pub same_number : Option ℕ → Option ℕ → Bool
same_number None None = true
same_number (Some a) (Some b) = a == b
same_number _ _ = false

abbrev pub same_sdi : Option ℕ → Option ℕ → Bool
same_sdi a b = same_number a b

abbrev pub same_source : SourceRow → SourceRow → Bool
same_source a b = bytes_eq a.name b.name && (a.receiver == b.receiver && (a.label == b.label && same_sdi a.sdi b.sdi))

abbrev pub same_group : GroupRow → GroupRow → Bool
same_group a b = bytes_eq a.name b.name && a.rate == b.rate

unfoldable pub same_station : TableRecord → TableRecord → Bool
same_station a b =
    all_agree same_receiver a.receivers b.receivers && (all_agree same_source a.sources b.sources && all_agree same_group a.groups b.groups)

-- equal receivers, sources and groups, which is what the comparison tests
abbrev pub HaveOneStation : TableRecord → TableRecord → Type 0
HaveOneStation a b = (a.receivers ≡ b.receivers) × (a.sources ≡ b.sources) × (a.groups ≡ b.groups)
