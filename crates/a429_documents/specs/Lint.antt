-- Likely mistakes in a table: the rows of `lint` (profile: lint).
use Rattle.std.specs.Prelude.{ℕ, ◌+◌, ◌-◌, ◌*◌, ◌/◌, ◌^◌, ◌≡◌, ◌==◌, ◌&&◌, Bool, true, false, List, [], ◌∷◌, Option, None, Some, codes, if◌then◌else◌, is_some, nat_le, nat_lt, length, slice_get, slice_index_or}
use Rattle.std.specs.Int.{div_ceil}
use Rattle.std.specs.List.{AllZip, flat_map, list_all, list_any, range_with_len}
use Rattle.std.specs.Option.{option_map, option_map_or}
use Rattle.a429_text.specs.Fields.{Field, Text, Number, Tenths, Absent}
use Rattle.a429_text.specs.Sheets.{field_of}
use Rattle.a429_text.specs.declared.cells.Cell.{Cell}
use Rattle.a429_equipment.specs.SameStation.{same_filters}
use Rattle.a429_equipment.specs.TableRecord.{TableRecord, outputs_in}
use Rattle.a429_equipment.specs.declared.rows.GroupRow.{GroupRow}
use Rattle.a429_equipment.specs.declared.rows.OutputRow.{OutputRow}
use Rattle.a429_equipment.specs.declared.rows.ReceiverRow.{ReceiverRow}
use Rattle.a429_equipment.specs.declared.rows.SourceRow.{SourceRow}
use Rattle.a429_filter.specs.Filters.{filters_of, passes, set_passes}
use Rattle.a429_filter.specs.declared.filters.Filter.{Filter}
use Rattle.a429_grid.specs.Grid.{slot_time}
use Rattle.a429_pack.specs.Demanded.{demand_of}
use Rattle.a429_pack.specs.Demands.{demand_at, exponent_of, exponents_of, greatest}
use Rattle.a429_pack.specs.declared.demands.Demand.{Demand}
use Rattle.a429_slots.specs.Asked.{IsAsked}
use Rattle.a429_slots.specs.Planned.{rated_outputs}
use Rattle.a429_cert.specs.PlanText.{source_name}
use Rattle.a429_documents.specs.declared.lint.Finding.{Finding}
use Rattle.a429_documents.specs.declared.lint.Finding.TheVariants.{OfGroup, OfSource, OfReceiver}
use Rattle.a429_documents.specs.declared.lint.GroupFinding.{GroupFinding}
use Rattle.a429_documents.specs.declared.lint.GroupFinding.TheVariants.{Unfit, TooManyBuses, Alike, Full, Coarse, Crowded, Millis}
use Rattle.a429_documents.specs.declared.lint.SourceFinding.{SourceFinding}
use Rattle.a429_documents.specs.declared.lint.SourceFinding.TheVariants.{Unheard, Unsent}
use Rattle.a429_documents.specs.declared.lint.ReceiverFinding.{ReceiverFinding}
use Rattle.a429_documents.specs.declared.lint.ReceiverFinding.TheVariants.{Idle, Blind, SameFilters}

-- ---- the columns

-- what is found, where, and a number and a load in per cent of a bus if the finding has them
abbrev pub lint_columns : List (List ℕ)
lint_columns =
    codes "finding" ∷ codes "group" ∷ codes "receiver" ∷ codes "source" ∷ codes "other" ∷ codes "number" ∷ codes "percent" ∷ []

-- a finding of a group: of one or two of its sources, or with a number
abbrev pub group_row : List ℕ → List ℕ → Field → Field → Field → List Field
group_row finding group source other number = Text finding ∷ Text group ∷ Absent ∷ source ∷ other ∷ number ∷ Absent ∷ []

-- the same of what is written into the cells
abbrev pub finding_row : List ℕ → List ℕ → Cell → Cell → Cell → List Field
finding_row finding group source other number = group_row finding group (field_of source) (field_of other) (field_of number)

-- a load of a group: that of a source, or of a bus, in tenths of a per cent of a bus
abbrev pub load_row : List ℕ → List ℕ → Field → Field → ℕ → List Field
load_row finding group source bus tenths = Text finding ∷ Text group ∷ Absent ∷ source ∷ Absent ∷ bus ∷ Tenths tenths ∷ []

-- a finding of a source
abbrev pub source_row : List ℕ → List ℕ → List Field
source_row finding source = Text finding ∷ Absent ∷ Absent ∷ Text source ∷ Absent ∷ Absent ∷ Absent ∷ []

-- a finding of a receiver: of another one, or with a number
abbrev pub receiver_row : List ℕ → List ℕ → Field → Field → List Field
receiver_row finding receiver other number = Text finding ∷ Absent ∷ Text receiver ∷ Absent ∷ other ∷ number ∷ Absent ∷ []

-- the rows of the numbers below a count, in order
abbrev pub of_each : {X : Type 0} → ℕ → (ℕ → List X) → List X
of_each count said = flat_map said (range_with_len 0 count)

-- ---- groups

-- The demands of each group: of each output the grid period of its interval, if there is one, and the label and SDI of its source.
abbrev pub AreAsked : TableRecord → List (List Demand) → Type 0
AreAsked e asked = AllZip (λ rated demands. AllZip (IsAsked rated.0 e.sources) rated.1 demands) (rated_outputs e) asked

-- the demands of one group; empty if there is no such group
abbrev pub asked_in : List (List Demand) → ℕ → List Demand
asked_in asked group = slice_index_or asked group []

-- the name of the source of an output; empty if there is no such output
abbrev pub output_name : List SourceRow → List OutputRow → ℕ → List ℕ
output_name sources rows o = option_map_or (λ row. source_name sources row.source) (slice_get rows o) []

-- each output has a grid period
abbrev pub are_fit : List Demand → Bool
are_fit demands = list_all (λ d. is_some d.period) demands

-- the fewest buses for outputs with these exponents of periods: as many as the demand of a frame fills, rounded up
abbrev pub bus_count : List ℕ → ℕ
bus_count exponents = div_ceil (demand_of exponents) (2 ^ greatest exponents)

-- an output without a grid period
abbrev pub unfit_rows : List SourceRow → List ℕ → List OutputRow → List Demand → ℕ → List (List Field)
unfit_rows sources group rows demands o =
    if is_some (demand_at demands o).period then [] else group_row (codes "unfit") group (Text (output_name sources rows o)) Absent Absent ∷ []

-- each output has a grid period, and the fewest buses are more than a group can have
abbrev pub needs_too_many : List Demand → Bool
needs_too_many demands = are_fit demands && nat_lt 16 (bus_count (exponents_of demands))

abbrev pub needed_row : List ℕ → ℕ → List Field
needed_row group buses = group_row (codes "too-many-buses") group Absent Absent (Number buses)

-- such a group, with the fewest buses that it needs
abbrev pub too_many_rows : List ℕ → List Demand → List (List Field)
too_many_rows group demands =
    if needs_too_many demands then needed_row group (bus_count (exponents_of demands)) ∷ [] else []

-- one of the two is any, and the other is a number
abbrev pub one_is_any : Option ℕ → Option ℕ → Bool
one_is_any None (Some sdi) = true
one_is_any (Some sdi) None = true
one_is_any _ _ = false

-- an output and a later one have one label, and only one of them has SDI any
abbrev pub are_alike : List Demand → ℕ → ℕ → Bool
are_alike demands o p =
    nat_lt o p && ((demand_at demands o).label == (demand_at demands p).label && one_is_any (demand_at demands o).sdi (demand_at demands p).sdi)

abbrev pub alike_row : List SourceRow → List ℕ → List OutputRow → List Demand → ℕ → ℕ → List (List Field)
alike_row sources group rows demands o p =
    if are_alike demands o p then group_row (codes "alike") group (Text (output_name sources rows o)) (Text (output_name sources rows p)) Absent ∷ [] else []

-- the rows of one output with each later one
abbrev pub alike_rows : List SourceRow → List ℕ → List OutputRow → List Demand → ℕ → List (List Field)
alike_rows sources group rows demands o = of_each (length rows) (alike_row sources group rows demands o)

-- the group can be planned, and its demand fills each cell of its buses
abbrev pub is_full : List Demand → Bool
is_full demands =
    are_fit demands && (nat_le (bus_count (exponents_of demands)) 16
    && demand_of (exponents_of demands) == bus_count (exponents_of demands) * 2 ^ greatest (exponents_of demands))

abbrev pub full_rows : List ℕ → List Demand → List (List Field)
full_rows group demands = if is_full demands then group_row (codes "full") group Absent Absent Absent ∷ [] else []

-- the maximum interval of an output; 0 if there is no such output
abbrev pub max_of : List OutputRow → ℕ → ℕ
max_of rows o = option_map_or (λ row. row.max_us) (slice_get rows o) 0

-- a grid period, by its exponent, is shorter than two thirds of a maximum interval in microseconds, at a bit rate in bit/s
abbrev pub is_coarse : ℕ → ℕ → ℕ → Bool
is_coarse rate max_us k = nat_lt (3 * slot_time * 2 ^ k / 2) (max_us * rate)

-- such a period of an output, with the part of a bus that it fills
abbrev pub coarse_row : List ℕ → List ℕ → ℕ → ℕ → Option ℕ → List (List Field)
coarse_row group source rate max_us None = []
coarse_row group source rate max_us (Some k) =
    if is_coarse rate max_us k then load_row (codes "coarse") group (Text source) Absent (div_ceil 1000 (2 ^ k)) ∷ [] else []

abbrev pub coarse_rows : List SourceRow → List ℕ → ℕ → List OutputRow → List Demand → ℕ → List (List Field)
coarse_rows sources group rate rows demands o = coarse_row group (output_name sources rows o) rate (max_of rows o) (demand_at demands o).period

-- the buses of the group, if it can be planned
abbrev pub planned_buses : List Demand → ℕ
planned_buses demands =
    if are_fit demands && nat_le (bus_count (exponents_of demands)) 16 then bus_count (exponents_of demands) else 0

-- the cells of a frame that are filled from the first of a bus on: the layout fills a bus before it begins the next
abbrev pub filled_from : ℕ → ℕ → ℕ
filled_from left frame = if nat_lt left frame then left else frame

abbrev pub cells_of_bus : List Demand → ℕ → ℕ
cells_of_bus demands bus =
    filled_from (demand_of (exponents_of demands) - bus * 2 ^ greatest (exponents_of demands)) (2 ^ greatest (exponents_of demands))

-- a bus of which more than 80 per cent of the cells are filled
abbrev pub crowded_row : List ℕ → ℕ → ℕ → ℕ → List (List Field)
crowded_row group bus frame cells =
    if nat_lt (80 * frame) (100 * cells) then load_row (codes "crowded") group Absent (Number bus) (div_ceil (1000 * cells) frame) ∷ [] else []

abbrev pub crowded_rows : List ℕ → List Demand → ℕ → List (List Field)
crowded_rows group demands bus = crowded_row group bus (2 ^ greatest (exponents_of demands)) (cells_of_bus demands bus)

-- each maximum interval is below five milliseconds
abbrev pub are_brief : List OutputRow → Bool
are_brief rows = list_all (λ row. nat_lt row.max_us 5000) rows

-- an output takes a quarter of a bus or more: its period has at most four slots
abbrev pub has_quarter : List Demand → Bool
has_quarter demands = list_any (λ d. nat_le (exponent_of d) 2) demands

-- The intervals of a group that can be planned, of four outputs or more, may be milliseconds in a column of microseconds: labels of
-- ARINC 429 Part 1 have intervals of ten milliseconds and more.
abbrev pub may_be_millis : List OutputRow → List Demand → Bool
may_be_millis rows demands = (are_fit demands && nat_le 4 (length rows)) && (are_brief rows && has_quarter demands)

-- the group of this number has such intervals, or not, by the demands of its outputs
abbrev pub IsMillisGroup : TableRecord → ℕ → Bool → Type 0
IsMillisGroup e group found =
    (rate : ℕ) × (demands : List Demand) × AllZip (IsAsked rate e.sources) (outputs_in e group) demands × (found ≡ may_be_millis (outputs_in e group) demands)
    × (option_map (λ g. g.rate) (slice_get e.groups group) ≡ Some rate)

abbrev pub millis_rows : List ℕ → List OutputRow → List Demand → List (List Field)
millis_rows group rows demands = if may_be_millis rows demands then group_row (codes "milliseconds") group Absent Absent Absent ∷ [] else []

-- the findings of one kind in a group, outputs in table order
abbrev pub group_finding : List SourceRow → GroupFinding → GroupRow → List OutputRow → List Demand → List (List Field)
group_finding sources Unfit g rows demands = of_each (length rows) (unfit_rows sources g.name rows demands)
group_finding sources TooManyBuses g rows demands = too_many_rows g.name demands
group_finding sources Alike g rows demands = of_each (length rows) (alike_rows sources g.name rows demands)
group_finding sources Full g rows demands = full_rows g.name demands
group_finding sources Coarse g rows demands = of_each (length rows) (coarse_rows sources g.name g.rate rows demands)
group_finding sources Crowded g rows demands = of_each (planned_buses demands) (crowded_rows g.name demands)
group_finding sources Millis g rows demands = millis_rows g.name rows demands

abbrev pub group_rows : TableRecord → List (List Demand) → GroupFinding → ℕ → List (List Field)
group_rows e asked kind n =
    option_map_or (λ g. group_finding e.sources kind g (outputs_in e n) (asked_in asked n)) (slice_get e.groups n) []

-- the findings of one kind in each group
abbrev pub group_findings : TableRecord → List (List Demand) → GroupFinding → List (List Field)
group_findings e asked kind = of_each (length e.groups) (group_rows e asked kind)

-- ---- sources

-- a filter of its receiver passes its label, or the receiver has no list of filters
abbrev pub is_heard : List ReceiverRow → SourceRow → Bool
is_heard receivers s = option_map_or (λ r. set_passes r.filters s.label) (slice_get receivers s.receiver) false

-- the group has an output of the source
abbrev pub has_output_of : List OutputRow → ℕ → Bool
has_output_of rows source = list_any (λ row. row.source == source) rows

-- some group has an output of it
abbrev pub is_sent : TableRecord → ℕ → Bool
is_sent e source = list_any (λ group. has_output_of (outputs_in e group) source) (range_with_len 0 (length e.groups))

-- the finding of one kind about a source
abbrev pub source_finding : TableRecord → SourceFinding → ℕ → SourceRow → List (List Field)
source_finding e Unheard n s = if is_heard e.receivers s then [] else source_row (codes "unheard") s.name ∷ []
source_finding e Unsent n s = if is_sent e n then [] else source_row (codes "unsent") s.name ∷ []

abbrev pub source_rows : TableRecord → SourceFinding → ℕ → List (List Field)
source_rows e kind n = option_map_or (source_finding e kind n) (slice_get e.sources n) []

-- ---- receivers

-- some source is on the receiver
abbrev pub has_source : List SourceRow → ℕ → Bool
has_source sources r = list_any (λ s. s.receiver == r) sources

-- the filter passes the label of a source of the receiver
abbrev pub sees_source : List SourceRow → ℕ → Filter → Bool
sees_source sources r f = list_any (λ s. s.receiver == r && passes f s.label) sources

-- a filter that passes no label of the receiver's sources, by its number from 1
abbrev pub blind_rows : List SourceRow → ℕ → List ℕ → List Filter → ℕ → List (List Field)
blind_rows sources r name filters n =
    option_map_or (λ f. if sees_source sources r f then [] else receiver_row (codes "blind") name Absent (Number (n + 1)) ∷ []) (slice_get filters n) []

-- a receiver without a source
abbrev pub idle_rows : List SourceRow → ℕ → ReceiverRow → List (List Field)
idle_rows sources n r = if has_source sources n then [] else receiver_row (codes "idle") r.name Absent Absent ∷ []

-- the filters of a receiver that pass none of its sources
abbrev pub all_blind_rows : List SourceRow → ℕ → ReceiverRow → List (List Field)
all_blind_rows sources n r = of_each (length (filters_of r.filters)) (blind_rows sources n r.name (filters_of r.filters))

-- both receivers have a list of filters, and it is the same
abbrev pub are_twins : ReceiverRow → ReceiverRow → Bool
are_twins r other = is_some r.filters && same_filters r.filters other.filters

-- a receiver with a later one that has the same filters
abbrev pub twin_row : ℕ → ReceiverRow → ℕ → ReceiverRow → List (List Field)
twin_row n r m other =
    if nat_lt n m && are_twins r other then receiver_row (codes "same-filters") r.name (Text other.name) Absent ∷ [] else []

-- the same of the receiver with this number
abbrev pub twin_rows : List ReceiverRow → ℕ → ReceiverRow → ℕ → List (List Field)
twin_rows receivers n r m = option_map_or (twin_row n r m) (slice_get receivers m) []

-- the findings of one kind about a receiver, filters in order
abbrev pub receiver_finding : List ReceiverRow → List SourceRow → ReceiverFinding → ℕ → ReceiverRow → List (List Field)
receiver_finding receivers sources Idle n r = idle_rows sources n r
receiver_finding receivers sources Blind n r = all_blind_rows sources n r
receiver_finding receivers sources SameFilters n r = of_each (length receivers) (twin_rows receivers n r)

abbrev pub receiver_rows : TableRecord → ReceiverFinding → ℕ → List (List Field)
receiver_rows e kind n = option_map_or (receiver_finding e.receivers e.sources kind n) (slice_get e.receivers n) []

-- ---- all findings

-- the findings of one kind, in table order
abbrev pub finding_rows : TableRecord → List (List Demand) → Finding → List (List Field)
finding_rows e asked (OfGroup kind) = group_findings e asked kind
finding_rows e asked (OfSource kind) = of_each (length e.sources) (source_rows e kind)
finding_rows e asked (OfReceiver kind) = of_each (length e.receivers) (receiver_rows e kind)

-- the kinds, in the order of the rows
abbrev pub findings : List Finding
findings =
    OfGroup Unfit ∷ OfGroup TooManyBuses ∷ OfSource Unheard ∷ OfSource Unsent ∷ OfReceiver Idle ∷ OfReceiver Blind ∷ OfGroup Alike ∷ OfGroup Full ∷ OfGroup Coarse
    ∷ OfReceiver SameFilters ∷ OfGroup Crowded ∷ OfGroup Millis ∷ []

-- a row for each finding, kind by kind, from the demands of the groups
abbrev pub lint_rows : TableRecord → List (List Demand) → List (List Field)
lint_rows e asked = flat_map (finding_rows e asked) findings

abbrev pub AreFindings : TableRecord → List (List Field) → Type 0
AreFindings e rows = (asked : List (List Demand)) × AreAsked e asked × (rows ≡ lint_rows e asked)
