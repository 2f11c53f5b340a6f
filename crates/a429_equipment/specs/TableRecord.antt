-- The record that an equipment table states: receivers, sources, groups and outputs by their numbers in table order (profile: equipment table).
use Rattle.std.specs.Prelude.{ℕ, List, [], Option, map, slice_get, slice_index_or}
use Rattle.std.specs.Option.{option_map_or}
use Rattle.a429_equipment.specs.declared.rows.ReceiverRow.{ReceiverRow}
use Rattle.a429_equipment.specs.declared.rows.SourceRow.{SourceRow}
use Rattle.a429_equipment.specs.declared.rows.GroupRow.{GroupRow}
use Rattle.a429_equipment.specs.declared.rows.OutputRow.{OutputRow}
use Rattle.a429_equipment.specs.declared.rows.StationRows.{StationRows}
use Rattle.a429_equipment.specs.Version.{version_number}

pub record TableRecord : Type 0 where
  -- 1 or 2
  pub version : ℕ
  -- in bit/s, of all groups in version 1; none in version 2, in which each group has its own
  pub rate : Option ℕ
  pub receivers : List ReceiverRow
  pub sources : List SourceRow
  pub groups : List GroupRow
  -- of each group, its outputs
  pub outputs : List (List OutputRow)

-- those of a group; none if there is no such group
abbrev pub outputs_in : TableRecord → ℕ → List OutputRow
outputs_in t group = slice_index_or t.outputs group []

-- the name of the receiver of this number; empty if there is none
abbrev pub receiver_name : List ReceiverRow → ℕ → List ℕ
receiver_name receivers n = option_map_or (λ r. r.name) (slice_get receivers n) []

-- the record that the rows of a station are
abbrev pub record_of : StationRows → TableRecord
record_of rows = record {
  version = version_number rows.version;
  rate = rows.rate;
  receivers = rows.receivers.items;
  sources = rows.sources.items;
  groups = rows.groups.items;
  outputs = map (λ v. v.items) rows.outputs.items;
}
