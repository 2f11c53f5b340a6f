-- The record that a table without faults states (profile: equipment table).
use Rattle.std.specs.Prelude.{codes, ℕ, ◌^◌, ℤ, pos, negsuc, List, map, Option, Some, None, option_map, unwrap_or, is_none, nat_lt, if◌then◌else◌}
use Rattle.toml.specs.Data.{Data, get}
use Rattle.a429_word.specs.Texts.{octal_number}
use Rattle.a429_filter.specs.declared.filters.Filter.{Filter}
use Rattle.a429_filter.specs.FilterTexts.{filter_of}
use Rattle.a429_equipment.specs.declared.rows.ReceiverRow.{ReceiverRow}
use Rattle.a429_equipment.specs.declared.rows.SourceRow.{SourceRow}
use Rattle.a429_equipment.specs.declared.rows.GroupRow.{GroupRow}
use Rattle.a429_equipment.specs.declared.rows.OutputRow.{OutputRow}
use Rattle.a429_equipment.specs.declared.version.TableVersion.{TableVersion}
use Rattle.a429_equipment.specs.declared.version.TableVersion.TheVariants.{One, Two}
use Rattle.a429_equipment.specs.TableRecord.{TableRecord}
use Rattle.a429_table.specs.Tree.{text_of, text_at, integer_at, get_integer, rows_at}
use Rattle.a429_equipment.specs.Version.{version_number}
use Rattle.a429_table.specs.Version.{version_of}
use Rattle.a429_table.specs.Names.{name_of, number_named}
use Rattle.a429_table.specs.Faults.{sdi_at}

-- a number below the limit, which each is in a table without faults
abbrev pub natural : ℕ → ℤ → ℕ
natural limit (pos n) = if nat_lt n limit then n else 0
natural limit (negsuc n) = 0

-- the number of the first table with the name, which there is in a table without faults
abbrev pub number_of : List ℕ → List Data → ℕ
number_of name ds = unwrap_or (number_named name ds) 0

abbrev pub filter_row : Data → Filter
filter_row d = filter_of (text_of (Some d))

-- the filters, if there is a list of them
abbrev pub filters_of : Data → Option (List Filter)
filters_of d = if is_none (get (codes "filters") d) then None else Some (map filter_row (rows_at (codes "filters") d))

unfoldable pub receiver_row : Data → ReceiverRow
receiver_row d = record { name = name_of d; filters = filters_of d }

unfoldable pub source_row : Data → Data → SourceRow
source_row root d = record {
  name = name_of d;
  receiver = number_of (text_at (codes "receiver") d) (rows_at (codes "receiver") root);
  label = octal_number (text_at (codes "label") d);
  sdi = option_map (natural 4) (sdi_at d);
}

-- the bit rate of a table, in bit/s
abbrev pub rate_at : Data → ℕ
rate_at d = natural (2 ^ 32) (integer_at (codes "rate") d)

-- the root has a rate in version 1 (profile: equipment table, version 2)
abbrev pub rate_of : TableVersion → Data → Option ℕ
rate_of One root = Some (rate_at root)
rate_of Two root = None

-- the root's bit rate, if there is one; otherwise the group's own (profile: equipment table, version 2)
unfoldable pub group_row : Option ℕ → Data → GroupRow
group_row rate d = record { name = name_of d; rate = unwrap_or rate (rate_at d) }

-- an output may have a hold in version 2 (profile: equipment table, version 2)
abbrev pub hold_of : TableVersion → Data → Option ℕ
hold_of One d = None
hold_of Two d = option_map (natural (2 ^ 32)) (get_integer (codes "hold") d)

unfoldable pub output_row : Data → Data → OutputRow
output_row root d = record {
  source = number_of (text_at (codes "source") d) (rows_at (codes "source") root);
  min_us = natural (2 ^ 32) (integer_at (codes "min_us") d);
  max_us = natural (2 ^ 32) (integer_at (codes "max_us") d);
  hold = hold_of (version_of root) d;
}

abbrev pub output_rows : Data → Data → List OutputRow
output_rows root group = map (output_row root) (rows_at (codes "output") group)

unfoldable pub stated : Data → TableRecord
stated root = record {
  version = version_number (version_of root);
  rate = rate_of (version_of root) root;
  receivers = map receiver_row (rows_at (codes "receiver") root);
  sources = map (source_row root) (rows_at (codes "source") root);
  groups = map (group_row (rate_of (version_of root) root)) (rows_at (codes "group") root);
  outputs = map (output_rows root) (rows_at (codes "group") root);
}
