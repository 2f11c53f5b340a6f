-- The first column of which rows have one too many (profile: equipment table).
use Rattle.std.specs.Prelude.{◌&&◌, ◌||◌, Bool, List, Option, None, Some, if◌then◌else◌, length, nat_lt}
use Rattle.std.specs.List.{count_by}
use Rattle.a429_import.specs.declared.fault.ImportColumn.{ImportColumn}
use Rattle.a429_import.specs.declared.fault.ImportColumn.TheVariants.{Receiver, Source, Group, Filters}
use Rattle.a429_import.specs.declared.firsts.Part.TheVariants.{Receivers, Sources, Groups}
use Rattle.a429_import.specs.declared.rows.ImportRow.{ImportRow}
use Rattle.a429_import.specs.ImportTables.{firsts, groups_of, has_group, same_name, words}

-- the receiver of a row has more filters than it may have
abbrev pub has_too_many_filters : ImportRow → Bool
has_too_many_filters row = nat_lt 32 (length (words row.texts.filters))

-- the group of a row has more outputs than it may have
abbrev pub has_too_many_outputs : List ImportRow → ImportRow → Bool
has_too_many_outputs rows row = has_group row && nat_lt 128 (count_by (same_name Groups row) rows)

-- The column of which these rows have one too many, the last of which is this row: there are more receivers, sources or groups than a table may have, or
-- more outputs of its group, or more filters of its receiver.
unfoldable pub too_many : List ImportRow → ImportRow → Option ImportColumn
too_many rows row =
    if nat_lt 16 (length (firsts Receivers rows)) then Some Receiver
    else if nat_lt 256 (length (firsts Sources rows)) then Some Source
    else if nat_lt 8 (length (groups_of rows)) || has_too_many_outputs rows row then Some Group
    else if has_too_many_filters row then Some Filters
    else None
