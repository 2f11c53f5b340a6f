-- The equipment table that rows describe: its tree, which is printed, and its record (profile: import).
use Rattle.std.specs.Prelude.{ℕ, pos, ◌==◌, Bool, true, not, List, [], ◌∷◌, ◌++◌, Option, None, Some, codes, if◌then◌else◌, length, map, filter, unwrap_or}
use Rattle.std.specs.List.{list_any, position_from, slice_split}
use Rattle.std.specs.Str.{bytes_eq}
use Rattle.toml.specs.Data.{Data, Members, string, integer, array, table, no_members, member}
use Rattle.toml.specs.View.{items_of}
use Rattle.a429_word.specs.Texts.{octal}
use Rattle.a429_filter.specs.declared.filters.Filter.{Filter}
use Rattle.a429_filter.specs.FilterTexts.{filter_of}
use Rattle.a429_equipment.specs.declared.rows.ReceiverRow.{ReceiverRow}
use Rattle.a429_equipment.specs.declared.rows.SourceRow.{SourceRow}
use Rattle.a429_equipment.specs.declared.rows.GroupRow.{GroupRow}
use Rattle.a429_equipment.specs.declared.rows.OutputRow.{OutputRow}
use Rattle.a429_equipment.specs.TableRecord.{TableRecord}
use Rattle.a429_import.specs.declared.rows.ImportRow.{ImportRow}
use Rattle.a429_import.specs.declared.firsts.Part.{Part}
use Rattle.a429_import.specs.declared.firsts.Part.TheVariants.{Receivers, Sources, Groups}

-- ---- words

abbrev pub is_word : List ℕ → Bool
is_word part = not (length part == 0)

-- the parts between spaces, without the empty ones
unfoldable pub words : List ℕ → List (List ℕ)
words text = filter is_word (slice_split (λ b. b == 32) text)

-- ---- the first rows

-- the name of a row's receiver, source or group
abbrev pub name_in : Part → ImportRow → List ℕ
name_in Receivers row = row.texts.receiver
name_in Sources row = row.texts.source
name_in Groups row = row.texts.group

abbrev pub same_name : Part → ImportRow → ImportRow → Bool
same_name part a b = bytes_eq (name_in part a) (name_in part b)

-- a row without a group has no output
abbrev pub has_group : ImportRow → Bool
has_group row = not (length row.texts.group == 0)

-- an earlier row has the same receiver, source or group
abbrev pub is_known : Part → List ImportRow → ImportRow → Bool
is_known part earlier row = list_any (λ other. same_name part other row) earlier

abbrev pub unless_known : Part → List ImportRow → ImportRow → List ImportRow
unless_known part earlier row = if is_known part earlier row then [] else row ∷ []

-- the rows that are the first of their receiver, source or group, after earlier rows
abbrev pub firsts_after : Part → List ImportRow → List ImportRow → List ImportRow
firsts_after part earlier [] = []
firsts_after part earlier (row ∷ rows) = unless_known part earlier row ++ firsts_after part (earlier ++ row ∷ []) rows

-- the first row of each receiver, source or group, in order
abbrev pub firsts : Part → List ImportRow → List ImportRow
firsts part rows = firsts_after part [] rows

-- the first row of each group; rows without a group have none
abbrev pub groups_of : List ImportRow → List ImportRow
groups_of rows = filter has_group (firsts Groups rows)

-- a row states its receiver and its source, and a group if it names one
abbrev pub is_stated : Part → ImportRow → Bool
is_stated Groups row = has_group row
is_stated part row = true

-- the rows of the group of a row
abbrev pub rows_of_group : List ImportRow → ImportRow → List ImportRow
rows_of_group rows group = filter (same_name Groups group) rows

-- ---- the tree

abbrev pub number : ℕ → Data
number n = integer (pos n)

-- an array of these
abbrev pub listed : List Data → Data
listed ds = array (items_of ds)

-- the filters of a receiver, if it has any
abbrev pub with_filters : List (List ℕ) → Members → Members
with_filters [] rest = rest
with_filters (word ∷ words) rest = member (codes "filters") (listed (map (λ w. string w) (word ∷ words))) rest

unfoldable pub receiver_tree : ImportRow → Data
receiver_tree row = table (with_filters (words row.texts.filters) (member (codes "name") (string row.texts.receiver) no_members))

abbrev pub sdi_data : Option ℕ → Data
sdi_data None = string (codes "any")
sdi_data (Some sdi) = number sdi

unfoldable pub source_tree : ImportRow → Data
source_tree row = table (
    member (codes "label") (string (octal row.numbers.label)) (
    member (codes "name") (string row.texts.source) (
    member (codes "receiver") (string row.texts.receiver) (
    member (codes "sdi") (sdi_data row.numbers.sdi) no_members))))

abbrev pub with_hold : Option ℕ → Members → Members
with_hold None rest = rest
with_hold (Some hold) rest = member (codes "hold") (number hold) rest

unfoldable pub output_tree : ImportRow → Data
output_tree row = table (with_hold row.numbers.hold (
    member (codes "max_us") (number row.numbers.max_us) (
    member (codes "min_us") (number row.numbers.min_us) (
    member (codes "source") (string row.texts.source) no_members))))

unfoldable pub group_tree : List ImportRow → ImportRow → Data
group_tree rows row = table (
    member (codes "name") (string row.texts.group) (
    member (codes "output") (listed (map output_tree (rows_of_group rows row))) (
    member (codes "rate") (number row.numbers.rate) no_members)))

-- the table of the receiver, the source or the group of a row
abbrev pub part_tree : Part → List ImportRow → ImportRow → Data
part_tree Receivers rows row = receiver_tree row
part_tree Sources rows row = source_tree row
part_tree Groups rows row = group_tree rows row

-- the tables of all, in the order of their first rows
abbrev pub part_trees : Part → List ImportRow → List Data
part_trees Groups rows = map (group_tree rows) (groups_of rows)
part_trees part rows = map (part_tree part rows) (firsts part rows)

-- the keys of a table are in the order of their bytes
unfoldable pub root_members : List ImportRow → Members
root_members rows =
    member (codes "group") (listed (part_trees Groups rows)) (
    member (codes "receiver") (listed (part_trees Receivers rows)) (
    member (codes "source") (listed (part_trees Sources rows)) (
    member (codes "version") (number 2) no_members)))

-- ---- the record

abbrev pub filters_stated : List (List ℕ) → Option (List Filter)
filters_stated [] = None
filters_stated (word ∷ words) = Some (map filter_of (word ∷ words))

abbrev pub receiver_stated : ImportRow → ReceiverRow
receiver_stated row = record { name = row.texts.receiver; filters = filters_stated (words row.texts.filters) }

-- the number of the receiver, source or group with this name; some row has the name
abbrev pub number_of : Part → List ImportRow → List ℕ → ℕ
number_of part rows name = unwrap_or (position_from (λ row. bytes_eq name (name_in part row)) 0 (firsts part rows)) 0

abbrev pub source_stated : List ImportRow → ImportRow → SourceRow
source_stated rows row = record {
  name = row.texts.source;
  receiver = number_of Receivers rows row.texts.receiver;
  label = row.numbers.label;
  sdi = row.numbers.sdi;
}

abbrev pub group_stated : ImportRow → GroupRow
group_stated row = record { name = row.texts.group; rate = row.numbers.rate }

abbrev pub output_stated : List ImportRow → ImportRow → OutputRow
output_stated rows row = record {
  source = number_of Sources rows row.texts.source;
  min_us = row.numbers.min_us;
  max_us = row.numbers.max_us;
  hold = row.numbers.hold;
}

abbrev pub outputs_stated : List ImportRow → ImportRow → List OutputRow
outputs_stated rows group = map (output_stated rows) (rows_of_group rows group)

-- receivers, sources and groups in the order of their first rows, and the outputs of a group in the order of its rows
unfoldable pub record_stated : List ImportRow → TableRecord
record_stated rows = record {
  version = 2;
  rate = None;
  receivers = map receiver_stated (firsts Receivers rows);
  sources = map (source_stated rows) (firsts Sources rows);
  groups = map group_stated (groups_of rows);
  outputs = map (outputs_stated rows) (groups_of rows);
}
