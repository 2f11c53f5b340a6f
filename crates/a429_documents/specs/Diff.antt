-- What changes between two proposals: the rows of `diff` (profile: diff rows).
use Rattle.std.specs.Prelude.{ℕ, ◌+◌, ◌-◌, ◌^◌, ◌==◌, ◌&&◌, ◌||◌, not, Bool, true, false, List, [], ◌∷◌, ◌++◌, Option, None, Some, codes, if◌then◌else◌, is_some, length, nat_lt, option_and_then, option_map, position, slice_get, slice_index_or}
use Rattle.std.specs.Fmt.{decimal}
use Rattle.std.specs.List.{count_by, flat_map, range_with_len, sum_by}
use Rattle.std.specs.Option.{option_map_or}
use Rattle.std.specs.Str.{bytes_eq}
use Rattle.a429_filter.specs.declared.filters.Filter.{Filter}
use Rattle.a429_word.specs.Texts.{octal}
use Rattle.a429_text.specs.Fields.{Field, Text, Number, Absent}
use Rattle.a429_equipment.specs.SameStation.{same_filters, same_number, same_sdi, same_station}
use Rattle.a429_equipment.specs.TableRecord.{TableRecord, outputs_in, receiver_name}
use Rattle.a429_equipment.specs.declared.rows.GroupRow.{GroupRow}
use Rattle.a429_equipment.specs.declared.rows.OutputRow.{OutputRow}
use Rattle.a429_equipment.specs.declared.rows.ReceiverRow.{ReceiverRow}
use Rattle.a429_equipment.specs.declared.rows.SourceRow.{SourceRow}
use Rattle.a429_slots.specs.declared.group_plan.SlotPlace.{SlotPlace}
use Rattle.a429_slots.specs.Proposed.{Proposed}
use Rattle.a429_slots.specs.Tables.{Placed, SlotTable, buses_of, frame_of, groups_of, no_table, outputs_of, placed_at}
use Rattle.a429_slots.specs.Times.{slots_us}
use Rattle.a429_cert.specs.PlanText.{source_name}
use Rattle.a429_documents.specs.Document.{sdi_text}
use Rattle.a429_documents.specs.declared.diff.sides.Compared.{Compared}

abbrev pub diff_columns : List (List ℕ)
diff_columns =
    codes "kind" ∷ codes "group" ∷ codes "name" ∷ codes "change" ∷ codes "gap_slots" ∷ codes "gap_us" ∷ codes "over_max" ∷ []

-- ---- a row

-- from the last send of an output by the first plan to its next by the second: in slots, in microseconds, and whether it is above the new maximum
pub record Gap : Type 0 where
  pub slots : Field
  pub time : Field
  pub over_max : Field

abbrev pub no_gap : Gap
no_gap = record { slots = Absent; time = Absent; over_max = Absent }

-- what a row is about: a kind of thing, the name of its group, and its own name
pub record Subject : Type 0 where
  pub kind : List ℕ
  pub group : Field
  pub name : Field
  pub gap : Gap

abbrev pub of_kind : List ℕ → Subject
of_kind kind = record { kind = kind; group = Absent; name = Absent; gap = no_gap }

abbrev pub of_name : List ℕ → List ℕ → Subject
of_name kind name = record { kind = kind; group = Absent; name = Text name; gap = no_gap }

abbrev pub of_group : List ℕ → Subject
of_group group = record { kind = codes "group"; group = Text group; name = Absent; gap = no_gap }

abbrev pub of_output : List ℕ → List ℕ → Gap → Subject
of_output group name gap = record { kind = codes "output"; group = Text group; name = Text name; gap = gap }

-- the subject, what changes of it, and the gap
abbrev pub change_row : Subject → List ℕ → List Field
change_row subject change =
    Text subject.kind ∷ subject.group ∷ subject.name ∷ Text change ∷ subject.gap.slots ∷ subject.gap.time ∷ subject.gap.over_max ∷ []

-- a row, unless nothing changes
unfoldable pub change_rows : Subject → List ℕ → List (List Field)
change_rows subject change = if length change == 0 then [] else change_row subject change ∷ []

-- ---- what changes, as a text

-- a comma after a text that says something
abbrev pub comma_after : List ℕ → List ℕ
comma_after text = if length text == 0 then [] else codes ", "

-- a text and one more value that differs, unless both tables have the same
unfoldable pub with_change : Bool → List ℕ → List ℕ → List ℕ
with_change same change text = if same then text else text ++ (comma_after text ++ change)

-- a value in the first and in the second table
abbrev pub value_change : List ℕ → List ℕ → List ℕ → List ℕ
value_change name first second = name ++ (codes " " ++ (first ++ (codes " -> " ++ second)))

abbrev pub number_text : Option ℕ → List ℕ
number_text None = codes "-"
number_text (Some number) = decimal number

abbrev pub count_change : List ℕ → Option ℕ → Option ℕ → List ℕ
count_change name first second = value_change name (number_text first) (number_text second)

-- a text and a number, if it differs, or one side does not have it
abbrev pub with_number : List ℕ → Option ℕ → Option ℕ → List ℕ → List ℕ
with_number name first second text = with_change (same_number first second) (count_change name first second) text

-- ---- the tables

-- Only if neither table has a group. If there are groups, their bit rates are compared; but a plan text of version 1 has the bit rate even without groups.
abbrev pub with_rates : TableRecord → TableRecord → List ℕ → List ℕ
with_rates a b text = if length a.groups == 0 && length b.groups == 0 then with_number (codes "rate") a.rate b.rate text else text

-- the version, and the bit rate of tables without groups
abbrev pub table_change : TableRecord → TableRecord → List ℕ
table_change a b = with_rates a b (with_number (codes "version") (Some a.version) (Some b.version) [])

abbrev pub table_rows : TableRecord → TableRecord → List (List Field)
table_rows a b = change_rows (of_kind (codes "table")) (table_change a b)

-- no row if and only if the tables are of one station: then the second can be published while the first one runs
abbrev pub station_rows : TableRecord → TableRecord → List (List Field)
station_rows a b = if same_station a b then [] else change_row (of_kind (codes "station")) (codes "another") ∷ []

-- ---- lists of things with a name

-- the number of the thing with this name, and that thing
unfoldable pub number_named : {X : Type 0} → (X → List ℕ) → List X → List ℕ → Option ℕ
number_named name xs n = position (λ x. bytes_eq (name x) n) xs

abbrev pub item_named : {X : Type 0} → (X → List ℕ) → List X → List ℕ → Option X
item_named name xs n = option_and_then (λ i. slice_get xs i) (number_named name xs n)

-- a thing that the other list does not have: it is removed or added
abbrev pub lone_rows : {X : Type 0} → List ℕ → (X → List ℕ) → (X → Subject) → List X → X → List (List Field)
lone_rows change name subject others x = if is_some (number_named name others (name x)) then [] else change_row (subject x) change ∷ []

-- what changes of a thing that both lists have
abbrev pub of_both : {X : Type 0} → (X → List ℕ) → (X → Subject) → (X → X → List ℕ) → List X → X → List (List Field)
of_both name subject change second x = option_map_or (λ y. change_rows (subject x) (change x y)) (item_named name second (name x)) []

-- the same by the receivers of both tables, of one thing and of all of the first list
abbrev pub both_named : {X : Type 0} → (X → List ℕ) → (X → Subject) → (List ReceiverRow → List ReceiverRow → X → X → List ℕ)
    → TableRecord → TableRecord → List X → X → List (List Field)
both_named name subject change a b second x = of_both name subject (change a.receivers b.receivers) second x

abbrev pub boths_named : {X : Type 0} → (X → List ℕ) → (X → Subject) → (List ReceiverRow → List ReceiverRow → X → X → List ℕ)
    → TableRecord → TableRecord → List X → List X → List (List Field)
boths_named name subject change a b second first = flat_map (of_both name subject (change a.receivers b.receivers) second) first

-- the things that only the first list has, then those that only the second has, then those of both that change: their numbers do not count
abbrev pub list_rows : {X : Type 0} → (X → List ℕ) → (X → Subject) → (X → X → List ℕ) → List X → List X → List (List Field)
list_rows name subject change first second =
    flat_map (lone_rows (codes "removed") name subject second) first
    ++ (flat_map (lone_rows (codes "added") name subject first) second ++ flat_map (of_both name subject change second) first)

-- the same of the lists of two tables, by the receivers of both
abbrev pub named_rows : {X : Type 0} → (X → List ℕ) → (X → Subject) → (List ReceiverRow → List ReceiverRow → X → X → List ℕ) → (TableRecord → List X)
    → TableRecord → TableRecord → List (List Field)
named_rows name subject change list a b = list_rows name subject (change a.receivers b.receivers) (list a) (list b)

-- ---- the receivers, sources and groups

-- the number of filters, if there is a list
abbrev pub filter_count : Option (List Filter) → Option ℕ
filter_count filters = option_map (λ fs. length fs) filters

abbrev pub filter_change : ReceiverRow → ReceiverRow → List ℕ
filter_change r s =
    with_change (same_filters r.filters s.filters) (count_change (codes "filters") (filter_count r.filters) (filter_count s.filters)) []

abbrev pub with_receiver : List ℕ → List ℕ → List ℕ → List ℕ
with_receiver own other text = with_change (bytes_eq own other) (value_change (codes "receiver") own other) text

abbrev pub with_label : ℕ → ℕ → List ℕ → List ℕ
with_label label other text = with_change (label == other) (value_change (codes "label") (octal label) (octal other)) text

abbrev pub with_sdi : Option ℕ → Option ℕ → List ℕ → List ℕ
with_sdi sdi other text = with_change (same_sdi sdi other) (value_change (codes "sdi") (sdi_text sdi) (sdi_text other)) text

-- the name of the receiver of a source, its label and its SDI
abbrev pub source_change : List ReceiverRow → List ReceiverRow → SourceRow → SourceRow → List ℕ
source_change own others s u =
    with_sdi s.sdi u.sdi (with_label s.label u.label (with_receiver (receiver_name own s.receiver) (receiver_name others u.receiver) []))

abbrev pub receiver_rows : List ReceiverRow → List ReceiverRow → List (List Field)
receiver_rows own others = list_rows (λ r. r.name) (λ r. of_name (codes "receiver") r.name) filter_change own others

abbrev pub sources_rows : TableRecord → TableRecord → List (List Field)
sources_rows a b = list_rows (λ s. s.name) (λ s. of_name (codes "source") s.name) (source_change a.receivers b.receivers) a.sources b.sources

-- what changes of a group that both tables have is in the row before its outputs
abbrev pub no_change : GroupRow → GroupRow → List ℕ
no_change g h = []

abbrev pub group_rows : List GroupRow → List GroupRow → List (List Field)
group_rows own others = list_rows (λ g. g.name) (λ g. of_group g.name) no_change own others

abbrev pub lists_rows : TableRecord → TableRecord → List (List Field)
lists_rows a b = receiver_rows a.receivers b.receivers ++ (sources_rows a b ++ group_rows a.groups b.groups)

-- ---- an output

-- a group of one proposal: the sources that its outputs name, the rows of its outputs, and its slot table
pub record Sent : Type 0 where
  pub sources : List SourceRow
  pub rows : List OutputRow
  pub table : SlotTable

-- the name of the source of the output with this number
abbrev pub name_at : Sent → ℕ → List ℕ
name_at s o = source_name s.sources (placed_at s.table o).source

-- the number of the output whose source has this name
abbrev pub output_named : Sent → List ℕ → Option ℕ
output_named s name = number_named (λ (x : Placed). source_name s.sources x.source) (outputs_of s.table) name

-- the values of an output that are compared: its interval, its period in slots, its hold, its bus and its offset
abbrev pub compared_of : Option ℕ → Option ℕ → SlotPlace → Option ℕ → Compared
compared_of min_us max_us place hold =
    record { min_us = min_us; max_us = max_us; period = Some (2 ^ place.period); hold = hold; bus = Some place.bus; offset = Some place.offset }

abbrev pub compared_at : Sent → ℕ → Compared
compared_at s o =
    compared_of (option_map (λ r. r.min_us) (slice_get s.rows o)) (option_map (λ r. r.max_us) (slice_get s.rows o)) (placed_at s.table o).place
    (placed_at s.table o).limits.hold

-- the number of slots from an output's last cell by the first plan to its first cell by the second (`gap` of `a429_slots`)
abbrev pub cell_gap : Placed → Placed → ℕ
cell_gap x y = 2 ^ x.place.period - x.place.offset + y.place.offset

-- the number of slots from its last send to its next (law `next_send_is_a_gap_later` of `a429_callers`): the send is in that cell, unless spacing empties it
abbrev pub gap_of : Placed → Placed → ℕ
gap_of x y = if nat_lt (cell_gap x y) y.limits.spacing then cell_gap x y + 2 ^ y.place.period else cell_gap x y

-- whether a time is longer than a maximum, if there is one
abbrev pub over_time : ℕ → Option ℕ → Field
over_time time None = Absent
over_time time (Some max_us) = if nat_lt max_us time then Text (codes "yes") else Text (codes "no")

-- a number of slots at a bit rate in bit/s, and the maximum of the second table
abbrev pub gap_of_slots : ℕ → ℕ → Option ℕ → Gap
gap_of_slots rate slots max_us = record { slots = Number slots; time = Number (slots_us rate slots); over_max = over_time (slots_us rate slots) max_us }

-- a text with each number that differs; the offset only if all are requested
abbrev pub compared_change : Bool → Compared → Compared → List ℕ
compared_change all x y =
    with_change (not all || same_number x.offset y.offset) (count_change (codes "offset") x.offset y.offset)
    (with_number (codes "bus") x.bus y.bus (with_number (codes "hold") x.hold y.hold
    (with_number (codes "period_slots") x.period y.period (with_number (codes "max_us") x.max_us y.max_us (with_number (codes "min_us") x.min_us y.min_us [])))))

-- only the offset differs
abbrev pub has_moved : Compared → Compared → Bool
has_moved x y =
    same_number x.min_us y.min_us && (same_number x.max_us y.max_us && (same_number x.period y.period
    && (same_number x.hold y.hold && (same_number x.bus y.bus && not (same_number x.offset y.offset)))))

-- ---- a group

-- a group that both proposals have: its name, its bit rate in each, and what each of them has for it
pub record Both : Type 0 where
  pub name : List ℕ
  pub rate : ℕ
  pub new_rate : ℕ
  pub first : Sent
  pub second : Sent

-- the output of the second plan with the same source as this output of the first
abbrev pub other_of : Both → ℕ → Option ℕ
other_of g o = output_named g.second (name_at g.first o)

-- the gap of an output of both plans, if the second can follow the first
abbrev pub kept_gap : Bool → Both → ℕ → ℕ → Gap
kept_gap has_gap g o p =
    if has_gap then gap_of_slots g.rate (gap_of (placed_at g.first.table o) (placed_at g.second.table p)) (compared_at g.second p).max_us else no_gap

abbrev pub kept_subject : Bool → Both → ℕ → ℕ → Subject
kept_subject has_gap g o p = of_output g.name (name_at g.first o) (kept_gap has_gap g o p)

-- an output of both plans: all that changes of it, in one row
abbrev pub pair_rows : Bool → Bool → Both → ℕ → ℕ → List (List Field)
pair_rows all has_gap g o p = change_rows (kept_subject has_gap g o p) (compared_change all (compared_at g.first o) (compared_at g.second p))

-- an output of the first plan, if the second has it too
abbrev pub kept_rows : Bool → Bool → Both → ℕ → List (List Field)
kept_rows all has_gap g o = option_map_or (pair_rows all has_gap g o) (other_of g o) []

-- an output of one plan, if the other does not have it: it is removed or added
abbrev pub only_rows : List ℕ → List ℕ → Sent → Sent → ℕ → List (List Field)
only_rows change group s u o = if is_some (output_named u (name_at s o)) then [] else change_row (of_output group (name_at s o) no_gap) change ∷ []

-- the rows of the numbers below a count, in order
abbrev pub each_of : ℕ → (ℕ → List (List Field)) → List (List Field)
each_of count rows = flat_map rows (range_with_len 0 count)

-- its bit rate, its buses and its frame in slots
abbrev pub size_change : Both → List ℕ
size_change g =
    with_number (codes "frame_slots") (Some (frame_of g.first.table)) (Some (frame_of g.second.table))
    (with_number (codes "buses") (Some (buses_of g.first.table)) (Some (buses_of g.second.table)) (with_number (codes "rate") (Some g.rate) (Some g.new_rate) []))

abbrev pub size_rows : Both → List (List Field)
size_rows g = change_rows (of_group g.name) (size_change g)

-- the outputs that both have, then those that only the first has, then those that only the second has
abbrev pub outputs_rows : Bool → Bool → Both → List (List Field)
outputs_rows all has_gap g =
    each_of (length (outputs_of g.first.table)) (kept_rows all has_gap g)
    ++ (each_of (length (outputs_of g.first.table)) (only_rows (codes "removed") g.name g.first g.second)
    ++ each_of (length (outputs_of g.second.table)) (only_rows (codes "added") g.name g.second g.first))

abbrev pub both_rows : Bool → Bool → Both → List (List Field)
both_rows all has_gap g = size_rows g ++ outputs_rows all has_gap g

-- whether both plans have an output, and only its offset differs
abbrev pub is_moved : Both → ℕ → Bool
is_moved g o = option_map_or (λ p. has_moved (compared_at g.first o) (compared_at g.second p)) (other_of g o) false

abbrev pub moved_in : Both → ℕ
moved_in g = count_by (is_moved g) (range_with_len 0 (length (outputs_of g.first.table)))

-- ---- the groups

-- the group of a proposal with this number
abbrev pub sent_by : Proposed → ℕ → Sent
sent_by q g = record { sources = q.station.sources; rows = outputs_in q.station g; table = slice_index_or (groups_of q.plan) g no_table }

-- the bit rate of that group
abbrev pub rate_in : Proposed → ℕ → ℕ
rate_in q g = option_map_or (λ row. row.rate) (slice_get q.station.groups g) 0

-- the group of the first proposal with this number, if the second has one of its name
abbrev pub both_of : Proposed → Proposed → ℕ → Option Both
both_of a b g =
    option_and_then (λ (row : GroupRow). option_map (λ h. record { name = row.name; rate = rate_in a g; new_rate = rate_in b h; first = sent_by a g; second = sent_by b h })
    (number_named (λ (h : GroupRow). h.name) b.station.groups row.name)) (slice_get a.station.groups g)

abbrev pub group_both_rows : Bool → Bool → Proposed → Proposed → ℕ → List (List Field)
group_both_rows all has_gap a b g = option_map_or (both_rows all has_gap) (both_of a b g) []

-- the rows of each group
abbrev pub groups_rows : Bool → Bool → Proposed → Proposed → List (List Field)
groups_rows all has_gap a b = each_of (length a.station.groups) (group_both_rows all has_gap a b)

abbrev pub group_moved : Proposed → Proposed → ℕ → ℕ
group_moved a b g = option_map_or moved_in (both_of a b g) 0

-- the number of moved outputs of all groups
abbrev pub moved_count : Proposed → Proposed → ℕ
moved_count a b = sum_by (group_moved a b) (range_with_len 0 (length a.station.groups))

-- the number of outputs that only have moved, if there are any
abbrev pub count_rows : ℕ → List (List Field)
count_rows count = if count == 0 then [] else change_row (of_kind (codes "moved")) (codes "outputs " ++ decimal count) ∷ []

-- ---- the sheet

abbrev pub equipment_rows : TableRecord → TableRecord → List (List Field)
equipment_rows a b = table_rows a b ++ (station_rows a b ++ lists_rows a b)

-- all differences; for moved outputs only their number, unless all are requested. There is a gap if the second plan can follow the first.
abbrev pub plan_rows : Proposed → Proposed → Bool → List (List Field)
plan_rows a b all = groups_rows all (same_station a.station b.station) a b ++ (if all then [] else count_rows (moved_count a b))

-- all differences, from the first proposal to the second
abbrev pub diff_rows : Proposed → Proposed → Bool → List (List Field)
diff_rows a b all = equipment_rows a.station b.station ++ plan_rows a b all
