-- What each bus of a station carries: the rows of `buses` (profile: docs/FORMATS.md, Output of `buses`).
use Rattle.std.specs.Prelude.{ℕ, ◌==◌, ◌^◌, List, [], ◌∷◌, ◌++◌, codes, if◌then◌else◌, filter, length, map, slice_get}
use Rattle.std.specs.List.{flat_map, range_with_len}
use Rattle.std.specs.Option.{option_map_or}
use Rattle.a429_text.specs.Fields.{Field, Text, Number, Absent}
use Rattle.a429_word.specs.Texts.{octal}
use Rattle.a429_equipment.specs.TableRecord.{TableRecord}
use Rattle.a429_equipment.specs.declared.rows.ReceiverRow.{ReceiverRow}
use Rattle.a429_equipment.specs.declared.rows.SourceRow.{SourceRow}
use Rattle.a429_slots.specs.Tables.{buses_of}
use Rattle.a429_slots.specs.Times.{slots_us}
use Rattle.a429_documents.specs.Document.{sdi_field}
use Rattle.a429_documents.specs.PlannedGroups.{PlannedGroup, PlannedOutput, of_outputs}

-- ---- the columns

-- the bus: that of a receiver, or one of a group with its number and its bit rate in bit/s
abbrev pub bus_columns : List (List ℕ)
bus_columns = codes "direction" ∷ codes "name" ∷ codes "bus" ∷ codes "rate" ∷ []

-- a word on it: the label, the SDI and the name of its source, and how often it goes out, in microseconds
abbrev pub word_columns : List (List ℕ)
word_columns = codes "label" ∷ codes "sdi" ∷ codes "source" ∷ codes "period_us" ∷ []

abbrev pub buses_columns : List (List ℕ)
buses_columns = bus_columns ++ word_columns

-- ---- the row of a word

abbrev pub word_fields : SourceRow → Field → List Field
word_fields source period = Text (octal source.label) ∷ sdi_field source.sdi ∷ Text source.name ∷ period ∷ []

-- a word that comes in at a receiver; the table does not say how often
abbrev pub in_row : ReceiverRow → SourceRow → List Field
in_row r source = Text (codes "in") ∷ Text r.name ∷ Absent ∷ Absent ∷ word_fields source Absent

-- a word that a group sends, at its place; the period is in whole microseconds, rounded up
abbrev pub out_row : PlannedOutput → List Field
out_row o =
    Text (codes "out") ∷ Text o.group.name ∷ Number o.place.bus ∷ Number o.group.rate ∷ word_fields o.source (Number (slots_us o.group.rate (2 ^ o.place.period)))

-- ---- the rows of a bus

-- the words of the receiver with this number, in table order
abbrev pub heard_rows : List SourceRow → ℕ → ReceiverRow → List (List Field)
heard_rows sources n r = map (in_row r) (filter (λ source. source.receiver == n) sources)

-- the row of an output, if it is on this bus
abbrev pub rows_on : ℕ → PlannedOutput → List (List Field)
rows_on bus o = if o.place.bus == bus then out_row o ∷ [] else []

-- the words that a group sends on a bus, in table order
abbrev pub sent_rows : PlannedGroup → ℕ → List (List Field)
sent_rows g bus = of_outputs (rows_on bus) g

-- ---- the rows of a station

-- the words that come in at the receiver with this number
abbrev pub receiver_rows : TableRecord → ℕ → List (List Field)
receiver_rows e n = option_map_or (heard_rows e.sources n) (slice_get e.receivers n) []

-- the words that a group sends, bus by bus
abbrev pub group_rows : PlannedGroup → List (List Field)
group_rows g = flat_map (sent_rows g) (range_with_len 0 (buses_of g.table))

-- the words that come in, receiver by receiver in table order
abbrev pub in_rows : TableRecord → List (List Field)
in_rows e = flat_map (receiver_rows e) (range_with_len 0 (length e.receivers))
