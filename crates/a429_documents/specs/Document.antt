-- The interface control document of a plan: the names of its columns, and a row for each output (profile: docs/FORMATS.md, Output of `icd`).
use Rattle.std.specs.Prelude.{ℕ, ◌^◌, ◌==◌, Bool, true, false, List, [], ◌∷◌, ◌++◌, Option, None, Some, codes, if◌then◌else◌}
use Rattle.a429_text.specs.Fields.{Field, Text, Number, Absent}
use Rattle.a429_text.specs.Texts.{formula}
use Rattle.a429_word.specs.Texts.{octal}
use Rattle.a429_equipment.specs.TableRecord.{TableRecord, receiver_name}
use Rattle.a429_equipment.specs.declared.rows.GroupRow.{GroupRow}
use Rattle.a429_equipment.specs.declared.rows.OutputRow.{OutputRow}
use Rattle.a429_equipment.specs.declared.rows.ReceiverRow.{ReceiverRow}
use Rattle.a429_equipment.specs.declared.rows.SourceRow.{SourceRow}
use Rattle.a429_slots.specs.declared.group_plan.SendLimits.{SendLimits}
use Rattle.a429_slots.specs.declared.group_plan.SlotPlace.{SlotPlace}
use Rattle.a429_slots.specs.Tables.{PlanTable}
use Rattle.a429_slots.specs.Times.{latency_us, slots_us}
use Rattle.a429_documents.specs.PlannedGroups.{PlannedGroup, PlannedOutput, of_groups, of_outputs}

-- ---- the columns

-- what is sent: the group, its bit rate in bit/s, and the source with its receiver, label and SDI
abbrev pub sent_columns : List (List ℕ)
sent_columns = codes "group" ∷ codes "rate" ∷ codes "source" ∷ codes "receiver" ∷ codes "label" ∷ codes "sdi" ∷ []

-- its place: the bus, its offset (its first slot from the start of the frame), and the period in slots and in microseconds
abbrev pub place_columns : List (List ℕ)
place_columns = codes "bus" ∷ codes "offset" ∷ codes "period_slots" ∷ codes "period_us" ∷ []

-- its limits: the interval in microseconds, the most times that one accepted word is sent, and the minimum number of slots between two sends
abbrev pub limit_columns : List (List ℕ)
limit_columns = codes "min_us" ∷ codes "max_us" ∷ codes "hold" ∷ codes "spacing_slots" ∷ []

-- the maximum age of a word when it was sent completely, in microseconds
abbrev pub latency_columns : List (List ℕ)
latency_columns = codes "latency_us" ∷ []

-- the names of all columns
abbrev pub icd_columns : List (List ℕ)
icd_columns = sent_columns ++ (place_columns ++ (limit_columns ++ latency_columns))

-- ---- the row of an output

-- an SDI as a text: 0 to 3, or `any`
abbrev pub sdi_text : Option ℕ → List ℕ
sdi_text None = codes "any"
sdi_text (Some sdi) = if sdi == 0 then codes "0" else if sdi == 1 then codes "1" else if sdi == 2 then codes "2" else codes "3"

abbrev pub sdi_field : Option ℕ → Field
sdi_field sdi = Text (sdi_text sdi)

-- a label in octal; as a formula if a spreadsheet is to keep its zeros
abbrev pub label_field : Bool → ℕ → Field
label_field false label = Text (octal label)
label_field true label = Text (formula (octal label))

-- a limit, if there is one
abbrev pub limit_field : Option ℕ → Field
limit_field None = Absent
limit_field (Some limit) = Number limit

-- the source of an output, with its group
abbrev pub sent_fields : Bool → List ReceiverRow → GroupRow → SourceRow → List Field
sent_fields keeps_zeros receivers group source =
    Text group.name ∷ Number group.rate ∷ Text source.name ∷ Text (receiver_name receivers source.receiver) ∷ label_field keeps_zeros source.label ∷ sdi_field source.sdi ∷ []

-- its place, at the bit rate of its group in bit/s
abbrev pub place_fields : ℕ → SlotPlace → List Field
place_fields rate place = Number place.bus ∷ Number place.offset ∷ Number (2 ^ place.period) ∷ Number (slots_us rate (2 ^ place.period)) ∷ []

-- its limits: the interval of its row, and the limits in the slot table
abbrev pub limit_fields : OutputRow → SendLimits → List Field
limit_fields row limits = Number row.min_us ∷ Number row.max_us ∷ limit_field limits.hold ∷ Number limits.spacing ∷ []

-- the maximum age of a word when it was sent completely, at the bit rate of its group in bit/s
abbrev pub latency_fields : ℕ → ℕ → List Field
latency_fields rate period = Number (latency_us rate period) ∷ []

-- the row of an output of a group, which sends this source
abbrev pub icd_row : Bool → List ReceiverRow → GroupRow → SourceRow → OutputRow → SlotPlace → SendLimits → List Field
icd_row keeps_zeros receivers group source row place limits =
    sent_fields keeps_zeros receivers group source ++ (place_fields group.rate place ++ (limit_fields row limits ++ latency_fields group.rate (2 ^ place.period)))

-- the same of an output of a plan
abbrev pub output_row : Bool → PlannedOutput → List Field
output_row keeps_zeros o = icd_row keeps_zeros o.receivers o.group o.source o.row o.place o.limits

-- ---- the document

-- a row for each output of a group, in table order
abbrev pub group_rows : Bool → PlannedGroup → List (List Field)
group_rows keeps_zeros g = of_outputs (λ o. output_row keeps_zeros o ∷ []) g

-- the rows of a plan, group by group in table order, with labels whose zeros a spreadsheet keeps or loses
abbrev pub icd_rows : Bool → TableRecord → PlanTable → List (List Field)
icd_rows keeps_zeros e p = of_groups (group_rows keeps_zeros) e p None
