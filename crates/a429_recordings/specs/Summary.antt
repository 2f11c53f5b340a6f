-- The summary of a simulation: of each output how many words it sent, and at which times (profile: docs/FORMATS.md, Output of `simulate`).
use Rattle.std.specs.Prelude.{◌==◌, ◌&&◌, ◌+◌, ◌-◌, ◌^◌, ◌++◌, ◌∷◌, [], ℕ, Bool, not, List, Option, Some, None, filter_map, if◌then◌else◌, codes, length, map, max, min}
use Rattle.std.specs.List.{flat_map, fold, list_any, range_with_len}
use Rattle.a429_equipment.specs.TableRecord.{TableRecord}
use Rattle.a429_text.specs.Fields.{Absent, Field, Number, Text}
use Rattle.a429_text.specs.Sheets.{sheet_text}
use Rattle.a429_text.specs.declared.sheets.SheetForm.{SheetForm}
use Rattle.a429_slots.specs.Times.{latency_us, slots_us}
use Rattle.a429_slots.specs.Proposed.{Proposed}
use Rattle.a429_slots.specs.Tables.{Placed, groups_of, outputs_of, placed_at}
use Rattle.a429_console.specs.Names.{group_name, output_name}
use Rattle.a429_recordings.specs.Timeline.{rate_of, table_of}
use Rattle.a429_recordings.specs.declared.simulate.figures.OutputSend.{OutputSend}
use Rattle.a429_recordings.specs.declared.simulate.machine.Happening.{Happening}
use Rattle.a429_recordings.specs.declared.simulate.machine.Happening.TheVariants.{Refuses, Sends}

-- ---- the words that an output sent

-- a word of this source that group g sends
abbrev pub send_in : ℕ → ℕ → Happening → Option OutputSend
send_in g source (Refuses w why) = None
send_in g source (Sends s) = if s.group == g && s.source == source then Some s.send else None

-- what group g sends of a source, in order
abbrev pub sends_of : ℕ → ℕ → List Happening → List OutputSend
sends_of g source happenings = filter_map (send_in g source) happenings

-- what output o of group g sends: the words of its source, since no two outputs of a group have one source
abbrev pub output_sends : Proposed → ℕ → ℕ → List Happening → List OutputSend
output_sends q g o happenings = sends_of g (placed_at (table_of q g) o).source happenings

-- ---- their times, at the bit rate of the group

-- The times between each send and the next, from the beginning of a slot to that of another: slot t begins at t * 36000000 / rate microseconds, so
-- they are as long as the slots between. Each is rounded up to whole microseconds.
abbrev pub times_after : ℕ → OutputSend → List OutputSend → List ℕ
times_after rate before [] = []
times_after rate before (s ∷ sends) = slots_us rate (s.slot - before.slot) ∷ times_after rate s sends

abbrev pub times_between : ℕ → List OutputSend → List ℕ
times_between rate [] = []
times_between rate (s ∷ sends) = times_after rate s sends

-- the word of a send was not sent before
abbrev pub is_first_of : List OutputSend → OutputSend → Bool
is_first_of earlier s = not (list_any (λ e. e.word == s.word) earlier)

-- How long before the end of its slot the word of a send came in, rounded up. Its time is a whole number of microseconds, so the end is rounded up alone.
abbrev pub lateness : ℕ → OutputSend → ℕ
lateness rate s = slots_us rate (s.slot + 1) - s.time

-- that of each word when it first went out, in sends that come after these
abbrev pub latenesses_from : ℕ → List OutputSend → List OutputSend → List ℕ
latenesses_from rate earlier [] = []
latenesses_from rate earlier (s ∷ sends) =
    (if is_first_of earlier s then lateness rate s ∷ [] else []) ++ latenesses_from rate (earlier ++ s ∷ []) sends

abbrev pub latenesses : ℕ → List OutputSend → List ℕ
latenesses rate sends = latenesses_from rate [] sends

-- ---- the rows

abbrev pub least_in : List ℕ → Option ℕ
least_in [] = None
least_in (x ∷ xs) = Some (fold min x xs)

abbrev pub greatest_in : List ℕ → Option ℕ
greatest_in [] = None
greatest_in (x ∷ xs) = Some (fold max x xs)

-- a number, if there is one
abbrev pub number_field : Option ℕ → Field
number_field None = Absent
number_field (Some n) = Number n

-- how many words were sent, the minimum and the maximum time between two, and the greatest lateness of a word when it first went out
abbrev pub send_fields : ℕ → List OutputSend → List Field
send_fields rate sends =
    Number (length sends) ∷ number_field (least_in (times_between rate sends)) ∷ number_field (greatest_in (times_between rate sends))
    ∷ number_field (greatest_in (latenesses rate sends)) ∷ []

-- the bound of that lateness: the period of the output and one slot
abbrev pub bound_fields : ℕ → Placed → List Field
bound_fields rate placed = Number (latency_us rate (2 ^ placed.place.period)) ∷ []

-- the names of its group and of its source
abbrev pub name_fields : TableRecord → ℕ → ℕ → List Field
name_fields t g o = Text (group_name t g) ∷ Text (output_name t g o) ∷ []

-- output o of group g after all of this happened
abbrev pub summary_row : Proposed → List Happening → ℕ → ℕ → List Field
summary_row q happenings g o =
    name_fields q.station g o ++ send_fields (rate_of q g) (output_sends q g o happenings) ++ bound_fields (rate_of q g) (placed_at (table_of q g) o)

-- the outputs of a group, in table order
abbrev pub group_rows : Proposed → List Happening → ℕ → List (List Field)
group_rows q happenings g = map (summary_row q happenings g) (range_with_len 0 (length (outputs_of (table_of q g))))

abbrev pub summary_columns : List (List ℕ)
summary_columns =
    codes "group" ∷ codes "source" ∷ codes "sent" ∷ codes "least_us" ∷ codes "greatest_us" ∷ codes "late_us" ∷ codes "bound_us" ∷ []

-- a row for each output, groups and outputs in table order
abbrev pub summary_rows : Proposed → List Happening → List (List Field)
summary_rows q happenings = flat_map (group_rows q happenings) (range_with_len 0 (length (groups_of q.plan)))

-- the summary in a form
abbrev pub summary_text : Proposed → List Happening → SheetForm → List ℕ
summary_text q happenings form = sheet_text form summary_columns (summary_rows q happenings)
