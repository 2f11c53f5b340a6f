-- The outputs of a plan as they are judged, and the rows of that (profile: docs/FORMATS.md, Output of `judge`).
use Rattle.std.specs.Prelude.{◌≡◌, ◌*◌, ◌^◌, ◌||◌, ◌++◌, ◌∷◌, [], ℕ, Bool, false, List, Option, Some, None, codes, flat_map, fold, length, map, min, nat_lt, option_and_then, slice_get, unwrap_or}
use Rattle.std.specs.List.{list_any, range_with_len}
use Rattle.std.specs.Option.{option_map_or}
use Rattle.a429_word.specs.Hexadecimal.{hex}
use Rattle.a429_text.specs.Fields.{Absent, Field, Number, Text}
use Rattle.a429_equipment.specs.TableRecord.{TableRecord, outputs_in}
use Rattle.a429_equipment.specs.declared.rows.OutputRow.{OutputRow}
use Rattle.a429_slots.specs.Proposed.{Proposed}
use Rattle.a429_slots.specs.Tables.{frame_of, groups_of, outputs_of, placed_at}
use Rattle.a429_arguments.specs.Tolerances.{tolerance_for}
use Rattle.a429_console.specs.Names.{group_name, output_name}
use Rattle.a429_judge.specs.Judgements.{found_at, judgement_of}
use Rattle.a429_judge.specs.Recordings.{Recording, foreign_of}
use Rattle.a429_judge.specs.Rows.{foreign_row, output_row}
use Rattle.a429_judge.specs.Tolerance.{default_tolerance}
use Rattle.a429_judge.specs.declared.duties.Duty.{Duty}
use Rattle.a429_judge.specs.declared.duties.Sent.{Sent}
use Rattle.a429_judge.specs.declared.facts.Mark.{Mark}
use Rattle.a429_judge.specs.declared.findings.Finding.{Finding}
use Rattle.a429_judge.specs.declared.findings.Kind.{Kind}
use Rattle.a429_judge.specs.declared.findings.Kind.TheVariants as kind
use Rattle.a429_judge.specs.declared.judgements.Judgement.{Judgement}
use Rattle.a429_recordings.specs.Timeline.{rate_of, table_of}

-- ---- outputs

-- the row of an output that there is not
abbrev pub no_row : OutputRow
no_row = record { source = 0; min_us = 0; max_us = 0; hold = None }

abbrev pub row_of : TableRecord → ℕ → ℕ → OutputRow
row_of t g o = unwrap_or (slice_get (outputs_in t g) o) no_row

-- the label and the SDI of a source
abbrev pub label_of : TableRecord → ℕ → ℕ
label_of t source = option_map_or (λ row. row.label) (slice_get t.sources source) 0

abbrev pub sdi_of : TableRecord → ℕ → Option ℕ
sdi_of t source = option_and_then (λ row. row.sdi) (slice_get t.sources source)

-- the numbers of the outputs of a group, and of the groups
abbrev pub outputs_at : Proposed → ℕ → List ℕ
outputs_at q g = range_with_len 0 (length (outputs_of (table_of q g)))

abbrev pub groups_at : Proposed → List ℕ
groups_at q = range_with_len 0 (length (groups_of q.plan))

-- the period of an output, and the shortest one of a group, in slots
abbrev pub period_at : Proposed → ℕ → ℕ → ℕ
period_at q g o = 2 ^ (placed_at (table_of q g) o).place.period

abbrev pub shortest_period : Proposed → ℕ → ℕ
shortest_period q g = fold (λ n o. min n (period_at q g o)) (frame_of (table_of q g)) (outputs_at q g)

-- the tolerance that is given for the group, otherwise two slots of the group or half its shortest period, if that is less
abbrev pub tolerance_of : Proposed → List (List ℕ) → ℕ → ℕ
tolerance_of q given g = unwrap_or (tolerance_for given (group_name q.station g)) (default_tolerance (rate_of q g) (shortest_period q g))

-- output o of group g: its interval and its hold are those of the table, its bus and its period those of the plan
unfoldable pub duty_of : Proposed → List (List ℕ) → ℕ → ℕ → Duty
duty_of q given g o =
    let row = row_of q.station g o in
    let place = (placed_at (table_of q g) o).place in
    record {
      group = g;
      source = row.source;
      label = label_of q.station row.source;
      sdi = sdi_of q.station row.source;
      bus = place.bus;
      facts = record {
        rate = rate_of q g;
        period = 2 ^ place.period;
        least = row.min_us;
        greatest = row.max_us;
        hold = row.hold;
        tolerance = tolerance_of q given g;
      };
    }

-- the outputs of a group
abbrev pub duties_of : Proposed → List (List ℕ) → ℕ → List Duty
duties_of q given g = map (duty_of q given g) (outputs_at q g)

-- those of all groups
abbrev pub all_duties : Proposed → List (List ℕ) → List (List Duty)
all_duties q given = map (duties_of q given) (groups_at q)

-- the tolerance is more than half the period of an output
abbrev pub is_wide : Duty → Bool
is_wide d = nat_lt (36000000 * d.facts.period) (2 * (d.facts.tolerance * d.facts.rate))

abbrev pub is_wide_in : Proposed → List (List ℕ) → ℕ → Bool
is_wide_in q given g = list_any is_wide (duties_of q given g)

-- and that of any output of the plan
abbrev pub is_any_wide : Proposed → List (List ℕ) → Bool
is_any_wide q given = list_any (is_wide_in q given) (groups_at q)

-- without a tolerance that is given, none is
abbrev pub DefaultToleranceIsAllowed : Type 0
DefaultToleranceIsAllowed = (q : Proposed) → is_any_wide q [] ≡ false

-- ---- a row for each output

abbrev pub judged : Proposed → List (List ℕ) → Recording → ℕ → ℕ → Judgement
judged q given r g o = judgement_of (duties_of q given g) (duty_of q given g o) r

abbrev pub judged_row : Proposed → List (List ℕ) → Recording → ℕ → ℕ → List Field
judged_row q given r g o = output_row (group_name q.station g) (output_name q.station g o) (judged q given r g o)

-- the words of a group that are of none of its outputs
abbrev pub foreign_in : Proposed → List (List ℕ) → Recording → ℕ → List Sent
foreign_in q given r g = foreign_of (duties_of q given g) g r.sent

-- the rows of a group's outputs, and then that of its foreign words
abbrev pub judged_outputs : Proposed → List (List ℕ) → Recording → ℕ → List (List Field)
judged_outputs q given r g = map (judged_row q given r g) (outputs_at q g)

abbrev pub judged_group : Proposed → List (List ℕ) → Recording → ℕ → List (List Field)
judged_group q given r g =
    judged_outputs q given r g ++ foreign_row (group_name q.station g) (length (foreign_in q given r g)) ∷ []

abbrev pub judged_rows : Proposed → List (List ℕ) → Recording → List (List Field)
judged_rows q given r = flat_map (judged_group q given r) (groups_at q)

abbrev pub judge_columns : List (List ℕ)
judge_columns =
    codes "group" ∷ codes "source" ∷ codes "sent" ∷ codes "known" ∷ codes "least_us" ∷ codes "greatest_us" ∷ codes "late_us" ∷ codes "wrong" ∷ codes "stale"
    ∷ codes "soon" ∷ codes "late" ∷ codes "again" ∷ codes "silent" ∷ codes "missed" ∷ codes "tolerance_us" ∷ codes "verdict" ∷ []

-- something is found at an output of a group
abbrev pub is_bad_at : Proposed → List (List ℕ) → Recording → ℕ → ℕ → Bool
is_bad_at q given r g o = nat_lt 0 (judged q given r g o).found

-- something is found at one of its outputs
abbrev pub is_any_bad : Proposed → List (List ℕ) → Recording → ℕ → Bool
is_any_bad q given r g = list_any (is_bad_at q given r g) (outputs_at q g)

-- or a word of the group is of none of its outputs
abbrev pub is_found_in : Proposed → List (List ℕ) → Recording → ℕ → Bool
is_found_in q given r g = is_any_bad q given r g || nat_lt 0 (length (foreign_in q given r g))

-- something is found
abbrev pub is_found : Proposed → List (List ℕ) → Recording → Bool
is_found q given r = list_any (is_found_in q given r) (groups_at q)

-- ---- a row for each finding

abbrev pub kind_text : Kind → List ℕ
kind_text kind.Wrong = codes "wrong"
kind_text kind.Stale = codes "stale"
kind_text kind.Soon = codes "soon"
kind_text kind.Late = codes "late"
kind_text kind.Again = codes "again"
kind_text kind.Silent = codes "silent"
kind_text kind.Missed = codes "missed"

-- the bus of a word within its group, if the log says one
abbrev pub bus_field : Option ℕ → Field
bus_field None = Absent
bus_field (Some bus) = Number bus

-- the row of a word, by the names of its group and source, its bus, and the name of the finding
abbrev pub event_row : List ℕ → Field → Field → List ℕ → Mark → List Field
event_row group bus source finding m = Number m.time ∷ Text group ∷ bus ∷ source ∷ Text finding ∷ Text (hex m.raw) ∷ []

abbrev pub finding_row : List ℕ → List ℕ → ℕ → Finding → List Field
finding_row group source bus x = event_row group (Number bus) (Text source) (kind_text x.kind) x.mark

-- the rows of the findings at an output, with its bus by the plan
abbrev pub output_events : Proposed → List (List ℕ) → Recording → ℕ → ℕ → List (List Field)
output_events q given r g o =
    map (finding_row (group_name q.station g) (output_name q.station g o) (duty_of q given g o).bus) (found_at (duties_of q given g) (duty_of q given g o) r)

-- the rows of foreign words
abbrev pub foreign_event : List ℕ → Sent → List Field
foreign_event group w = event_row group (bus_field w.bus) Absent (codes "foreign") w.mark

abbrev pub foreign_rows : List ℕ → List Sent → List (List Field)
foreign_rows group words = map (foreign_event group) words

-- the findings at the outputs of a group in order, and then its foreign words
abbrev pub group_events : Proposed → List (List ℕ) → Recording → ℕ → List (List Field)
group_events q given r g =
    flat_map (output_events q given r g) (outputs_at q g)
    ++ foreign_rows (group_name q.station g) (foreign_in q given r g)

abbrev pub judge_events : Proposed → List (List ℕ) → Recording → List (List Field)
judge_events q given r = flat_map (group_events q given r) (groups_at q)

abbrev pub event_columns : List (List ℕ)
event_columns = codes "time_us" ∷ codes "group" ∷ codes "bus" ∷ codes "source" ∷ codes "finding" ∷ codes "word" ∷ []
