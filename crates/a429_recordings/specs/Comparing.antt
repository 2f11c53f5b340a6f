-- `survey --table`: what a table expects on the lines of a recording, what is printed, and why nothing is. And what `survey` answers (profile:
-- docs/FORMATS.md, Output of `survey`).
use Rattle.std.specs.Prelude.{◌≡◌, ◌∷◌, ◌⊎◌, ◌++◌, ℕ, List, Option, None, Some, Ok, flat_map, length, map}
use Rattle.std.specs.List.{range_with_len}
use Rattle.a429_text.specs.Sheets.{sheet_text}
use Rattle.a429_arguments.specs.Given.{text_given}
use Rattle.a429_arguments.specs.Requests.{AskedBytes}
use Rattle.a429_arguments.specs.declared.options.OptionName.TheVariants as option
use Rattle.a429_equipment.specs.TableRecord.{TableRecord, outputs_in, receiver_name}
use Rattle.a429_equipment.specs.declared.rows.OutputRow.{OutputRow}
use Rattle.a429_equipment.specs.declared.rows.SourceRow.{SourceRow}
use Rattle.a429_table.specs.Reading.{reading}
use Rattle.a429_survey.specs.Expected.{Expectation, compared_columns, compared_rows, has_finding, heard_at, sent_by}
use Rattle.a429_survey.specs.Figures.{Noted}
use Rattle.a429_console.specs.FileReadings.{AreReadLogs, IsFileRefusal, IsFirstUnreadLog, readable}
use Rattle.a429_console.specs.Names.{group_name}
use Rattle.a429_console.specs.Tables.{IsTableFault}
use Rattle.a429_console.specs.WholeReplies.{finding_status}
use Rattle.a429_console.specs.declared.refusals.CommandRefusal.{CommandRefusal}
use Rattle.a429_recordings.specs.JudgedPlans.{label_of, sdi_of}
use Rattle.a429_recordings.specs.Surveys.{IsNoSurvey, IsSurvey, IsSurveyForm, IsWordFault, words_in}
use Rattle.a429_recordings.specs.declared.survey.SurveyForm.{SurveyForm}

-- ---- what a table expects

-- the words of a source come in at its receiver, at any interval
abbrev pub heard_by : TableRecord → SourceRow → Expectation
heard_by t s = heard_at (receiver_name t.receivers s.receiver) s.label s.sdi

-- the words of an output go out on a bus of its group, at its transmit interval
abbrev pub sent_in_group : TableRecord → ℕ → OutputRow → Expectation
sent_in_group t g o = sent_by (group_name t g) (label_of t o.source) (sdi_of t o.source) o.min_us o.max_us

abbrev pub sent_in : TableRecord → ℕ → List Expectation
sent_in t g = map (sent_in_group t g) (outputs_in t g)

-- the sources of all receivers, and then the outputs of all groups, in table order
abbrev pub expected_by : TableRecord → List Expectation
expected_by t = map (heard_by t) t.sources ++ flat_map (sent_in t) (range_with_len 0 (length t.groups))

-- ---- what is printed

-- the sheet of some words, with the status that says whether it has a finding
abbrev pub IsComparedSheet : SurveyForm → TableRecord → List Noted → ℕ → List ℕ → Type 0
IsComparedSheet f t words status bytes =
    (bytes ≡ sheet_text f.form compared_columns (compared_rows (expected_by t) f.rate words))
    × (status ≡ finding_status (has_finding (compared_rows (expected_by t) f.rate words)))

-- that of the words of logs
abbrev pub AreCompared : TableRecord → SurveyForm → List (List ℕ) → ℕ → List ℕ → Type 0
AreCompared t f logs status bytes = (words : List Noted) × (words_in f logs ≡ Ok words) × IsComparedSheet f t words status bytes

-- that of the bytes of a table and of logs
abbrev pub IsCompared : List ℕ → SurveyForm → List (List ℕ) → ℕ → List ℕ → Type 0
IsCompared table f logs status bytes = (t : TableRecord) × (reading table ≡ Ok t) × AreCompared t f logs status bytes

-- why there is none: the table's fault, otherwise the first faulty line
abbrev pub IsUncompared : List ℕ → SurveyForm → List (List ℕ) → CommandRefusal → Type 0
IsUncompared table f logs refusal = IsTableFault table refusal ⊎ ((t : TableRecord) × (reading table ≡ Ok t) × IsWordFault f logs refusal)

-- what `survey --table` prints of the files of these names, which are all read before any is looked at
abbrev pub IsComparedBy : (List ℕ → Option (List ℕ)) → List ℕ → List (List ℕ) → SurveyForm → ℕ → List ℕ → Type 0
IsComparedBy file name names f status bytes =
    (table : List ℕ) × (logs : List (List ℕ)) × (readable (file name) ≡ Some table) × AreReadLogs file names logs × IsCompared table f logs status bytes

-- the file of the table cannot be read, otherwise a log cannot
abbrev pub IsUnreadFile : (List ℕ → Option (List ℕ)) → List ℕ → List (List ℕ) → CommandRefusal → Type 0
IsUnreadFile file name names refusal =
    IsFileRefusal file name refusal ⊎ ((table : List ℕ) × (readable (file name) ≡ Some table) × IsFirstUnreadLog file names refusal)

-- why it prints nothing: the file of the table or a log cannot be read; or what is above
abbrev pub IsUncomparedBy : (List ℕ → Option (List ℕ)) → List ℕ → List (List ℕ) → SurveyForm → CommandRefusal → Type 0
IsUncomparedBy file name names f refusal =
    IsUnreadFile file name names refusal
    ⊎ ((table : List ℕ) × (logs : List (List ℕ)) × (readable (file name) ≡ Some table) × AreReadLogs file names logs × IsUncompared table f logs refusal)

-- ---- what `survey` answers

-- The sheet of the logs that a request names, in the form that it asks for, with status 0. If a table is given, what it says is in the sheet, and the status says
-- whether something is found.
abbrev pub SurveyedBy : Option (List ℕ) → (List ℕ → Option (List ℕ)) → AskedBytes → ℕ → List ℕ → Type 0
SurveyedBy None file r status bytes = (f : SurveyForm) × IsSurveyForm r.given f × IsSurvey file (r.first ∷ r.more) f status bytes
SurveyedBy (Some table) file r status bytes = (f : SurveyForm) × IsSurveyForm r.given f × IsComparedBy file table (r.first ∷ r.more) f status bytes

abbrev pub IsSurveyed : (List ℕ → Option (List ℕ)) → AskedBytes → ℕ → List ℕ → Type 0
IsSurveyed file r = SurveyedBy (text_given r.given option.Table) file r

-- why there is none
abbrev pub UnsurveyedBy : Option (List ℕ) → (List ℕ → Option (List ℕ)) → AskedBytes → CommandRefusal → Type 0
UnsurveyedBy None file r refusal = (f : SurveyForm) × IsSurveyForm r.given f × IsNoSurvey file (r.first ∷ r.more) f refusal
UnsurveyedBy (Some table) file r refusal = (f : SurveyForm) × IsSurveyForm r.given f × IsUncomparedBy file table (r.first ∷ r.more) f refusal

abbrev pub IsUnsurveyed : (List ℕ → Option (List ℕ)) → AskedBytes → CommandRefusal → Type 0
IsUnsurveyed file r = UnsurveyedBy (text_given r.given option.Table) file r
