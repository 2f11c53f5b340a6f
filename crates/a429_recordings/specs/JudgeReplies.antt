-- The command `judge`: what it prints, and why it prints nothing (profile: docs/FORMATS.md, Output of `judge`).
use Rattle.std.specs.Prelude.{◌≡◌, ◌==◌, ◌∷◌, ◌⊎◌, ℕ, Bool, true, false, if◌then◌else◌, is_some, not, List, None, Option, Some, Ok, Result, MatchResult, length, option_and_then}
use Rattle.std.specs.List.{find}
use Rattle.std.specs.Option.{option_map_or}
use Rattle.a429_text.specs.Sheets.{sheet_text}
use Rattle.a429_text.specs.declared.sheets.SheetForm.{SheetForm}
use Rattle.a429_logs.specs.LogRows.{Stated}
use Rattle.a429_logs.specs.declared.reading.Reading.{Reading}
use Rattle.a429_slots.specs.Proposed.{Proposed}
use Rattle.a429_console.specs.FileReadings.{AreReadLogs, IsFirstUnreadLog}
use Rattle.a429_console.specs.Files.{logs_of}
use Rattle.a429_arguments.specs.Texts.{texts_of}
use Rattle.a429_arguments.specs.Tolerances.{tolerance_group}
use Rattle.a429_console.specs.Names.{Naming, naming_of, number_named}
use Rattle.a429_console.specs.RefusalText.{OrMemory}
use Rattle.a429_console.specs.WholeReplies.{Replies, finding_status}
use Rattle.a429_arguments.specs.Given.{Given, drift_of, form_of, has_given, shift_of}
use Rattle.a429_arguments.specs.Requests.{AskedBytes}
use Rattle.a429_arguments.specs.declared.options.OptionName.TheVariants as option
use Rattle.a429_console.specs.Tables.{IsGroupRefusal}
use Rattle.a429_given.specs.GivenPlans.{IsGivenPlan, IsNoGivenPlan}
use Rattle.a429_given.specs.GivenTables.{IsTableRead, IsTableUnread, TableTexts, named_table, table_texts}
use Rattle.a429_console.specs.declared.refusals.CommandRefusal.{CommandRefusal}
use Rattle.a429_console.specs.declared.refusals.CommandRefusal.TheVariants as refused
use Rattle.a429_console.specs.declared.reply.Reply.{Reply}
use Rattle.a429_align.specs.declared.search.Alignment.{Alignment}
use Rattle.a429_judge.specs.Recordings.{JudgedLogs, Recording}
use Rattle.a429_recordings.specs.BoxLogs.{overlap, part_word_by, recording_of, restarted}
use Rattle.a429_recordings.specs.JudgedPlans.{all_duties, event_columns, is_any_wide, is_found, judge_columns, judge_events, judged_rows}
use Rattle.a429_recordings.specs.LogItems.{IsItemFault, PassesNone, items_of, reading_behind}
use Rattle.a429_recordings.specs.LogViews.{View, same_clock, view_after, view_of, window_view}
use Rattle.a429_recordings.specs.SimulationReplies.{IsReadingFor}
use Rattle.a429_recordings.specs.declared.judge.input.JudgeInput.{JudgeInput}
use Rattle.a429_recordings.specs.declared.judge.input.JudgeTerms.{JudgeTerms}
use Rattle.a429_recordings.specs.declared.judge.judging.Judging.{Judging}
use Rattle.a429_recordings.specs.declared.judge.words.BoxLog.{BoxLog}
use Rattle.a429_recordings.specs.declared.logs.views.ClockMove.{ClockMove}
use Rattle.a429_recordings.specs.declared.judge.words.BoxLog.TheVariants as log
use Rattle.a429_recordings.specs.declared.judge.words.BoxWord.{BoxWord}

-- ---- what is asked for, and files

-- which words of the logs are taken, of what came in and of what was sent; whether the clock of what was sent is looked for; the tolerances that are
-- given; how the first line of the first log is read; whether there is a row for each finding; and in which form
pub record BoxTerms : Type 0 where
  pub heard_view : View
  pub sent_view : View
  pub aligned : Bool
  pub tolerances : List (List ℕ)
  pub reading : Reading
  pub events : Bool
  pub form : SheetForm

-- how the times of what was sent are moved (`--drift`, `--shift`)
abbrev pub given_clock : Given → ClockMove
given_clock given = record { drift = drift_of given; shift = shift_of given }

-- they are what the options ask for
pub record AreAskedTerms (given : Given) (t : BoxTerms) : Type 0 where
  pub heard_view : t.heard_view ≡ window_view given same_clock
  pub sent_view : t.sent_view ≡ window_view given (given_clock given)
  pub aligned : t.aligned ≡ has_given given option.Align
  pub tolerances : t.tolerances ≡ given option.Tolerance
  pub reading : IsReadingFor given t.reading
  pub events : t.events ≡ has_given given option.Events
  pub form : t.form ≡ form_of given

-- The bytes of a table, of the logs of what came in, and of those of what was sent. Without one of those, the logs of what came in have both. And what
-- is asked for.
pub record BoxFiles : Type 0 where
  pub table : TableTexts
  pub heard : List (List ℕ)
  pub sent : List (List ℕ)
  pub terms : BoxTerms

-- the names of the logs of what came in: IN, and those of `--in`
abbrev pub heard_names : AskedBytes → List (List ℕ)
heard_names r = r.second ∷ r.given option.In

-- these are the bytes of the files that a request names, and what it asks for; those of OUT were sent
abbrev pub AreBoxFiles : (List ℕ → Option (List ℕ)) → AskedBytes → BoxFiles → Type 0
AreBoxFiles file r i =
    IsTableRead file (named_table r) i.table × AreReadLogs file (heard_names r) i.heard × AreReadLogs file r.more i.sent × AreAskedTerms r.given i.terms

-- of these files the first that cannot be read
abbrev pub IsUnreadBoxFile : (List ℕ → Option (List ℕ)) → AskedBytes → CommandRefusal → Type 0
IsUnreadBoxFile file r refusal =
    IsTableUnread file (named_table r) refusal
    ⊎ (((table : TableTexts) × IsTableRead file (named_table r) table × IsFirstUnreadLog file (heard_names r) refusal)
    ⊎ ((table : TableTexts) × (heard : List (List ℕ)) × IsTableRead file (named_table r) table × AreReadLogs file (heard_names r) heard
    × IsFirstUnreadLog file r.more refusal))

-- ---- the clock of what was sent

abbrev pub clock_of : Alignment → ClockMove
clock_of a = record { drift = a.drift; shift = a.shift }

-- with the clock that is found, otherwise with that which is given
abbrev pub view_on : Option Alignment → View → View
view_on found view = record view { clock = option_map_or clock_of found view.clock }

-- the same files with what was sent on that clock
abbrev pub aligned_by : Option Alignment → BoxFiles → BoxFiles
aligned_by found i = record i { terms = record i.terms { sent_view = view_on found i.terms.sent_view } }

-- none is found if none is looked for
abbrev pub MayBeFound : BoxFiles → Option Alignment → Type 0
MayBeFound i found = i.terms.aligned ≡ false → found ≡ None

-- ---- logs

-- the logs of what came in have both kinds of words
abbrev pub has_both : {A : Type 0} → List A → Bool
has_both sent = length sent == 0

abbrev pub is_mixed : BoxFiles → Bool
is_mixed i = has_both i.sent

-- the logs that have what was sent
abbrev pub logs_of_sent : BoxFiles → List (List ℕ)
logs_of_sent i = if is_mixed i then i.heard else i.sent

-- a word of a log, as it is taken
abbrev pub word_by : Proposed → View → BoxLog → Bool → Stated → Option (List BoxWord)
word_by q view l mixed = part_word_by (naming_of q.station) view (record { log = l; is_mixed = mixed })

-- a word that came in
abbrev pub heard_by : Proposed → BoxFiles → Stated → Option (List BoxWord)
heard_by q i = word_by q i.terms.heard_view log.Heard (is_mixed i)

-- the words that came in, or the first faulty line
abbrev pub heard_words : Proposed → BoxFiles → Reading → Result (List BoxWord) ℕ
heard_words q i reading = items_of (heard_by q i) reading i.heard

-- a word that was sent, in a log after those that are read so
abbrev pub sent_by : Proposed → BoxFiles → Reading → Stated → Option (List BoxWord)
sent_by q i after = word_by q (view_after after i.terms.sent_view) log.Sent (is_mixed i)

-- the words that were sent
abbrev pub sent_words : Proposed → BoxFiles → Reading → Result (List BoxWord) ℕ
sent_words q i after = items_of (sent_by q i after) (restarted after) (logs_of_sent i)

-- the logs have these words, and a time in common; this is the recording of them
pub record IsRecording (q : Proposed) (i : BoxFiles) (reading : Reading) (r : Recording) : Type 0 where
  pub heard : List BoxWord
  pub sent : List BoxWord
  pub heard_are : heard_words q i reading ≡ Ok heard
  pub sent_are : sent_words q i (reading_behind reading i.heard) ≡ Ok sent
  pub common : overlap heard sent ≡ true
  pub recorded : r ≡ recording_of q.station heard sent

-- a line of what came in is faulty
abbrev pub IsHeardFault : Proposed → BoxFiles → Reading → CommandRefusal → Type 0
IsHeardFault q i reading refusal = IsItemFault (heard_by q i) reading i.heard refusal

-- none is, but a line of what was sent
abbrev pub IsSentFault : Proposed → BoxFiles → Reading → CommandRefusal → Type 0
IsSentFault q i reading refusal =
    (heard : List BoxWord) × (heard_words q i reading ≡ Ok heard)
    × IsItemFault (sent_by q i (reading_behind reading i.heard)) (restarted (reading_behind reading i.heard)) (logs_of_sent i) refusal

-- no line is faulty, but the logs have no time in common
abbrev pub AreApart : Proposed → BoxFiles → Reading → CommandRefusal → Type 0
AreApart q i reading refusal =
    (heard sent : List BoxWord) × (heard_words q i reading ≡ Ok heard) × (sent_words q i (reading_behind reading i.heard) ≡ Ok sent)
    × (overlap heard sent ≡ false) × (refusal ≡ refused.Apart)

abbrev pub IsNoRecording : Proposed → BoxFiles → Reading → CommandRefusal → Type 0
IsNoRecording q i reading refusal = IsHeardFault q i reading refusal ⊎ (IsSentFault q i reading refusal ⊎ AreApart q i reading refusal)

-- the logs are noted by the outputs of the plan
pub record AreJudgedLogs (q : Proposed) (i : BoxFiles) (reading : Reading) (j : JudgedLogs) : Type 0 where
  pub recorded : IsRecording q i reading j.noted
  pub duties : j.duties ≡ all_duties q i.terms.tolerances
  pub in_order : j.in_order ≡ true

-- what reading logs gives
abbrev pub IsRecorded : Proposed → BoxFiles → Reading → Result JudgedLogs CommandRefusal → Type 0
IsRecorded q i reading result = MatchResult result (AreJudgedLogs q i reading) (OrMemory (IsNoRecording q i reading))

-- no line of the logs is passed over, other than those that every log may have
abbrev pub PassesNoneOf : BoxFiles → Reading → Type 0
PassesNoneOf i reading = PassesNone reading i.heard × PassesNone (restarted (reading_behind reading i.heard)) i.sent

-- the same of the logs of a request
abbrev pub PassesNoAskedBoxLine : (List ℕ → Option (List ℕ)) → AskedBytes → Type 0
PassesNoAskedBoxLine file r = (i : BoxFiles) → AreBoxFiles file r i → PassesNoneOf i i.terms.reading

-- there is nothing to warn of: no clock is looked for either
abbrev pub IsQuiet : BoxFiles → Type 0
IsQuiet i = (i.terms.aligned ≡ false) × PassesNoneOf i i.terms.reading

-- ---- what is printed

-- the sheet of a recording in a form, by whether there is a row for each finding
abbrev pub judge_text : Bool → SheetForm → Proposed → List (List ℕ) → Recording → List ℕ
judge_text false form q given r = sheet_text form judge_columns (judged_rows q given r)
judge_text true form q given r = sheet_text form event_columns (judge_events q given r)

-- whether something is found: at an output, or a word is foreign; so there is a row of a finding
abbrev pub judge_finds : Bool → Proposed → List (List ℕ) → Recording → Bool
judge_finds false q given r = is_found q given r
judge_finds true q given r = not (length (judge_events q given r) == 0)

-- the logs are a recording, and this is printed of it, with the status that says whether something is found
pub record ArePrinted (q : Proposed) (i : BoxFiles) (status : ℕ) (bytes : List ℕ) : Type 0 where
  pub recording : Recording
  pub recorded : IsRecording q i i.terms.reading recording
  pub text : bytes ≡ judge_text i.terms.events i.terms.form q i.terms.tolerances recording
  pub finds : status ≡ finding_status (judge_finds i.terms.events q i.terms.tolerances recording)

-- the first group for which a tolerance is given, but which is not there
abbrev pub is_no_group : Naming → List ℕ → Bool
is_no_group names text = option_map_or (λ group. not (is_some (number_named names.groups group))) (tolerance_group text) false

abbrev pub no_group_of : Naming → List (List ℕ) → Option (List ℕ)
no_group_of names given = option_and_then tolerance_group (find (is_no_group names) given)

-- A plan is judged: each group for which a tolerance is given is there, none is too great, and the logs are a recording on the clock that is given or
-- found.
abbrev pub IsJudgedOf : Proposed → BoxFiles → ℕ → List ℕ → Type 0
IsJudgedOf q i status bytes =
    (no_group_of (naming_of q.station) i.terms.tolerances ≡ None) × (is_any_wide q i.terms.tolerances ≡ false)
    × ((clock : Option Alignment) × MayBeFound i clock × ArePrinted q (aligned_by clock i) status bytes)

-- the logs are none on the clock that is given or found
abbrev pub AreUnrecorded : Proposed → BoxFiles → CommandRefusal → Type 0
AreUnrecorded q i refusal = (clock : Option Alignment) × MayBeFound i clock × IsNoRecording q (aligned_by clock i) i.terms.reading refusal

-- it is not: a group is not there, a tolerance is too great, or the logs are none
abbrev pub IsUnjudgedOf : Proposed → BoxFiles → CommandRefusal → Type 0
IsUnjudgedOf q i refusal =
    ((name : List ℕ) × (no_group_of (naming_of q.station) i.terms.tolerances ≡ Some name) × IsGroupRefusal name refusal)
    ⊎ ((no_group_of (naming_of q.station) i.terms.tolerances ≡ None)
    × (((is_any_wide q i.terms.tolerances ≡ true) × (refusal ≡ refused.Tolerance)) ⊎ ((is_any_wide q i.terms.tolerances ≡ false) × AreUnrecorded q i refusal)))

-- what `judge` prints of these bytes, and its status
abbrev pub AreJudged : BoxFiles → ℕ → List ℕ → Type 0
AreJudged i status bytes = (q : Proposed) × IsGivenPlan i.table q × IsJudgedOf q i status bytes

-- why it prints nothing: the table or its plan; or the tolerance or the logs
abbrev pub AreUnjudged : BoxFiles → CommandRefusal → Type 0
AreUnjudged i refusal = IsNoGivenPlan i.table refusal ⊎ ((q : Proposed) × IsGivenPlan i.table q × IsUnjudgedOf q i refusal)

-- what it prints of the files that a request names, which are all read before any is looked at
abbrev pub IsJudgement : (List ℕ → Option (List ℕ)) → AskedBytes → ℕ → List ℕ → Type 0
IsJudgement file r status bytes = (i : BoxFiles) × AreBoxFiles file r i × AreJudged i status bytes

abbrev pub IsUnjudged : (List ℕ → Option (List ℕ)) → AskedBytes → CommandRefusal → Type 0
IsUnjudged file r refusal = IsUnreadBoxFile file r refusal ⊎ ((i : BoxFiles) × AreBoxFiles file r i × AreUnjudged i refusal)

-- ---- by the values of the program

abbrev pub terms_of : JudgeTerms → BoxTerms
terms_of t = record {
  heard_view = view_of t.heard_view;
  sent_view = view_of t.sent_view;
  aligned = t.aligned;
  tolerances = texts_of t.tolerances.now;
  reading = t.reading;
  events = t.events;
  form = t.form;
}

abbrev pub files_of : JudgeInput → BoxFiles
files_of i = record { table = table_texts i.table; heard = logs_of i.heard.items; sent = logs_of i.sent.items; terms = terms_of i.terms }

-- what reading the files gives
abbrev pub IsBoxReading : (List ℕ → Option (List ℕ)) → AskedBytes → Result JudgeInput CommandRefusal → Type 0
IsBoxReading file r result = MatchResult result (λ i. AreBoxFiles file r (files_of i)) (OrMemory (IsUnreadBoxFile file r))

-- the tolerances that are given
abbrev pub given_by : Judging → List (List ℕ)
given_by j = texts_of j.tolerances.now

-- the sheet of some words, with the status that says whether something is found
abbrev pub IsJudgeSheet : Bool → Judging → SheetForm → Reply → Type 0
IsJudgeSheet events j form reply =
    (reply.bytes.items ≡ judge_text events form j.proposal.now (given_by j) j.judge.now.noted)
    × (reply.status ≡ finding_status (judge_finds events j.proposal.now (given_by j) j.judge.now.noted))

-- what judging logs gives
abbrev pub IsPrinting : Proposed → BoxFiles → Result Reply CommandRefusal → Type 0
IsPrinting q i = Replies (ArePrinted q i) (IsNoRecording q i i.terms.reading)

-- what judging a plan gives
abbrev pub IsJudgingOf : Proposed → BoxFiles → Result Reply CommandRefusal → Type 0
IsJudgingOf q i = Replies (IsJudgedOf q i) (IsUnjudgedOf q i)
