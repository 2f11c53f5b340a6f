-- The command `simulate`: what it writes, and its status (profile: docs/FORMATS.md, Output of `simulate`).
use Rattle.std.specs.Prelude.{◌≡◌, ◌∷◌, [], ◌++◌, ◌⊎◌, ℕ, List, Bool, true, false, Option, None, Some, Ok, Result, MatchResult, IfOk, codes, take}
use Rattle.a429_text.specs.declared.sheets.SheetForm.{SheetForm}
use Rattle.a429_text.specs.declared.sheets.SheetForm.TheVariants as form
use Rattle.a429_arguments.specs.declared.times.LogOrigin.{LogOrigin}
use Rattle.a429_arguments.specs.declared.times.LogOrigin.TheVariants as origin
use Rattle.a429_logs.specs.declared.calendars.Calendar.TheVariants.{Open}
use Rattle.a429_logs.specs.declared.clocks.Clock.{Clock}
use Rattle.a429_logs.specs.Logs.{renames_of}
use Rattle.a429_logs.specs.declared.reading.Reading.{Reading}
use Rattle.a429_slots.specs.Proposed.{Proposed}
use Rattle.a429_console.specs.FileReadings.{AreReadLogs, IsFirstUnreadLog}
use Rattle.a429_console.specs.Files.{logs_of}
use Rattle.a429_console.specs.Names.{naming_of}
use Rattle.a429_console.specs.Outputs.{AppendsPending, IsPut, OrNoMemory, memory_refused}
use Rattle.a429_console.specs.RefusalText.{OrMemory, refusal_line}
use Rattle.a429_arguments.specs.Given.{Given, dates_of, form_of, has_given, long_number_given, order_of, origin_of, unit_of}
use Rattle.a429_arguments.specs.Requests.{AskedBytes}
use Rattle.a429_arguments.specs.declared.options.OptionName.TheVariants as option
use Rattle.a429_given.specs.GivenPlans.{IsGivenPlan, IsNoGivenPlan}
use Rattle.a429_given.specs.GivenTables.{IsTableRead, IsTableUnread, TableTexts, named_table, table_texts}
use Rattle.a429_console.specs.declared.refusals.CommandRefusal.{CommandRefusal}
use Rattle.a429_console.specs.declared.refusals.CommandRefusal.TheVariants as refused
use Rattle.a429_console.specs.declared.reply.Reply.{Reply}
use Rattle.a429_recordings.specs.CloseWords.{AreSpaced}
use Rattle.a429_recordings.specs.LogItems.{PassesNoLine}
use Rattle.a429_recordings.specs.LogViews.{View, view_of, whole_view}
use Rattle.a429_recordings.specs.SimulationLog.{IsLogFault, log_words}
use Rattle.a429_recordings.specs.Timeline.{TimelineIsBegun, IsTimeline, SendsTooMuch, end_of}
use Rattle.a429_recordings.specs.Simulating.{happenings_of, steps_of, text_of}
use Rattle.a429_recordings.specs.SimulationRuns.{AreHappenings, CanBePlayed, HasPlayed, HasStationNames, IsBegin}
use Rattle.a429_recordings.specs.Summary.{summary_text}
use Rattle.a429_recordings.specs.declared.simulate.Simulation.{Simulation}
use Rattle.a429_recordings.specs.declared.simulate.SimulationForm.{SimulationForm}
use Rattle.a429_recordings.specs.declared.simulate.SimulationInput.{SimulationInput}
use Rattle.a429_recordings.specs.declared.simulate.lines.LineStyle.{LineStyle}
use Rattle.a429_recordings.specs.declared.simulate.lines.LineStyle.TheVariants as style
use Rattle.a429_recordings.specs.declared.simulate.lines.LineWriter.{LineWriter}
use Rattle.a429_recordings.specs.declared.simulate.log.LogWord.{LogWord}
use Rattle.a429_recordings.specs.declared.simulate.machine.Happening.{Happening}
use Rattle.a429_recordings.specs.declared.simulate.moments.Moment.{Moment}
use Rattle.a429_recordings.specs.declared.simulate.playing.Player.{Player}

-- times are read as they are, and then counted from a time on (`from_of`); or they are counted from that of the first word
abbrev pub clock_from : LogOrigin → Clock
clock_from (origin.Time base) = record { base = Some 0; last = 0 }
clock_from origin.First = record { base = None; last = 0 }

-- the first line of a log is read as the options ask for, with these headings taken as others
pub record IsReadingFor (given : Given) (reading : Reading) : Type 0 where
  pub unit : reading.unit ≡ unit_of given
  pub order : reading.order ≡ order_of given
  pub dates : reading.dates ≡ dates_of given
  pub renames : renames_of reading ≡ given option.Map
  pub shape : reading.shape ≡ None
  pub has_rows : reading.has_rows ≡ false
  pub calendar : reading.calendar ≡ Open
  pub clock : reading.clock ≡ clock_from (origin_of given)

-- no line of the logs of these names is passed over as they are read, other than those that every log may have
abbrev pub PassesNoAskedLine : (List ℕ → Option (List ℕ)) → List (List ℕ) → Given → Type 0
PassesNoAskedLine file names given = (reading : Reading) → IsReadingFor given reading → PassesNoLine file names reading

-- how lines are written, by whether only the words that are sent have one, and by the form of what is printed
abbrev pub line_style : Bool → SheetForm → LineStyle
line_style true form = style.Log
line_style false form.Csv = style.Commas
line_style false _ = style.Spaces

-- the form is what the options ask for
pub record IsSimulationForm (given : Given) (f : SimulationForm) : Type 0 where
  pub until : f.until ≡ long_number_given given option.Until
  pub summary : f.summary ≡ has_given given option.Summary
  pub style : f.style ≡ line_style (has_given given option.Sent) (form_of given)
  pub form : f.form ≡ form_of given
  pub reading : IsReadingFor given f.reading

-- the bytes of the files that a simulation reads, and which words of the logs are taken
pub record SimulationFiles : Type 0 where
  pub table : TableTexts
  pub logs : List (List ℕ)
  pub view : View

-- they are those of the files of these names, which are all read before any is looked at
abbrev pub AreSimulationFiles : (List ℕ → Option (List ℕ)) → TableTexts → List (List ℕ) → View → SimulationFiles → Type 0
AreSimulationFiles file table logs view i = IsTableRead file table i.table × AreReadLogs file logs i.logs × (i.view ≡ view)

-- of these files the first that cannot be read
abbrev pub IsUnreadFile : (List ℕ → Option (List ℕ)) → TableTexts → List (List ℕ) → CommandRefusal → Type 0
IsUnreadFile file table logs refusal =
    IsTableUnread file table refusal ⊎ ((i : TableTexts) × IsTableRead file table i × IsFirstUnreadLog file logs refusal)

-- the table has a plan, at whose slot 0 the station opens, and the log these words
pub record IsSimulated (i : SimulationFiles) (reading : Reading) (q : Proposed) (words : List LogWord) : Type 0 where
  pub proposed : IsGivenPlan i.table q
  pub words_are : log_words (naming_of q.station) i.view reading i.logs ≡ Ok words

-- of a table with a plan, the log has a fault
abbrev pub IsLogRefusal : SimulationFiles → Reading → CommandRefusal → Type 0
IsLogRefusal i reading refusal = (q : Proposed) × IsGivenPlan i.table q × IsLogFault (naming_of q.station) i.view reading i.logs refusal

-- why there is no simulation of these bytes: the table or its plan, or the log
abbrev pub IsNoSimulation : SimulationFiles → Reading → CommandRefusal → Type 0
IsNoSimulation i reading refusal = IsNoGivenPlan i.table refusal ⊎ IsLogRefusal i reading refusal

-- a group would send too much from the first word to the last time
abbrev pub IsLongRefusal : SimulationFiles → SimulationForm → CommandRefusal → Type 0
IsLongRefusal i form refusal =
    (q : Proposed) × (words : List LogWord) × IsSimulated i form.reading q words × (refusal ≡ refused.TooMuch)
    × SendsTooMuch q words (end_of q words form.until)

-- why nothing is simulated: the bytes, or that it would be too long
abbrev pub IsUnsimulated : SimulationFiles → SimulationForm → CommandRefusal → Type 0
IsUnsimulated i form refusal = IsNoSimulation i form.reading refusal ⊎ IsLongRefusal i form refusal

-- why there is no simulation: a file, the bytes, or that it would be too long
abbrev pub IsSimulationRefusal : (List ℕ → Option (List ℕ)) → TableTexts → List (List ℕ) → View → SimulationForm → CommandRefusal → Type 0
IsSimulationRefusal file table logs view form refusal =
    IsUnreadFile file table logs refusal
    ⊎ ((i : SimulationFiles) × AreSimulationFiles file table logs view i × IsUnsimulated i form refusal)

-- what comes before the lines: with commas the names of the fields
abbrev pub heading : LineStyle → List ℕ
heading style.Commas = codes "time,group,bus,word,source,age_us,receiver,refused" ++ 10 ∷ []
heading _ = []

-- the lines of what happens in the whole timeline were printed
abbrev pub IsPrinted : Proposed → List LogWord → ℕ → LineStyle → List ℕ → Type 0
IsPrinted q words last style bytes =
    (moments : List Moment) × IsTimeline q words last moments × (bytes ≡ heading style ++ text_of q style (happenings_of q (steps_of q moments)))

-- the lines of what happens first in a timeline were printed
abbrev pub IsPrintedInPart : Proposed → List LogWord → ℕ → LineStyle → List ℕ → Type 0
IsPrintedInPart q words last style bytes =
    (moments : List Moment) × (n : ℕ) × TimelineIsBegun q words last moments
    × (bytes ≡ heading style ++ text_of q style (take n (happenings_of q (steps_of q moments))))

-- what a simulation that began writes, and its status: all lines, or the first ones and then that an allocation failed
abbrev pub IsPrinting : Proposed → List LogWord → ℕ → LineStyle → ℕ → List ℕ → Type 0
IsPrinting q words last style status bytes =
    (IsPrinted q words last style bytes × (status ≡ 0))
    ⊎ ((lines : List ℕ) × IsPrintedInPart q words last style lines × (status ≡ 1) × (bytes ≡ lines ++ memory_refused ++ 10 ∷ []))

-- what a simulation that began writes instead of its lines, and its status: the summary of the whole timeline
abbrev pub IsSummary : Proposed → List LogWord → ℕ → SheetForm → ℕ → List ℕ → Type 0
IsSummary q words last form status bytes =
    (moments : List Moment) × IsTimeline q words last moments × (bytes ≡ summary_text q (happenings_of q (steps_of q moments)) form) × (status ≡ 0)

-- what it writes: the summary in a form, if that is asked for, or its lines
abbrev pub IsWritten : Proposed → List LogWord → ℕ → Bool → LineStyle → SheetForm → ℕ → List ℕ → Type 0
IsWritten q words last true style form = IsSummary q words last form
IsWritten q words last false style form = IsPrinting q words last style

-- what `simulate` writes, and its status: the line of a refusal, or what the simulation prints
abbrev pub IsSimulation : (List ℕ → Option (List ℕ)) → TableTexts → List (List ℕ) → View → SimulationForm → ℕ → List ℕ → Type 0
IsSimulation file table logs view form status bytes =
    ((refusal : CommandRefusal) × OrMemory (IsSimulationRefusal file table logs view form) refusal × (status ≡ 1) × (bytes ≡ refusal_line refusal ++ 10 ∷ []))
    ⊎ ((i : SimulationFiles) × (q : Proposed) × (words : List LogWord) × AreSimulationFiles file table logs view i × IsSimulated i form.reading q words
    × IsWritten q words (end_of q words form.until) form.summary form.style form.form status bytes)

-- the same of a request, in the form that the options ask for
abbrev pub IsAskedSimulation : (List ℕ → Option (List ℕ)) → AskedBytes → ℕ → List ℕ → Type 0
IsAskedSimulation file r status bytes =
    (form : SimulationForm) × IsSimulationForm r.given form × IsSimulation file (named_table r) (r.second ∷ r.more) (whole_view r.given) form status bytes

-- the words of the logs that are simulated are apart
abbrev pub SimulatesSpacedWords : (List ℕ → Option (List ℕ)) → TableTexts → List (List ℕ) → View → SimulationForm → Type 0
SimulatesSpacedWords file table logs view form =
    (i : SimulationFiles) (q : Proposed) (words : List LogWord) → AreSimulationFiles file table logs view i → IsSimulated i form.reading q words → AreSpaced words

-- the same of a request
abbrev pub SimulatesAskedSpacedWords : (List ℕ → Option (List ℕ)) → AskedBytes → Type 0
SimulatesAskedSpacedWords file r =
    (form : SimulationForm) → IsSimulationForm r.given form → SimulatesSpacedWords file (named_table r) (r.second ∷ r.more) (whole_view r.given) form

-- ---- by the values of the program

abbrev pub files_of : SimulationInput → SimulationFiles
files_of i = record { table = table_texts i.table; logs = logs_of i.logs.items; view = view_of i.view }

-- what reading the files gives: their bytes, or the first that cannot be read
abbrev pub IsSimulationReading : (List ℕ → Option (List ℕ)) → AskedBytes → Result SimulationInput CommandRefusal → Type 0
IsSimulationReading file r result =
    MatchResult result (λ i. AreSimulationFiles file (named_table r) (r.second ∷ r.more) (whole_view r.given) (files_of i))
    (OrMemory (IsUnreadFile file (named_table r) (r.second ∷ r.more)))

-- a station of a table, with its names
abbrev pub IsWriterOf : TableTexts → LineStyle → LineWriter → Type 0
IsWriterOf table style s = IsGivenPlan table s.proposal × HasStationNames s.names s.proposal × (s.style ≡ style)

-- a beginning with the words of the logs
abbrev pub BeginsLog : LineWriter → SimulationFiles → SimulationForm → Player → Type 0
BeginsLog s i form p =
    (words : List LogWord) × (log_words s.names i.view form.reading i.logs ≡ Ok words) × IsBegin s.proposal words (end_of s.proposal words form.until) p

-- why there is none: the log, or that a group would send too much
abbrev pub BeginsNoLog : LineWriter → SimulationFiles → SimulationForm → CommandRefusal → Type 0
BeginsNoLog s i form refusal =
    IsLogFault s.names i.view form.reading i.logs refusal
    ⊎ ((words : List LogWord) × (log_words s.names i.view form.reading i.logs ≡ Ok words) × (refusal ≡ refused.TooMuch)
    × SendsTooMuch s.proposal words (end_of s.proposal words form.until))

-- it has the names of its station, and can be played
pub record SimulationIsReady (s : Simulation) : Type 0 where
  pub names : HasStationNames s.writer.names s.writer.proposal
  pub playable : CanBePlayed s.writer.proposal s.player

-- what these bytes simulate, at its begin
pub record IsPreparedFor (i : SimulationFiles) (form : SimulationForm) (s : Simulation) : Type 0 where
  pub words : List LogWord
  pub simulated : IsSimulated i form.reading s.writer.proposal words
  pub style : s.writer.style ≡ form.style
  pub begin : HasPlayed s.writer.proposal words (end_of s.writer.proposal words form.until) [] s.player
  pub ready : SimulationIsReady s

-- or why there is none
abbrev pub IsPreparing : SimulationFiles → SimulationForm → Result Simulation CommandRefusal → Type 0
IsPreparing i form result = MatchResult result (IsPreparedFor i form) (OrMemory (IsUnsimulated i form))

-- these lines were printed by a simulation to its end, or if an allocation failed those of what happened first
abbrev pub ArePrinted : Proposed → List LogWord → ℕ → LineStyle → Bool → List ℕ → Type 0
ArePrinted q words last style true bytes = (told : List Happening) × AreHappenings q words last told × (bytes ≡ text_of q style told)
ArePrinted q words last style false bytes =
    (moments : List Moment) × (n : ℕ) × TimelineIsBegun q words last moments × (bytes ≡ text_of q style (take n (happenings_of q (steps_of q moments))))

-- a timeline is played on a station to which nothing has happened: the lines are put out, or appended to those that are yet to be; the answer says
-- whether memory sufficed
abbrev pub PutsLines : {X E : Type 0} → (X → Option (List ℕ)) → Proposed → LineStyle → Player → X → X → List ℕ → List ℕ → Result Bool E → Type 0
PutsLines contents q style player out out' text text' result =
    (words : List LogWord) (last : ℕ) → HasPlayed q words last [] player
    → IfOk result (λ sufficed. (bytes : List ℕ) × ArePrinted q words last style sufficed bytes × AppendsPending (contents out) text (contents out') text' bytes)

-- the lines of a simulation that begins so were put, or that an allocation failed before that
abbrev pub HasPrintedLines : {E : Type 0} → Simulation → Option (List ℕ) → Option (List ℕ) → Result ℕ E → Type 0
HasPrintedLines s old new result =
    (words : List LogWord) (last : ℕ) → HasPlayed s.writer.proposal words last [] s.player
    → IfOk result (λ status. IsPut (OrNoMemory (IsPrinting s.writer.proposal words last s.writer.style)) old new status)

-- the reply is the summary of a simulation that begins so, in a form; or an allocation failed
abbrev pub RepliesSummary : Simulation → SheetForm → Result Reply CommandRefusal → Type 0
RepliesSummary s form result =
    (words : List LogWord) (last : ℕ) → HasPlayed s.writer.proposal words last [] s.player
    → MatchResult result (λ reply. IsSummary s.writer.proposal words last form reply.status reply.bytes.items) (λ refusal. refusal ≡ refused.Memory)

-- what it prints was put, or that an allocation failed before that
abbrev pub HasPrinted : {E : Type 0} → Simulation → SimulationForm → Option (List ℕ) → Option (List ℕ) → Result ℕ E → Type 0
HasPrinted s form old new result =
    (words : List LogWord) (last : ℕ) → HasPlayed s.writer.proposal words last [] s.player
    → IfOk result (λ status. IsPut (OrNoMemory (IsWritten s.writer.proposal words last form.summary form.style form.form)) old new status)

-- the text is the summary of a simulation that begins so, in a form
abbrev pub HasSummary : LineWriter → Player → SheetForm → List ℕ → Type 0
HasSummary s player form text = (words : List LogWord) (last : ℕ) → HasPlayed s.proposal words last [] player → IsSummary s.proposal words last form 0 text
