-- The command `survey`: what it prints, and why it prints nothing (profile: docs/FORMATS.md, Output of `survey`).
use Rattle.std.specs.Prelude.{◌≡◌, ◌⊎◌, ℕ, List, Option, Some, None, Ok, Result, if◌then◌else◌, option_map, unwrap_or}
use Rattle.std.specs.Str.{is_utf8}
use Rattle.a429_text.specs.Sheets.{sheet_text}
use Rattle.a429_text.specs.declared.sheets.SheetForm.TheVariants as form
use Rattle.a429_logs.specs.LogRows.{Stated}
use Rattle.a429_survey.specs.Figures.{Noted}
use Rattle.a429_survey.specs.Starts.{start_columns, start_rows}
use Rattle.a429_survey.specs.Survey.{survey_columns, survey_rows}
use Rattle.a429_console.specs.FileReadings.{AreReadLogs, IsFirstUnreadLog}
use Rattle.a429_arguments.specs.Given.{Given, form_of, has_given, number_given}
use Rattle.a429_arguments.specs.declared.options.OptionName.TheVariants as option
use Rattle.a429_console.specs.declared.refusals.CommandRefusal.{CommandRefusal}
use Rattle.a429_recordings.specs.LogItems.{IsItemFault, items_of}
use Rattle.a429_recordings.specs.LogViews.{View, one_item, same_clock, view_of, viewed, window_view}
use Rattle.a429_recordings.specs.SimulationReplies.{IsReadingFor}
use Rattle.a429_recordings.specs.declared.survey.SurveyForm.{SurveyForm}

-- a name, if it is UTF-8
unfoldable pub text_in : List ℕ → Option (List ℕ)
text_in name = if is_utf8 name then Some name else None

-- a word, if its name is UTF-8
unfoldable pub noted_of : Stated → Option Noted
noted_of w = option_map (λ name. record { time = w.time; name = name; raw = w.raw }) (text_in w.name)

-- the same, of a word as it is taken
abbrev pub noted_by : View → Stated → Option (List Noted)
noted_by view = viewed view (one_item noted_of)

-- the form is what the options ask for: a bit rate of 100000 bit/s, and intervals widened by 25 per cent, unless others are given
-- (profile: docs/RULES.md, Limits)
pub record IsSurveyForm (given : Given) (f : SurveyForm) : Type 0 where
  pub rate : f.rate ≡ unwrap_or (number_given given option.Rate) 100000
  pub slack : f.slack ≡ (if has_given given option.Rows then Some (unwrap_or (number_given given option.Slack) 25) else None)
  pub form : f.form ≡ form_of given
  pub view : view_of f.view ≡ window_view given same_clock
  pub reading : IsReadingFor given f.reading

-- the sheet of some words: the survey in a form, or rows for `import`
abbrev pub survey_text : SurveyForm → Option ℕ → List Noted → List ℕ
survey_text f None words = sheet_text f.form survey_columns (survey_rows f.rate words)
survey_text f (Some slack) words = sheet_text form.Csv start_columns (start_rows slack f.rate words)

-- the words of logs as they are taken, or the first faulty line
abbrev pub words_in : SurveyForm → List (List ℕ) → Result (List Noted) ℕ
words_in f logs = items_of (noted_by (view_of f.view)) f.reading logs

-- the refusal names that line
abbrev pub IsWordFault : SurveyForm → List (List ℕ) → CommandRefusal → Type 0
IsWordFault f logs = IsItemFault (noted_by (view_of f.view)) f.reading logs

-- what `survey` prints of the logs of these names, with status 0
abbrev pub IsSurvey : (List ℕ → Option (List ℕ)) → List (List ℕ) → SurveyForm → ℕ → List ℕ → Type 0
IsSurvey file names f status bytes =
    (logs : List (List ℕ)) × (words : List Noted) × AreReadLogs file names logs × (words_in f logs ≡ Ok words) × (bytes ≡ survey_text f f.slack words) × (status ≡ 0)

-- why it prints nothing: a log that cannot be read, or the first faulty line
abbrev pub IsNoSurvey : (List ℕ → Option (List ℕ)) → List (List ℕ) → SurveyForm → CommandRefusal → Type 0
IsNoSurvey file names f refusal =
    IsFirstUnreadLog file names refusal ⊎ ((logs : List (List ℕ)) × AreReadLogs file names logs × IsWordFault f logs refusal)
