-- The commands that look for something, `lint` and `diff`: what they write, and their status (profile: output).
use Rattle.std.specs.Prelude.{◌≡◌, ◌==◌, ◌++◌, ◌⊎◌, ℕ, Bool, List, Option, Result, Ok, Some, if◌then◌else◌, length, map}
use Rattle.a429_text.specs.Fields.{Field}
use Rattle.a429_text.specs.Sheets.{sheet_text}
use Rattle.a429_text.specs.declared.sheets.Sheet.{Sheet}
use Rattle.a429_text.specs.declared.sheets.SheetForm.{SheetForm}
use Rattle.a429_equipment.specs.TableRecord.{TableRecord}
use Rattle.a429_table.specs.Reading.{reading}
use Rattle.a429_slots.specs.Proposed.{Proposed}
use Rattle.a429_documents.specs.Diff.{diff_columns, diff_rows}
use Rattle.a429_documents.specs.Lint.{AreFindings, lint_columns}
use Rattle.a429_console.specs.FileReadings.{IsFileRefusal, readable}
use Rattle.a429_console.specs.Tables.{IsTableFault}
use Rattle.a429_given.specs.GivenPlans.{IsGivenPlan, IsNoGivenPlan}
use Rattle.a429_given.specs.GivenTables.{IsTableRead, IsTableUnread, TableTexts, named_table}
use Rattle.a429_console.specs.declared.refusals.CommandRefusal.{CommandRefusal}
use Rattle.a429_arguments.specs.Given.{form_of, has_given, text_given}
use Rattle.a429_arguments.specs.Requests.{AskedBytes}
use Rattle.a429_arguments.specs.declared.options.OptionName.TheVariants as option
use Rattle.a429_cli.specs.Stamping.{IsStamped, stamp_line}
use Rattle.a429_console.specs.WholeReplies.{Replies}
use Rattle.a429_console.specs.declared.reply.Reply.{Reply}

-- the names of a sheet's columns
abbrev pub names_of : Sheet → List (List ℕ)
names_of sheet = map (λ name. name.now) sheet.columns.now

-- 0 if nothing is found
abbrev pub found_status : List (List Field) → ℕ
found_status rows = if length rows == 0 then 0 else 1

-- rows that were found are written in a form, with the status that belongs to them
abbrev pub IsFound : SheetForm → List (List ℕ) → List (List Field) → ℕ → List ℕ → Type 0
IsFound form columns rows status bytes = (bytes ≡ sheet_text form columns rows) × (status ≡ found_status rows)

-- ---- lint

-- what is written of the likely mistakes in a table, and the status
abbrev pub IsLint : SheetForm → TableRecord → ℕ → List ℕ → Type 0
IsLint form t status bytes = (rows : List (List Field)) × AreFindings t rows × IsFound form lint_columns rows status bytes

-- the same of the table in a file, which need not have a plan
abbrev pub IsLinted : (List ℕ → Option (List ℕ)) → AskedBytes → ℕ → List ℕ → Type 0
IsLinted file r status bytes =
    (table : List ℕ) × (t : TableRecord) × (readable (file r.first) ≡ Some table) × (reading table ≡ Ok t)
    × IsStamped r.given (stamp_line r.first table) (IsLint (form_of r.given) t) status bytes

-- why there is none: the file, or its table
abbrev pub IsNoLint : (List ℕ → Option (List ℕ)) → List ℕ → CommandRefusal → Type 0
IsNoLint file name refusal = IsFileRefusal file name refusal ⊎ ((table : List ℕ) × (readable (file name) ≡ Some table) × IsTableFault table refusal)

-- ---- diff

-- what is written of what changes from the plan of a table to that of another, all of it or not, and the status
abbrev pub IsDiffBetween : Bool → SheetForm → TableTexts → TableTexts → ℕ → List ℕ → Type 0
IsDiffBetween all form table other status bytes =
    (a : Proposed) × (b : Proposed) × IsGivenPlan table a × IsGivenPlan other b × IsFound form diff_columns (diff_rows a b all) status bytes

-- why there is nothing: the first table or its plan, otherwise the second or its plan
abbrev pub IsNoDiffBetween : TableTexts → TableTexts → CommandRefusal → Type 0
IsNoDiffBetween table other refusal = IsNoGivenPlan table refusal ⊎ ((a : Proposed) × IsGivenPlan table a × IsNoGivenPlan other refusal)

-- the table that a request names second, with the plan of `--other-plan`
abbrev pub other_table : AskedBytes → TableTexts
other_table r = record { table = r.second; plan = text_given r.given option.OtherPlan }

-- the bytes of the files of both
abbrev pub AreTablesRead : (List ℕ → Option (List ℕ)) → AskedBytes → TableTexts → TableTexts → Type 0
AreTablesRead file r a b = IsTableRead file (named_table r) a × IsTableRead file (other_table r) b

-- of these files the first that cannot be read
abbrev pub AreTablesUnread : (List ℕ → Option (List ℕ)) → AskedBytes → CommandRefusal → Type 0
AreTablesUnread file r refusal =
    IsTableUnread file (named_table r) refusal ⊎ ((a : TableTexts) × IsTableRead file (named_table r) a × IsTableUnread file (other_table r) refusal)

-- the same of the tables in two files
abbrev pub IsDiffOf : (List ℕ → Option (List ℕ)) → AskedBytes → ℕ → List ℕ → Type 0
IsDiffOf file r status bytes =
    (a : TableTexts) × (b : TableTexts) × AreTablesRead file r a b
    × IsStamped r.given (stamp_line r.first a.table ++ stamp_line r.second b.table) (IsDiffBetween (has_given r.given option.All) (form_of r.given) a b) status bytes

-- why there is nothing: a file, otherwise a table
abbrev pub IsNoDiff : (List ℕ → Option (List ℕ)) → AskedBytes → CommandRefusal → Type 0
IsNoDiff file r refusal =
    AreTablesUnread file r refusal ⊎ ((a : TableTexts) × (b : TableTexts) × AreTablesRead file r a b × IsNoDiffBetween a b refusal)

-- the answer of `diff` on two files, or why there is none
abbrev pub AnswersDiff : (List ℕ → Option (List ℕ)) → AskedBytes → Result Reply CommandRefusal → Type 0
AnswersDiff file r result = Replies (IsDiffOf file r) (IsNoDiff file r) result
