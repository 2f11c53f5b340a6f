-- The command `check`: what it writes, and its status (profile: output).
use Rattle.std.specs.Prelude.{◌≡◌, ◌∷◌, [], ◌++◌, ◌⊎◌, ℕ, List, Option, Result, MatchResult, Ok, Err, codes, string_bytes}
use Rattle.a429_equipment.specs.TableRecord.{TableRecord}
use Rattle.a429_table.specs.Reading.{reading}
use Rattle.a429_console.specs.WholeReplies.{Replies}
use Rattle.a429_console.specs.declared.reply.Reply.{Reply}
use Rattle.a429_cert.specs.Due.{IsFirstUnfitOf}
use Rattle.a429_cert.specs.Judged.{IsVerdictOnBytes}
use Rattle.a429_text.specs.Fields.{Field, Text, Number, Absent}
use Rattle.a429_text.specs.Sheets.{sheet_text}
use Rattle.a429_text.specs.declared.sheets.SheetForm.{SheetForm}
use Rattle.a429_text.specs.declared.sheets.SheetForm.TheVariants.{Columns}
use Rattle.a429_cert.specs.Printed.{reason_text, verdict_text}
use Rattle.a429_cert.specs.declared.verdicts.Verdict.{Verdict}
use Rattle.a429_cert.specs.declared.verdicts.Verdict.TheVariants as verdicts
use Rattle.a429_console.specs.FileReadings.{AreRead, IsFirstUnread}
use Rattle.a429_console.specs.Names.{group_name, output_name}
use Rattle.a429_console.specs.RefusalText.{OrMemory}
use Rattle.a429_console.specs.declared.refusals.CommandRefusal.{CommandRefusal}
use Rattle.a429_console.specs.declared.refusals.CommandRefusal.TheVariants as refused

-- the fault of a table, otherwise its first output in table order that fits no grid period, by the names of group and source
abbrev pub IsUnjudged : List ℕ → CommandRefusal → Type 0
IsUnjudged table (refused.Table kind place) = reading table ≡ Err (kind, place)
IsUnjudged table (refused.Unfit group source) =
    (t : TableRecord) × (g : ℕ) × (o : ℕ) × (reading table ≡ Ok t) × IsFirstUnfitOf t g o × (group ≡ group_name t g) × (source ≡ output_name t g o)
IsUnjudged table _ = ⊥

-- the verdict on the text in a file by the table in another
abbrev pub IsVerdictOf : (List ℕ → Option (List ℕ)) → List ℕ → List ℕ → Verdict → Type 0
IsVerdictOf file name plan v = (table : List ℕ) × (text : List ℕ) × AreRead file (name ∷ plan ∷ []) (table ∷ text ∷ []) × IsVerdictOnBytes table text v

-- why there is none: a file, or the table
abbrev pub IsNoCheck : (List ℕ → Option (List ℕ)) → List ℕ → List ℕ → CommandRefusal → Type 0
IsNoCheck file name plan refusal =
    IsFirstUnread file (name ∷ plan ∷ []) refusal ⊎ ((table : List ℕ) × (text : List ℕ) × AreRead file (name ∷ plan ∷ []) (table ∷ text ∷ []) × IsUnjudged table refusal)

-- what judging the text in a file by the table in another gives: the verdict, or why there is none
abbrev pub IsJudging : (List ℕ → Option (List ℕ)) → List ℕ → List ℕ → Result Verdict CommandRefusal → Type 0
IsJudging file name plan result = MatchResult result (IsVerdictOf file name plan) (OrMemory (IsNoCheck file name plan))

-- 0 if the text shows the fewest buses
abbrev pub verdict_status : Verdict → ℕ
verdict_status verdicts.Fewest = 0
verdict_status (verdicts.No _) = 1

-- a verdict as a sheet of one row: `fewest`, or `no` with the reason and the line's number from 1
abbrev pub verdict_columns : List (List ℕ)
verdict_columns = codes "result" ∷ codes "reason" ∷ codes "line" ∷ []

abbrev pub verdict_row : Verdict → List Field
verdict_row verdicts.Fewest = Text (codes "fewest") ∷ Absent ∷ Absent ∷ []
verdict_row (verdicts.No found) = Text (codes "no") ∷ Text (reason_text found.reason) ∷ Number found.line ∷ []

-- the line of a verdict, or its sheet
abbrev pub told_verdict : SheetForm → Verdict → List ℕ
told_verdict Columns v = verdict_text v ++ 10 ∷ []
told_verdict form v = sheet_text form verdict_columns (verdict_row v ∷ [])

-- the same, and its status
abbrev pub IsVerdictReply : SheetForm → Verdict → ℕ → List ℕ → Type 0
IsVerdictReply form v status bytes = (status ≡ verdict_status v) × (bytes ≡ told_verdict form v)

-- the verdict on the text in a file by the table in another, in this form, and its status
abbrev pub IsCheckOf : (List ℕ → Option (List ℕ)) → SheetForm → List ℕ → List ℕ → ℕ → List ℕ → Type 0
IsCheckOf file form name plan status bytes = (v : Verdict) × IsVerdictOf file name plan v × IsVerdictReply form v status bytes

-- the answer of `check` on two files, or why there is none
abbrev pub AnswersCheck : (List ℕ → Option (List ℕ)) → SheetForm → List ℕ → List ℕ → Result Reply CommandRefusal → Type 0
AnswersCheck file form name plan result = Replies (IsCheckOf file form name plan) (IsNoCheck file name plan) result
