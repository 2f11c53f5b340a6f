-- The commands on the plan of one table: what they write, their status, and when they are refused (profile: output).
use Rattle.std.specs.Prelude.{◌≡◌, ◌⊎◌, ℕ, List, Bool, true, false, Option, None, MatchOption, Result, Ok, Err}
use Rattle.std.specs.declared.alloc.AllocError.{AllocError}
use Rattle.a429_arguments.specs.CommandLine.{row_of}
use Rattle.a429_arguments.specs.Given.{Given, form_of, has_given, number_given, text_given}
use Rattle.a429_arguments.specs.Requests.{AskedBytes}
use Rattle.a429_arguments.specs.declared.options.OptionName.TheVariants as option
use Rattle.a429_arguments.specs.declared.forms.Verb.{Verb}
use Rattle.a429_arguments.specs.declared.forms.Verb.TheVariants as verb
use Rattle.a429_console.specs.declared.refusals.CommandRefusal.{CommandRefusal}
use Rattle.a429_console.specs.declared.refusals.CommandRefusal.TheVariants as refused
use Rattle.a429_documents.specs.Document.{icd_columns, icd_rows}
use Rattle.a429_documents.specs.KeptColumns.{kept_sheet, kept_texts}
use Rattle.a429_documents.specs.Margins.{IsMargin, margin_columns}
use Rattle.a429_documents.specs.PlanRows.{plan_columns, plan_rows}
use Rattle.a429_documents.specs.PlanSheets.{sheet_columns, sheet_named, sheet_rows}
use Rattle.a429_documents.specs.declared.sheets.PlanSheet.{PlanSheet}
use Rattle.a429_cert.specs.PlanText.{plan_text_of}
use Rattle.a429_equipment.specs.TableRecord.{TableRecord}
use Rattle.a429_slots.specs.Tables.{PlanTable}
use Rattle.a429_slots.specs.Proposed.{Proposed}
use Rattle.a429_text.specs.Fields.{Field}
use Rattle.a429_text.specs.Sheets.{sheet_text}
use Rattle.a429_text.specs.declared.sheets.SheetForm.{SheetForm}
use Rattle.a429_text.specs.declared.sheets.SheetForm.TheVariants.{Columns}
use Rattle.a429_cli.specs.Drawings.{HasImage, IsNoGroup, IsUndrawn, picture_of}
use Rattle.a429_given.specs.GivenPlans.{IsGivenPlan, IsNoGivenPlan}
use Rattle.a429_given.specs.GivenTables.{IsTableRead, IsTableUnread, TableTexts, named_table}
use Rattle.a429_cli.specs.Loads.{IsLoad, limit_of}
use Rattle.a429_cli.specs.SlotReplies.{HasSlots, slots_form}
use Rattle.a429_cli.specs.Stamping.{IsStamped, stamp_line}
use Rattle.a429_console.specs.declared.reply.Reply.{Reply}

-- the plan text, or with `--csv` or `--json` the sheet
abbrev pub told_plan : SheetForm → TableRecord → PlanTable → List ℕ
told_plan Columns e p = plan_text_of e p
told_plan form e p = sheet_text form plan_columns (plan_rows e p)

-- a sheet on the plan of a proposal, in a form
abbrev pub IsSheet : PlanSheet → SheetForm → Proposed → ℕ → List ℕ → Type 0
IsSheet s form q status text = (text ≡ sheet_text form (sheet_columns s) (sheet_rows s q.station q.plan None)) × (status ≡ 0)

-- its status, and the bytes about a proposal of a table, of a command that has no sheet of its name
abbrev pub IsOtherReply : Verb → Given → List ℕ → Proposed → ℕ → List ℕ → Type 0
IsOtherReply verb.Plan given table q status text = (text ≡ told_plan (form_of given) q.station q.plan) × (status ≡ 0)
IsOtherReply verb.Icd given table q status text = (text ≡ kept_sheet (form_of given) (kept_texts table) icd_columns 2 (icd_rows (has_given given option.Text) q.station q.plan)) × (status ≡ 0)
IsOtherReply verb.Margin given table q status text =
    ((rows : List (List Field)) × IsMargin q.station q.plan rows × (text ≡ sheet_text (form_of given) margin_columns rows)) × (status ≡ 0)
IsOtherReply verb.Load given table q status text = IsLoad q (limit_of (number_given given option.Limit)) (form_of given) status text
IsOtherReply verb.Slots given table q status text = HasSlots (slots_form given) table q (text_given given option.Group) status text
IsOtherReply verb.Draw given table q status text = HasImage q (text_given given option.Group) (picture_of given) × (status ≡ 0)
IsOtherReply _ given table q status text = ⊥

-- the same of each command: one that has the name of a sheet writes that sheet
abbrev pub IsReplyOnPlan : Verb → Given → List ℕ → Proposed → ℕ → List ℕ → Type 0
IsReplyOnPlan v given table q status text =
    MatchOption (sheet_named (row_of v).name) (IsOtherReply v given table q status text) (λ s. IsSheet s (form_of given) q status text)

-- why it writes nothing about a proposal
abbrev pub IsNoReplyOnPlan : Verb → Given → Proposed → CommandRefusal → Type 0
IsNoReplyOnPlan verb.Slots given q = IsNoGroup q.station.groups (text_given given option.Group)
IsNoReplyOnPlan verb.Draw given q = IsUndrawn q (text_given given option.Group) (picture_of given)
IsNoReplyOnPlan _ given q = λ refusal. ⊥

-- its status, and the bytes about the plan of a table
abbrev pub IsReplyToTable : Verb → Given → TableTexts → ℕ → List ℕ → Type 0
IsReplyToTable v given i status text = (q : Proposed) × IsGivenPlan i q × IsReplyOnPlan v given i.table q status text

-- why there is nothing: there is no plan, or what is asked of the plan
abbrev pub IsNoReplyToTable : Verb → Given → TableTexts → CommandRefusal → Type 0
IsNoReplyToTable v given i refusal = IsNoGivenPlan i refusal ⊎ ((q : Proposed) × IsGivenPlan i q × IsNoReplyOnPlan v given q refusal)

-- the answer about the table in a file, by its own plan or by that of `--plan`, with the line of that file if stamps are asked for
abbrev pub IsPlanReply : Verb → (List ℕ → Option (List ℕ)) → AskedBytes → ℕ → List ℕ → Type 0
IsPlanReply v file r status text =
    (i : TableTexts) × IsTableRead file (named_table r) i × IsStamped r.given (stamp_line r.first i.table) (IsReplyToTable v r.given i) status text

-- why there is none: a file, or the table, or its plan, or what is asked of the plan
abbrev pub IsNoPlanReply : Verb → (List ℕ → Option (List ℕ)) → AskedBytes → CommandRefusal → Type 0
IsNoPlanReply v file r refusal =
    IsTableUnread file (named_table r) refusal ⊎ ((i : TableTexts) × IsTableRead file (named_table r) i × IsNoReplyToTable v r.given i refusal)

-- a reply, or that an allocation for it failed
abbrev pub or_no_memory : Result Reply AllocError → Result Reply CommandRefusal
or_no_memory (Ok reply) = Ok reply
or_no_memory (Err _) = Err refused.Memory
