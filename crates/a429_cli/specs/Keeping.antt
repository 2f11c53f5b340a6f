-- The command `plan` with `--keep`: what it writes, and when it is refused (profile: output; docs/RULES.md, Plans that stay).
use Rattle.std.specs.Prelude.{◌≡◌, ◌⊎◌, ◌∷◌, [], ℕ, List, Option, None, Some, Err}
use Rattle.a429_arguments.specs.Given.{form_of, text_given}
use Rattle.a429_arguments.specs.Requests.{AskedBytes}
use Rattle.a429_arguments.specs.declared.options.OptionName.TheVariants as option
use Rattle.a429_arguments.specs.declared.forms.Verb.TheVariants as verb
use Rattle.a429_given.specs.GivenPlans.{keep_refusal, plan_kind}
use Rattle.a429_cli.specs.Plans.{IsNoPlanReply, IsPlanReply, told_plan}
use Rattle.a429_console.specs.FileReadings.{AreRead, IsFirstUnread}
use Rattle.a429_console.specs.Tables.{IsProposedBy, IsTableRefusal}
use Rattle.a429_console.specs.declared.refusals.CommandRefusal.{CommandRefusal}
use Rattle.a429_console.specs.declared.refusals.CommandRefusal.TheVariants as refused
use Rattle.a429_cert.specs.Due.{IsDue}
use Rattle.a429_cert.specs.PlanText.{plan_text_of}
use Rattle.a429_cert.specs.Verdicts.{verdict}
use Rattle.a429_cert.specs.declared.due.DueTable.{DueTable}
use Rattle.a429_cert.specs.declared.verdicts.Verdict.TheVariants.{Fewest}
use Rattle.a429_equipment.specs.TableRecord.{TableRecord}
use Rattle.a429_keep.specs.KeptPlans.{IsKept}
use Rattle.a429_keep.specs.Readings.{reading}
use Rattle.a429_keep.specs.declared.fault.KeepFault.TheVariants as faults
use Rattle.a429_keep.specs.declared.fault.KeepReason.{KeepReason}
use Rattle.a429_slots.specs.Proposed.{Proposed}
use Rattle.a429_text.specs.declared.sheets.SheetForm.{SheetForm}

-- each check of the text answers `fewest`
abbrev pub IsAccepted : TableRecord → List ℕ → Type 0
IsAccepted e text = (t : DueTable) → IsDue e t → verdict t text ≡ Fewest

-- a plan, whose text the check accepts, as a text or as a sheet; the status is 0
abbrev pub IsToldPlan : SheetForm → Proposed → ℕ → List ℕ → Type 0
IsToldPlan form q status text = (text ≡ told_plan form q.station q.plan) × IsAccepted q.station (plan_text_of q.station q.plan) × (status ≡ 0)

-- that of a plan of the table, in which the outputs of the earlier text stay
abbrev pub IsKeptPlan : SheetForm → List ℕ → List ℕ → ℕ → List ℕ → Type 0
IsKeptPlan form table earlier status text = (q : Proposed) × (kept : Proposed) × IsProposedBy table q × IsKept earlier q kept × IsToldPlan form kept status text

-- why there is none: the table or its plan, otherwise a line of the earlier text
abbrev pub IsNoKeptPlan : List ℕ → List ℕ → CommandRefusal → Type 0
IsNoKeptPlan table earlier refusal =
    IsTableRefusal table refusal
    ⊎ ((q : Proposed) × (line : ℕ) × (reason : KeepReason) × IsProposedBy table q × (reading q.station earlier ≡ Err (faults.Line line reason))
    × (refusal ≡ refused.PlanLine line (plan_kind reason)))

-- the same of two files
abbrev pub IsKeptOf : SheetForm → (List ℕ → Option (List ℕ)) → List ℕ → List ℕ → ℕ → List ℕ → Type 0
IsKeptOf form file table earlier status text =
    (a : List ℕ) × (b : List ℕ) × AreRead file (table ∷ earlier ∷ []) (a ∷ b ∷ []) × IsKeptPlan form a b status text

abbrev pub IsNoKept : (List ℕ → Option (List ℕ)) → List ℕ → List ℕ → CommandRefusal → Type 0
IsNoKept file table earlier refusal =
    IsFirstUnread file (table ∷ earlier ∷ []) refusal
    ⊎ ((a : List ℕ) × (b : List ℕ) × AreRead file (table ∷ earlier ∷ []) (a ∷ b ∷ []) × IsNoKeptPlan a b refusal)

-- the answer of `plan`: with `--keep` that of two files, otherwise the plan of one
abbrev pub PlannedBy : Option (List ℕ) → (List ℕ → Option (List ℕ)) → AskedBytes → ℕ → List ℕ → Type 0
PlannedBy None file r = IsPlanReply verb.Plan file r
PlannedBy (Some earlier) file r = IsKeptOf (form_of r.given) file r.first earlier

abbrev pub IsPlanned : (List ℕ → Option (List ℕ)) → AskedBytes → ℕ → List ℕ → Type 0
IsPlanned file r = PlannedBy (text_given r.given option.Keep) file r

-- why there is none
abbrev pub UnplannedBy : Option (List ℕ) → (List ℕ → Option (List ℕ)) → AskedBytes → CommandRefusal → Type 0
UnplannedBy None file r = IsNoPlanReply verb.Plan file r
UnplannedBy (Some earlier) file r = IsNoKept file r.first earlier

abbrev pub IsUnplanned : (List ℕ → Option (List ℕ)) → AskedBytes → CommandRefusal → Type 0
IsUnplanned file r = UnplannedBy (text_given r.given option.Keep) file r
