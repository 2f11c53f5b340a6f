-- Plan texts that are given to commands: the plan that one states, and when it is refused (profile: output; docs/FORMATS.md, Plan text).
use Rattle.std.specs.Prelude.{◌≡◌, ◌⊎◌, ℕ, List, Option, None, Some}
use Rattle.std.specs.List.{AllByRecursion}
use Rattle.a429_cert.specs.declared.verdicts.Reason.{Reason}
use Rattle.a429_cert.specs.declared.verdicts.Reason.TheVariants as against
use Rattle.a429_console.specs.Tables.{IsProposedBy, IsTableRefusal, IsTakenBy}
use Rattle.a429_console.specs.declared.refusals.CommandRefusal.{CommandRefusal}
use Rattle.a429_console.specs.declared.refusals.CommandRefusal.TheVariants as refused
use Rattle.a429_console.specs.declared.refusals.kinds.PlanKind.{PlanKind}
use Rattle.a429_console.specs.declared.refusals.kinds.PlanKind.TheVariants as kinds
use Rattle.a429_keep.specs.Followed.{IsFollowFault, IsFollowed}
use Rattle.a429_keep.specs.declared.fault.KeepFault.{KeepFault}
use Rattle.a429_keep.specs.declared.fault.KeepFault.TheVariants as faults
use Rattle.a429_keep.specs.declared.fault.KeepReason.{KeepReason}
use Rattle.a429_keep.specs.declared.fault.KeepReason.TheVariants as reasons
use Rattle.a429_keep.specs.declared.following.FollowFault.{FollowFault}
use Rattle.a429_keep.specs.declared.following.FollowFault.TheVariants as follow
use Rattle.a429_slots.specs.Planned.{IsPlanOf}
use Rattle.a429_slots.specs.Proposed.{Proposed}
use Rattle.a429_given.specs.GivenTables.{TableTexts}

abbrev pub plan_kind : KeepReason → PlanKind
plan_kind reasons.Form = kinds.Form
plan_kind reasons.Rate = kinds.Rate
plan_kind reasons.Place = kinds.Place
plan_kind reasons.Shared = kinds.Shared

abbrev pub keep_refusal : KeepFault → CommandRefusal
keep_refusal (faults.Line line reason) = refused.PlanLine line (plan_kind reason)
keep_refusal faults.NoMemory = refused.Memory

-- what the check says against a line
abbrev pub reason_kind : Reason → PlanKind
reason_kind against.Form = kinds.Form
reason_kind against.Rate = kinds.Rate
reason_kind against.Group = kinds.Group
reason_kind against.Frame = kinds.Frame
reason_kind against.Buses = kinds.Buses
reason_kind against.Output = kinds.Output
reason_kind against.Period = kinds.Period
reason_kind against.Place = kinds.Place
reason_kind against.Shared = kinds.Shared
reason_kind against.Bound = kinds.Bound
reason_kind against.Hold = kinds.Hold

abbrev pub follow_refusal : FollowFault → CommandRefusal
follow_refusal (follow.No found) = refused.PlanLine found.line (reason_kind found.reason)
follow_refusal follow.NoMemory = refused.Memory

-- the plan of a table: its own, or that of a plan text
abbrev pub IsPlanIn : Option (List ℕ) → List ℕ → Proposed → Type 0
IsPlanIn None table q = IsProposedBy table q
IsPlanIn (Some text) table q = IsPlanOf q.station q.plan × (own : Proposed) × IsProposedBy table own × IsFollowed text own q

-- why there is none: the table, or its plan, or the plan text
abbrev pub IsNoPlanIn : Option (List ℕ) → List ℕ → CommandRefusal → Type 0
IsNoPlanIn None table refusal = IsTableRefusal table refusal
IsNoPlanIn (Some text) table refusal =
    IsTableRefusal table refusal
    ⊎ ((own : Proposed) × (fault : FollowFault) × IsProposedBy table own × IsFollowFault own.station text fault × (refusal ≡ follow_refusal fault))

-- the plan of a table on which a command works, and why there is none
abbrev pub IsGivenPlan : TableTexts → Proposed → Type 0
IsGivenPlan i q = IsPlanIn i.plan i.table q

abbrev pub IsNoGivenPlan : TableTexts → CommandRefusal → Type 0
IsNoGivenPlan i refusal = IsNoPlanIn i.plan i.table refusal

-- its station takes the plans of these tables
abbrev pub TakesAll : TableTexts → List (List ℕ) → Type 0
TakesAll i further = (q : Proposed) → IsGivenPlan i q → AllByRecursion (IsTakenBy q.station) further
