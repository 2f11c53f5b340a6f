-- Why the lines of a plan text are refused (profile: docs/FORMATS.md, Output of `check`).
use Rattle.std.specs.Prelude.{◌≡◌, ℕ, zero, suc, ◌+◌, ◌-◌, ◌*◌, ◌/◌, ◌%◌, ◌^◌, ◌<◌, min, max, List, [], ◌∷◌, ◌++◌, take, drop, length, Option, Some, None, option_map, option_and_then, unwrap_or, is_none, Bool, true, false, not, ◌==◌, ◌&&◌, ◌||◌, nat_lt, nat_le, if◌then◌else◌, find, fold, position, Result, Ok, Err, MatchResult}
use Rattle.std.specs.List.{list_any, sum_by, filter_map, All}
use Rattle.std.specs.Str.{bytes_eq}
use Rattle.a429_equipment.specs.SameStation.{same_number}
use Rattle.a429_equipment.specs.Sound.{HaveOwn}
use Rattle.a429_cert.specs.declared.verdicts.Reason.{Reason}
use Rattle.a429_cert.specs.declared.verdicts.Reason.TheVariants as reasons
use Rattle.a429_cert.specs.declared.verdicts.No.{No}
use Rattle.a429_cert.specs.declared.stops.CheckStop.{CheckStop}
use Rattle.a429_cert.specs.declared.stops.CheckStop.TheVariants as stops
use Rattle.a429_cert.specs.declared.due.DueOutput.{DueOutput}
use Rattle.a429_cert.specs.declared.due.DueGroup.{DueGroup}
use Rattle.a429_cert.specs.declared.due.DueTable.{DueTable}
use Rattle.a429_cert.specs.Spelling.{Listing, Bounding}
use Rattle.a429_cert.specs.Reading.{plan_line, rate_line, group_line, output_line, bound_line}
use Rattle.a429_cert.specs.Lines.{line_at, lines_of_groups}

-- ---- a group of the table

abbrev pub HasPeriods : DueGroup → Type 0
HasPeriods g = All (λ o. 0 < o.period) g.outputs.items

-- the greatest grid period
abbrev pub frame : DueGroup → ℕ
frame g = fold (λ a o. max a o.period) 0 g.outputs.items

-- how many cells the outputs fill in a frame
abbrev pub demand : DueGroup → ℕ
demand g = sum_by (λ o. frame g / o.period) g.outputs.items

-- no sum of the check leaves 64 bits, and no two outputs have one source
pub record IsModest (g : DueGroup) : Type 0 where
  pub own : HaveOwn (λ o. o.source) g.outputs.items
  pub periods : HasPeriods g
  pub frame_fits : frame g < 2 ^ 32
  pub demand_fits : demand g < 2 ^ 64

-- the output with this source
abbrev pub output_of : DueGroup → List ℕ → Option DueOutput
output_of g source = find (λ o. bytes_eq o.source source) g.outputs.items

-- the place of the first output with this source
abbrev pub place_of : List ℕ → List DueOutput → Option ℕ
place_of source os = position (λ o. bytes_eq o.source source) os

-- its grid period
abbrev pub period_of : DueGroup → List ℕ → Option ℕ
period_of g source = option_map (λ o. o.period) (output_of g source)

-- its hold; none if there is no limit
abbrev pub hold_of : DueGroup → List ℕ → Option ℕ
hold_of g source = option_and_then (λ o. o.hold) (output_of g source)

-- how many lines are due for groups
abbrev pub due : List DueGroup → ℕ
due gs = sum_by (λ g. length g.outputs.items + 2) gs

-- ---- one line

-- the first reason whose condition is true
abbrev pub first_reason : List (Bool × Reason) → Option Reason
first_reason [] = None
first_reason (r ∷ rs) = if r.0 then Some r.1 else first_reason rs

-- the first reason against a line that says this; a line that is not read has a wrong form
abbrev pub of_form : {A : Type 0} → Option A → (A → List (Bool × Reason)) → Option Reason
of_form None reasons_of = Some reasons.Form
of_form (Some said) reasons_of = first_reason (reasons_of said)

-- the form of a text is that of its version
unfoldable pub plan_fault : ℕ → List ℕ → Option Reason
plan_fault version line = of_form (plan_line line) (λ said. (not (said == version), reasons.Form) ∷ [])

unfoldable pub rate_fault : ℕ → List ℕ → Option Reason
rate_fault rate line = of_form (rate_line line) (λ said. (not (said == rate), reasons.Rate) ∷ [])

-- a rate is said, and it is not this one
abbrev pub says_other_rate : Option ℕ → ℕ → Bool
says_other_rate None rate = false
says_other_rate (Some said) rate = not (said == rate)

unfoldable pub group_fault : ℕ → DueGroup → List ℕ → Option Reason
group_fault version g line = of_form (group_line version line) (λ said.
    (says_other_rate said.rate g.rate, reasons.Rate)
    ∷ (not (bytes_eq said.name g.name), reasons.Group)
    ∷ (not (said.frame == frame g), reasons.Frame)
    ∷ ((said.buses == 0) || nat_lt 16 said.buses, reasons.Buses)
    ∷ [])

abbrev pub is_listed : List Listing → List ℕ → Bool
is_listed earlier source = list_any (λ l. bytes_eq l.source source) earlier

-- the same bus, and offsets that are equal modulo the smaller period
abbrev pub shares : Listing → Listing → Bool
shares l e = (l.bus == e.bus) && (l.offset % min l.period e.period == e.offset % min l.period e.period)

-- both periods are multiples of 16, and the offsets differ modulo 16
abbrev pub differ_by_class : Listing → Listing → Bool
differ_by_class l e = (l.period % 16 == 0) && (e.period % 16 == 0) && not (l.offset % 16 == e.offset % 16)

abbrev pub has_bad_place : ℕ → Listing → Bool
has_bad_place buses l = nat_le buses l.bus || nat_le l.period l.offset

-- a hold is said, and it is not this one
abbrev pub says_other_hold : Option (Option ℕ) → Option ℕ → Bool
says_other_hold None hold = false
says_other_hold (Some said) hold = not (same_number said hold)

unfoldable pub output_fault : ℕ → DueGroup → ℕ → List Listing → List ℕ → Option Reason
output_fault version g buses earlier line = of_form (output_line version line) (λ said.
    (is_none (period_of g said.source) || is_listed earlier said.source, reasons.Output)
    ∷ (not (said.period == unwrap_or (period_of g said.source) 0), reasons.Period)
    ∷ (has_bad_place buses said, reasons.Place)
    ∷ (list_any (shares said) earlier, reasons.Shared)
    ∷ (says_other_hold said.hold (hold_of g said.source), reasons.Hold)
    ∷ [])

-- the group's demand needs more than the full buses that the line states, and no more than all buses
abbrev pub bound_holds : DueGroup → ℕ → Bounding → Bool
bound_holds g buses b =
    (b.demand == demand g) && (b.full_buses == buses - 1) && (b.frame == frame g) && nat_lt (b.full_buses * b.frame) b.demand && nat_le b.demand (buses * b.frame)

unfoldable pub bound_fault : DueGroup → ℕ → List ℕ → Option Reason
bound_fault g buses line = of_form (bound_line line) (λ said. (not (bound_holds g buses said), reasons.Bound) ∷ [])

-- after the last line that is due
abbrev pub end_fault : List (List ℕ) → Option Reason
end_fault [] = None
end_fault (line ∷ lines) = Some reasons.Form

-- ---- the lines of a group

-- how many buses a group's first line states
unfoldable pub buses_of : ℕ → List ℕ → ℕ
buses_of version line = unwrap_or (option_map (λ said. said.buses) (group_line version line)) 0

-- for each of this number of lines of outputs, from line j on, what is wrong with it, by the lines before it
abbrev pub output_faults : ℕ → DueGroup → ℕ → List (List ℕ) → ℕ → ℕ → List (Option Reason)
output_faults version g buses lines j zero = []
output_faults version g buses lines j (suc count) =
    output_fault version g buses (filter_map (output_line version) (take j lines)) (line_at lines j)
    ∷ output_faults version g buses lines (j + 1) count

-- for each line of a group's outputs, what is wrong with it
abbrev pub all_output_faults : ℕ → DueGroup → ℕ → List (List ℕ) → List (Option Reason)
all_output_faults version g buses lines = output_faults version g buses lines 0 (length g.outputs.items)

-- for each line of a group, what is wrong with it
abbrev pub group_faults : ℕ → DueGroup → List (List ℕ) → List (Option Reason)
group_faults version g lines =
    let buses = buses_of version (line_at lines 0) in
    group_fault version g (line_at lines 0)
    ∷ (all_output_faults version g buses (drop 1 lines)
    ++ bound_fault g buses (line_at lines (length g.outputs.items + 1)) ∷ [])

-- the same group by group; nothing may come after the last
abbrev pub groups_faults : ℕ → List DueGroup → List (List ℕ) → List (Option Reason)
groups_faults version [] lines = end_fault lines ∷ []
groups_faults version (g ∷ gs) lines = group_faults version g lines ++ groups_faults version gs (drop (length g.outputs.items + 2) lines)

-- the line of the bit rate of all groups is due if the table has one
abbrev pub rate_faults : Option ℕ → List ℕ → List (Option Reason)
rate_faults None line = []
rate_faults (Some rate) line = rate_fault rate line ∷ []

-- for each line that is due, what is wrong with it
abbrev pub faults : DueTable → List (List ℕ) → List (Option Reason)
faults t lines =
    plan_fault t.version (line_at lines 0)
    ∷ (rate_faults t.rate (line_at lines 1)
    ++ groups_faults t.version t.groups.items (lines_of_groups t.rate lines))

-- ---- the answer

-- the first line that fails, if the first of the lines has the number n
abbrev pub first_no : ℕ → List (Option Reason) → Option No
first_no n [] = None
first_no n (None ∷ fs) = first_no (n + 1) fs
first_no n (Some r ∷ fs) = Some (record { reason = r; line = n })

abbrev pub Stops : CheckStop → Option No → Type 0
Stops stops.Memory answer = Unit {0}
Stops (stops.Refused refusal) answer = answer ≡ Some refusal

-- what ended a check is its answer, unless memory ran out
abbrev pub EndsCheckBy : {A : Type 0} → Result A CheckStop → Option No → Type 0
EndsCheckBy (Ok x) answer = answer ≡ None
EndsCheckBy (Err stop) answer = Stops stop answer

-- an answer is the reason against a line, if there is one
abbrev pub GivesReason : {A : Type 0} → Result A Reason → Option Reason → Type 0
GivesReason answer reason = MatchResult answer (λ _. reason ≡ None) (λ r. reason ≡ Some r)
