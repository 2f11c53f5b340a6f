-- The line of a refusal, without its line feed (profile: output).
use Rattle.std.specs.Prelude.{◌≡◌, ◌⊎◌, ◌++◌, ◌∷◌, [], ℕ, List, Option, ⊤, codes, string_bytes}
use Rattle.std.specs.Fmt.{decimal}
use Rattle.std.specs.Io.KnownBytes.{Appends}
use Rattle.a429_console.specs.Outputs.{memory_refused}
use Rattle.a429_table.specs.Printed.{kind_text, place_text}
use Rattle.a429_console.specs.declared.refusals.CommandRefusal.{CommandRefusal}
use Rattle.a429_console.specs.declared.refusals.CommandRefusal.TheVariants as refused
use Rattle.a429_console.specs.declared.refusals.kinds.CsvKind.{CsvKind}
use Rattle.a429_console.specs.declared.refusals.kinds.CsvKind.TheVariants as csv
use Rattle.a429_console.specs.declared.refusals.kinds.PlanKind.{PlanKind}
use Rattle.a429_console.specs.declared.refusals.kinds.PlanKind.TheVariants as plan

-- what is wrong with a row of comma-separated values, by its name in refusals
abbrev pub csv_kind_text : CsvKind → List ℕ
csv_kind_text csv.Form = codes "form"
csv_kind_text csv.Column = codes "column"
csv_kind_text csv.Differs = codes "differs"
csv_kind_text csv.TooMany = codes "too-many"

-- what is wrong with a line of a plan text whose places must be kept
abbrev pub plan_kind_text : PlanKind → List ℕ
plan_kind_text plan.Form = codes "form"
plan_kind_text plan.Rate = codes "rate"
plan_kind_text plan.Place = codes "place"
plan_kind_text plan.Shared = codes "shared"
plan_kind_text plan.Group = codes "group"
plan_kind_text plan.Frame = codes "frame"
plan_kind_text plan.Buses = codes "buses"
plan_kind_text plan.Output = codes "output"
plan_kind_text plan.Period = codes "period"
plan_kind_text plan.Bound = codes "bound"
plan_kind_text plan.Hold = codes "hold"

abbrev pub refusal_line : CommandRefusal → List ℕ
refusal_line (refused.File name) = codes "refused file " ++ string_bytes name
refusal_line refused.WordText = codes "refused word-text"
refusal_line refused.Parity = codes "refused parity"
refusal_line refused.LabelText = codes "refused label-text"
refusal_line refused.DataText = codes "refused data-text"
refusal_line (refused.LineByte place) = codes "refused line byte " ++ decimal place
refusal_line (refused.Filter number) = codes "refused filter " ++ decimal number
refusal_line (refused.Table kind place) = codes "refused table " ++ kind_text kind ++ codes " " ++ place_text place
refusal_line (refused.Unfit group source) = codes "refused unfit " ++ group ++ codes " " ++ source
refusal_line (refused.TooManyBuses group needed) = codes "refused too-many-buses " ++ group ++ codes " " ++ decimal needed
refusal_line (refused.Group name) = codes "refused group " ++ string_bytes name
refusal_line (refused.Script line) = codes "refused script line " ++ decimal line
refusal_line (refused.LogLine line) = codes "refused log line " ++ decimal line
refusal_line (refused.Csv line kind) = codes "refused csv line " ++ decimal line ++ codes " " ++ csv_kind_text kind
refusal_line (refused.PlanLine line kind) = codes "refused plan line " ++ decimal line ++ codes " " ++ plan_kind_text kind
refusal_line refused.Join = codes "refused join"
refusal_line refused.Gate = codes "refused gate"
refusal_line refused.Source = codes "refused source"
refusal_line refused.Sink = codes "refused sink"
refusal_line refused.TooMuch = codes "refused too-much"
refusal_line refused.Tolerance = codes "refused tolerance"
refusal_line refused.Apart = codes "refused apart"
refusal_line refused.Memory = memory_refused

-- a refusal that `Stands` allows, or that an allocation failed
abbrev pub OrMemory : (CommandRefusal → Type 0) → CommandRefusal → Type 0
OrMemory Stands refused.Memory = ⊤
OrMemory Stands refusal = Stands refusal

-- what is printed of a refusal: it, or instead that an allocation failed
abbrev pub IsToldOf : CommandRefusal → CommandRefusal → Type 0
IsToldOf refusal told = (told ≡ refusal) ⊎ (told ≡ refused.Memory)

-- the line of this refusal was put, or instead the line `refused memory`
abbrev pub IsRefusalPut : CommandRefusal → Option (List ℕ) → Option (List ℕ) → Type 0
IsRefusalPut refusal old new = (told : CommandRefusal) × IsToldOf refusal told × Appends old new (refusal_line told ++ 10 ∷ [])
