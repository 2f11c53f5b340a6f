-- What a verdict says, and when there is none (profile: docs/FORMATS.md, Output of `check`).
use Rattle.std.specs.Prelude.{◌≡◌, ◌+◌, ℕ, List, [], ◌∷◌, drop, length, slice_get, ⊤, Some, Ok, Err}
use Rattle.std.specs.List.{zip}
use Rattle.a429_equipment.specs.Sound.{IsSound}
use Rattle.a429_equipment.specs.TableRecord.{TableRecord}
use Rattle.a429_table.specs.Reading.{reading}
use Rattle.a429_table.specs.declared.fault.TableFault.{TableFault}
use Rattle.a429_table.specs.declared.fault.TableFault.TheVariants as table
use Rattle.a429_equipment.specs.declared.rows.GroupRow.{GroupRow}
use Rattle.a429_equipment.specs.declared.rows.OutputRow.{OutputRow}
use Rattle.a429_slots.specs.Planned.{AreFewestBusesFor, IsFirstUnfit, IsPlanOf}
use Rattle.a429_slots.specs.Tables.{PlanTable}
use Rattle.a429_cert.specs.declared.judging.NoVerdict.{NoVerdict}
use Rattle.a429_cert.specs.declared.judging.NoVerdict.TheVariants as judge
use Rattle.a429_cert.specs.declared.checking.CheckFault.{CheckFault}
use Rattle.a429_cert.specs.declared.checking.CheckFault.TheVariants as check
use Rattle.a429_cert.specs.declared.due.DueTable.{DueTable}
use Rattle.a429_cert.specs.declared.verdicts.Verdict.{Verdict}
use Rattle.a429_cert.specs.declared.verdicts.Verdict.TheVariants.{Fewest}
use Rattle.a429_cert.specs.Due.{IsDue, IsFirstUnfitOf}
use Rattle.a429_cert.specs.Lines.{lines_of, lines_of_groups}
use Rattle.a429_cert.specs.Checked.{IsChecked, Stated, StatesPlan}
use Rattle.a429_cert.specs.PlanText.{plan_text_of}
use Rattle.a429_cert.specs.Verdicts.{verdict}

-- a checked plan of a group is on the fewest buses
abbrev pub CheckedPlansAreFewest : Type 0
CheckedPlansAreFewest =
    (e : TableRecord) (group : GroupRow) (rows : List OutputRow) (s : Stated) → IsChecked e group rows s
    → AreFewestBusesFor group.rate rows s.heading.buses

-- the lines of a group state a checked plan, and no schedule that serves the group has fewer buses than they state
pub record StatesFewest (e : TableRecord) (group : GroupRow) (rows : List OutputRow) (lines : List (List ℕ)) : Type 0 where
  pub plan : StatesPlan e group rows lines
  pub fewest : AreFewestBusesFor group.rate rows plan.stated.heading.buses

-- the same group by group, each with its outputs, and nothing comes after the last
abbrev pub StateFewest : TableRecord → List (GroupRow × List OutputRow) → List (List ℕ) → Type 0
StateFewest e [] lines = lines ≡ []
StateFewest e (g ∷ gs) lines = StatesFewest e g.0 g.1 lines × StateFewest e gs (drop (length g.1 + 2) lines)

-- from the first group on a text states for each group of the table a checked plan on the fewest buses, and nothing else
abbrev pub ShowsFewest : TableRecord → List ℕ → Type 0
ShowsFewest e text = StateFewest e (zip e.groups e.outputs) (lines_of_groups e.rate (lines_of text))

-- the bytes state a table, and the text shows the fewest buses of each of its groups
abbrev pub ShowsFewestOfBytes : List ℕ → List ℕ → Type 0
ShowsFewestOfBytes table text = (e : TableRecord) × (reading table ≡ Ok e) × ShowsFewest e text

-- the text of a sound table's own plan is answered by Fewest
abbrev pub OwnTextsAreFewest : Type 0
OwnTextsAreFewest =
    (e : TableRecord) (p : PlanTable) (t : DueTable) → IsSound e → IsPlanOf e p → IsDue e t → verdict t (plan_text_of e p) ≡ Fewest

-- a text that is answered by Fewest shows the fewest buses of each group of the table
abbrev pub FewestIsShown : Type 0
FewestIsShown =
    (e : TableRecord) (t : DueTable) (text : List ℕ) → IsSound e → IsDue e t → verdict t text ≡ Fewest → ShowsFewest e text

-- the bytes of a table state what is due, and this is the verdict on a text
abbrev pub IsVerdictOnBytes : List ℕ → List ℕ → Verdict → Type 0
IsVerdictOnBytes table text v = (e : TableRecord) × (due : DueTable) × (reading table ≡ Ok e) × IsDue e due × (v ≡ verdict due text)

-- the fault is one of the table, unless memory ran out
abbrev pub IsNoVerdict : TableRecord → NoVerdict → Type 0
IsNoVerdict e (judge.Unfit g o) = IsFirstUnfitOf e g o
IsNoVerdict e judge.NoMemory = ⊤

-- the same of an output of group g alone, at this rate
abbrev pub IsGroupUnfit : TableRecord → ℕ → ℕ → NoVerdict → Type 0
IsGroupUnfit e rate g (judge.Unfit group o) =
    (group ≡ g) × ((rows : List OutputRow) × (slice_get e.outputs g ≡ Some rows) × IsFirstUnfit rate rows o)
IsGroupUnfit e rate g judge.NoMemory = ⊤

-- if memory runs out while a table is read, that is the check's own fault
abbrev pub of_table : TableFault → CheckFault
of_table (table.At kind place) = check.Table (table.At kind place)
of_table table.NoMemory = check.NoMemory

abbrev pub of_judge : NoVerdict → CheckFault
of_judge (judge.Unfit g o) = check.Unfit g o
of_judge judge.NoMemory = check.NoMemory

-- The bytes of the table state this fault; or they state a table with this fault. `NoMemory` is never a fault of the
-- table.
abbrev pub IsCheckFault : List ℕ → CheckFault → Type 0
IsCheckFault bytes (check.Table (table.At kind place)) = reading bytes ≡ Err (kind, place)
IsCheckFault bytes (check.Table table.NoMemory) = ⊥
IsCheckFault bytes (check.Unfit g o) = (e : TableRecord) × (reading bytes ≡ Ok e) × IsFirstUnfitOf e g o
IsCheckFault bytes check.NoMemory = ⊤
