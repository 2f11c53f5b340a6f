-- A plan that a text states (profile: docs/FORMATS.md, Plan text).
use Rattle.std.specs.Prelude.{◌≡◌, ◌+◌, ◌^◌, ◌∷◌, [], ℕ, List, All, Contains, drop, length, ⊤}
use Rattle.std.specs.List.{zip}
use Rattle.a429_equipment.specs.TableRecord.{TableRecord}
use Rattle.a429_equipment.specs.declared.rows.GroupRow.{GroupRow}
use Rattle.a429_equipment.specs.declared.rows.OutputRow.{OutputRow}
use Rattle.a429_equipment.specs.declared.rows.SourceRow.{SourceRow}
use Rattle.a429_slots.specs.Proposed.{Proposed}
use Rattle.a429_slots.specs.Tables.{Placed, SlotTable, groups_of, outputs_of}
use Rattle.a429_cert.specs.Checked.{StatesPlan}
use Rattle.a429_cert.specs.Due.{IsDue}
use Rattle.a429_cert.specs.Lines.{lines_of, lines_of_groups}
use Rattle.a429_cert.specs.PlanText.{source_name}
use Rattle.a429_cert.specs.Spelling.{Listing}
use Rattle.a429_cert.specs.Verdicts.{verdict}
use Rattle.a429_cert.specs.declared.due.DueTable.{DueTable}
use Rattle.a429_cert.specs.declared.verdicts.Verdict.{Verdict}
use Rattle.a429_cert.specs.declared.verdicts.Verdict.TheVariants as verdicts
use Rattle.a429_keep.specs.declared.following.FollowFault.{FollowFault}
use Rattle.a429_keep.specs.declared.following.FollowFault.TheVariants as faults

-- the check of a text by this table
abbrev pub IsVerdictOn : TableRecord → List ℕ → Verdict → Type 0
IsVerdictOn e text v = (t : DueTable) × IsDue e t × (v ≡ verdict t text)

-- one of the lines names the output's source, and states the output's place
pub record StandsAsListed (sources : List SourceRow) (lines : List Listing) (o : Placed) : Type 0 where
  pub line : Listing
  pub there : Contains lines line
  pub source : line.source ≡ source_name sources o.source
  pub bus : o.place.bus ≡ line.bus
  pub offset : o.place.offset ≡ line.offset
  pub period : 2 ^ o.place.period ≡ line.period

-- the lines of a group state a plan, and each output of the slot table has the place that is listed for it
pub record IsStatedTable (e : TableRecord) (group : GroupRow) (rows : List OutputRow) (lines : List (List ℕ)) (t : SlotTable) : Type 0 where
  pub plan : StatesPlan e group rows lines
  pub placed : All (StandsAsListed e.sources plan.stated.outputs) (outputs_of t)

-- the same group by group, and nothing comes after the last
abbrev pub AreStatedTables : TableRecord → List (GroupRow × List OutputRow) → List SlotTable → List (List ℕ) → Type 0
AreStatedTables e [] [] lines = lines ≡ []
AreStatedTables e (g ∷ gs) (t ∷ ts) lines = IsStatedTable e g.0 g.1 lines t × AreStatedTables e gs ts (drop (length g.1 + 2) lines)
AreStatedTables e _ _ lines = ⊥

-- the plan of the same table that the text states, which the check accepts
pub record IsFollowed (text : List ℕ) (p q : Proposed) : Type 0 where
  pub verdict : IsVerdictOn p.station text verdicts.Fewest
  pub station : q.station ≡ p.station
  pub tables : AreStatedTables p.station (zip p.station.groups p.station.outputs) (groups_of q.plan) (lines_of_groups p.station.rate (lines_of text))

-- the check refuses this line, or an allocation failed
abbrev pub IsFollowFault : TableRecord → List ℕ → FollowFault → Type 0
IsFollowFault e text (faults.No found) = IsVerdictOn e text (verdicts.No found)
IsFollowFault e text faults.NoMemory = ⊤
