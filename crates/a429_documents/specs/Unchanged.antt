-- What it means that `diff` has no row: of the station, and at all (profile: docs/FORMATS.md, Output of `diff`).
use Rattle.std.specs.Prelude.{ℕ, ◌≡◌, ◌↔◌, Bool, true, [], Some, slice_get}
use Rattle.a429_equipment.specs.SameStation.{same_station}
use Rattle.a429_equipment.specs.TableRecord.{TableRecord, outputs_in}
use Rattle.a429_equipment.specs.Sound.{IsSound}
use Rattle.a429_equipment.specs.declared.rows.OutputRow.{OutputRow}
use Rattle.a429_slots.specs.Planned.{IsPlanOf}
use Rattle.a429_slots.specs.Proposed.{Proposed}
use Rattle.a429_cert.specs.PlanText.{plan_text_of}
use Rattle.a429_documents.specs.Diff.{diff_rows, station_rows}

-- no row is of the station if and only if the two tables are of one station
abbrev pub NoStationRowIsOneStation : Type 0
NoStationRowIsOneStation = (a b : TableRecord) → IsSound a → IsSound b → (station_rows a b ≡ []) ↔ (same_station a b ≡ true)

-- two proposals of sound tables, each with the plan of its own groups
pub record AreProposals (a b : Proposed) : Type 0 where
  pub sound : IsSound a.station
  pub plan : IsPlanOf a.station a.plan
  pub other_sound : IsSound b.station
  pub other_plan : IsPlanOf b.station b.plan

-- outputs of one source in groups with one number have one interval
abbrev pub HaveSameIntervals : TableRecord → TableRecord → Type 0
HaveSameIntervals a b =
    (g o p : ℕ) (x y : OutputRow) → slice_get (outputs_in a g) o ≡ Some x → slice_get (outputs_in b g) p ≡ Some y → x.source ≡ y.source
    → (x.min_us ≡ y.min_us) × (x.max_us ≡ y.max_us)

-- the texts of their plans are equal, they are of one station, and the outputs have the same intervals
pub record AreOnePlan (a b : Proposed) : Type 0 where
  pub text : plan_text_of a.station a.plan ≡ plan_text_of b.station b.plan
  pub station : same_station a.station b.station ≡ true
  pub intervals : HaveSameIntervals a.station b.station

-- There is no row if and only if the plan texts, the stations and the intervals are the same; the request for all slots makes no difference.
abbrev pub NoRowIsOnePlan : Type 0
NoRowIsOnePlan = (a b : Proposed) (all : Bool) → AreProposals a b → (diff_rows a b all ≡ []) ↔ AreOnePlan a b
