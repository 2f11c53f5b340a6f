-- A table that loses nothing: what it means that `lint` has no row `unfit`, `unheard` or `unsent` (profile: docs/FORMATS.md, Output of `lint`).
use Rattle.std.specs.Prelude.{ℕ, ◌≡◌, ◌^◌, ◌<◌, ◌≤◌, ◌↔◌, List, [], Ok, Some, length, slice_get}
use Rattle.std.specs.List.{AllByRecursion}
use Rattle.a429_equipment.specs.Arrivals.{sorted}
use Rattle.a429_equipment.specs.Sound.{IsSound}
use Rattle.a429_equipment.specs.TableRecord.{TableRecord, outputs_in}
use Rattle.a429_equipment.specs.declared.rows.OutputRow.{OutputRow}
use Rattle.a429_pack.specs.Demanded.{AreFewestBuses}
use Rattle.a429_pack.specs.declared.demands.Demand.{Demand}
use Rattle.a429_slots.specs.Planned.{IsFit, rated_outputs}
use Rattle.a429_documents.specs.declared.lint.Finding.TheVariants.{OfGroup, OfSource}
use Rattle.a429_documents.specs.declared.lint.GroupFinding.TheVariants.{Unfit}
use Rattle.a429_documents.specs.declared.lint.SourceFinding.TheVariants.{Unheard, Unsent}
use Rattle.a429_documents.specs.Lint.{AreAsked, bus_count, finding_rows}

-- some raw word of 32 bits that comes in at some receiver is for the source of this number
abbrev pub CanBeAccepted : TableRecord → ℕ → Type 0
CanBeAccepted e source = (r : ℕ) × (raw : ℕ) × (raw < 2 ^ 32) × (sorted e r raw ≡ Ok source)

-- some group has an output of the source
abbrev pub IsSent : TableRecord → ℕ → Type 0
IsSent e source = (group : ℕ) × (o : ℕ) × (row : OutputRow) × (slice_get (outputs_in e group) o ≡ Some row) × (row.source ≡ source)

-- each source can be accepted and is sent by some group, and each output has a grid period
pub record IsAllServed (e : TableRecord) : Type 0 where
  pub accepted : (source : ℕ) → source < length e.sources → CanBeAccepted e source
  pub sent : (source : ℕ) → source < length e.sources → IsSent e source
  pub fit : AllByRecursion (λ rated. AllByRecursion (IsFit rated.0) rated.1) (rated_outputs e)

-- `lint` has no row `unfit`, `unheard` or `unsent`
pub record HasNoLoss (e : TableRecord) (asked : List (List Demand)) : Type 0 where
  pub unfit : finding_rows e asked (OfGroup Unfit) ≡ []
  pub unheard : finding_rows e asked (OfSource Unheard) ≡ []
  pub unsent : finding_rows e asked (OfSource Unsent) ≡ []

-- it has none of these rows if and only if all is served
abbrev pub NoLossIsAllServed : Type 0
NoLossIsAllServed = (e : TableRecord) (asked : List (List Demand)) → IsSound e → AreAsked e asked → HasNoLoss e asked ↔ IsAllServed e

-- the number of buses computed from the demand is the fewest of all schedules
abbrev pub BusCountsAreFewest : Type 0
BusCountsAreFewest = (exponents : List ℕ) → 1 ≤ length exponents → AreFewestBuses exponents (bus_count exponents)
