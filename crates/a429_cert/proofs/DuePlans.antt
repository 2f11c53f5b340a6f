-- A plan that a text states, as it is checked against what is due of a table.
use Rattle.std.proofs.Common.{◌≡◌, ◌≢◌, ℕ, ◌+◌, ◌-◌, ◌*◌, ◌<◌, ◌≤◌, List, [], ◌∷◌, length, Some, take, drop}
use Rattle.std.specs.List.{AllByRecursion, filter_map}
use Rattle.a429_cert.specs.declared.due.DueGroup.{DueGroup}
use Rattle.a429_cert.specs.Spelling.{Listing, said_in}
use Rattle.a429_cert.specs.Reading.{group_line, output_line, bound_line}
use Rattle.a429_cert.specs.Lines.{line_at}
use Rattle.a429_cert.specs.Faults.{demand, period_of, hold_of, frame}
use Rattle.a429_cert.specs.Checked.{Stated, CellsAreApart, EachPair}

-- the line lists an output of the group with its grid period, within the frame, and in version 2 with its hold
pub record IsPlacedAsDue (version : ℕ) (g : DueGroup) (buses : ℕ) (l : Listing) : Type 0 where
  pub listed : period_of g l.source ≡ Some l.period
  pub hold : l.hold ≡ said_in version (hold_of g l.source)
  pub bus : l.bus < buses
  pub offset : l.offset < l.period

-- the plan that is stated for the group
pub record IsCheckedAsDue (version : ℕ) (g : DueGroup) (s : Stated) : Type 0 where
  pub name : s.heading.name ≡ g.name
  pub rate : s.heading.rate ≡ said_in version g.rate
  pub greatest : s.heading.frame ≡ frame g
  pub some_bus : 1 ≤ s.heading.buses
  pub few_buses : s.heading.buses ≤ 16
  pub count : length s.outputs ≡ length g.outputs.items
  pub placed : AllByRecursion (IsPlacedAsDue version g s.heading.buses) s.outputs
  pub once : EachPair (λ k l. k.source ≢ l.source) s.outputs
  pub apart : EachPair CellsAreApart s.outputs
  pub above : (s.heading.buses - 1) * s.heading.frame < demand g
  pub within : demand g ≤ s.heading.buses * s.heading.frame

-- the lines of a group state a checked plan
pub record StatesAsDue (version : ℕ) (g : DueGroup) (lines : List (List ℕ)) : Type 0 where
  pub stated : Stated
  pub heading : group_line version (line_at lines 0) ≡ Some stated.heading
  pub outputs : filter_map (output_line version) (take (length g.outputs.items) (drop 1 lines)) ≡ stated.outputs
  pub bound : bound_line (line_at lines (length g.outputs.items + 1)) ≡ Some stated.bound
  pub checked : IsCheckedAsDue version g stated
  pub states : stated.bound ≡ record { demand = demand g; full_buses = stated.heading.buses - 1; frame = frame g }

-- the same group by group, and nothing comes after the last
abbrev pub StateAsDue : ℕ → List DueGroup → List (List ℕ) → Type 0
StateAsDue version [] lines = lines ≡ []
StateAsDue version (g ∷ gs) lines = StatesAsDue version g lines × StateAsDue version gs (drop (length g.outputs.items + 2) lines)

-- the smaller of two grid periods divides the greater: they are powers of two
abbrev pub PeriodsNest : DueGroup → Type 0
PeriodsNest g = (s t : List ℕ) (p q : ℕ) → period_of g s ≡ Some p → period_of g t ≡ Some q → p ≤ q → (c : ℕ) × (q ≡ p * c)
