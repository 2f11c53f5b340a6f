-- Whole histories of calls on a station that is held (vocabulary of contracts).
use Rattle.std.specs.Prelude.{◌≡◌, ◌++◌, ◌∷◌, [], ℕ, List, Option, Some, None}
use Rattle.std.specs.List.{AllByRecursion}
use Rattle.a429_equipment.specs.Limits.{count_bits}
use Rattle.a429_slots.specs.Proposed.{Proposed}
use Rattle.a429_slots.specs.Events.{Event, Arrive, Cell, Frame, Publish}
use Rattle.a429_slots.specs.History.{Opening}
use Rattle.a429_slots.specs.Answers.{answer}
use Rattle.a429_core.specs.MachineStates.{HasTableForEach, IsWholeEvent, StandsForHistory}
use Rattle.a429_core.specs.MachineSteps.{cell_asked, frame_asked, publish_asked, stepped}
use Rattle.a429_c.specs.Stations.{Held}
use Rattle.a429_c.specs.Calls.{arrival_step, asked, cell_of, moved, plan_of, source_of}

-- a station is held to which these events have happened since it was opened
abbrev pub HasHistory : Opening → List Event → Option Held → Type 0
HasHistory o E (Some m) = StandsForHistory count_bits o E m.state
HasHistory o E None = ⊥

-- the station after a call for each of these events
abbrev pub held_after : Option Held → List Event → Option Held
held_after held [] = held
held_after held (e ∷ es) = held_after (moved (λ s. stepped count_bits s e) held) es

-- each call gives, or is refused for, what the definition of answers says after this history
pub record AnswersCalls (o : Opening) (E : List Event) (held : Option Held) : Type 0 where
  pub arrives : (r raw : ℕ) → asked source_of (arrival_step r raw) held ≡ source_of (answer count_bits o E (Arrive r raw))
  pub cells : (g : ℕ) → asked cell_of (λ s. cell_asked s g) held ≡ cell_of (answer count_bits o E (Cell g))
  pub frames : (g : ℕ) → asked plan_of (λ s. frame_asked s g) held ≡ plan_of (answer count_bits o E (Frame g))
  pub publishes : (q : Proposed) → HasTableForEach q → asked plan_of (λ s. publish_asked s q) held ≡ plan_of (answer count_bits o E (Publish q))

-- after any calls of a station, it has their history, and the next call is answered by it
abbrev pub StationsKeepHistory : Type 0
StationsKeepHistory =
    (o : Opening) (E events : List Event) (held : Option Held) → HasHistory o E held → AllByRecursion IsWholeEvent events
    → HasHistory o (E ++ events) (held_after held events) × AnswersCalls o (E ++ events) (held_after held events)
