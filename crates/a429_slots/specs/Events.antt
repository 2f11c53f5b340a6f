-- What happens to a station (profile: docs/RULES.md, Sending). A list of events is a history, the oldest first.
use Rattle.std.specs.Prelude.{ℕ}
use Rattle.a429_slots.specs.Proposed.{Proposed}

pub data Event : Type 0 where
  -- at this receiver this raw word comes in
  Arrive : ℕ → ℕ → Event
  -- this group sends its next cell
  Cell : ℕ → Event
  -- this group goes on to its next frame
  Frame : ℕ → Event
  -- this plan is proposed for all groups
  Publish : Proposed → Event
