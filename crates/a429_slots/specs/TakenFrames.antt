-- The taken frames of a group, by their places in a history (profile: frames). A place is how many events come before
-- it. T says of each place whether a taken Frame of the group is there.
use Rattle.std.specs.Prelude.{◌≡◌, ◌+◌, ◌-◌, ◌<◌, ◌≤◌, ◌^◌, ◌↔◌, ◌++◌, ◌∷◌, [], ◌⊎◌, ℕ, Bool, false, IsTrue, List, Option, Some, length, take, drop, filter, sum_by, count_by, slice_get, unwrap_or}
use Rattle.std.specs.List.{range_with_len}
use Rattle.std.specs.Option.{option_map_or}
use Rattle.a429_equipment.specs.SameStation.{same_station}
use Rattle.a429_slots.specs.Tables.{SlotTable, groups_of, frame_of, cells_of}
use Rattle.a429_slots.specs.Proposed.{Proposed}
use Rattle.a429_slots.specs.Events.{Event, Frame, Publish}
use Rattle.a429_slots.specs.History.{Opening, Current, current, is_cell, is_taken, cells_since, last_of, newest_number, newest_plan, newest_table}

-- the places before k at which Frames were taken, the oldest first
abbrev pub taken_before : (ℕ → Bool) → ℕ → List ℕ
taken_before T k = filter T (range_with_len 0 k)

-- the last of them, if there is one
abbrev pub last_taken : (ℕ → Bool) → ℕ → Option ℕ
last_taken T k = last_of (taken_before T k)

-- the plan in force at place k, of which the group has the slot table and the number: the newest at the last taken Frame, or the opening one
abbrev pub table_in_force : Opening → ℕ → SlotTable → List Event → (ℕ → Bool) → ℕ → SlotTable
table_in_force o g p E T k = option_map_or (λ j. newest_table o g p (take j E)) (last_taken T k) p

abbrev pub number_in_force : Opening → List Event → (ℕ → Bool) → ℕ → ℕ
number_in_force o E T k = option_map_or (λ j. newest_number o (take j E)) (last_taken T k) o.proposal.plan.number

-- the events before place k that came since the last taken Frame, or since the opening
abbrev pub events_since : List Event → (ℕ → Bool) → ℕ → List Event
events_since E T k = drop (option_map_or (λ j. j + 1) (last_taken T k) 0) (take k E)

-- the first slot of the frame: that of the opening, and the slots of every frame that the group has left
abbrev pub first_slot : Opening → ℕ → SlotTable → List Event → (ℕ → Bool) → ℕ → ℕ
first_slot o g p E T k = o.first + sum_by (λ j. frame_of (table_in_force o g p E T j)) (taken_before T k)

-- what takes a Frame: all cells of the plan in force were asked for since the last one, and 64 bits can count the slots of the frame
-- that follows
pub record IsTakenAt (o : Opening) (g : ℕ) (p : SlotTable) (E : List Event) (T : ℕ → Bool) (k : ℕ) : Type 0 where
  pub asked : slice_get E k ≡ Some (Frame g)
  pub over : cells_of (table_in_force o g p E T k) ≤ count_by (is_cell g) (events_since E T k)
  pub room : first_slot o g p E T k + frame_of (table_in_force o g p E T k) + frame_of (newest_table o g p (take k E)) ≤ 2 ^ 64 - 1

-- T has exactly the taken Frames of the history
abbrev pub AreTakenFrames : Opening → ℕ → SlotTable → List Event → (ℕ → Bool) → Type 0
AreTakenFrames o g p E T = (k : ℕ) → k < length E → IsTrue (T k) ↔ IsTakenAt o g p E T k

-- ---- the same by the frame that the group is in

-- after a history, this event is a Frame that is taken
abbrev pub is_taken_after : Opening → ℕ → SlotTable → List Event → Event → Bool
is_taken_after o g p E e = is_taken g (newest_table o g p E) (current o g p E) e

-- the places of such Frames
abbrev pub is_taken_at : Opening → ℕ → SlotTable → List Event → ℕ → Bool
is_taken_at o g p E k = option_map_or (is_taken_after o g p (take k E)) (slice_get E k) false

-- no other places of a history than these have its taken Frames
abbrev pub TakenFramesAreUnique : Type 0
TakenFramesAreUnique =
    (o : Opening) (g : ℕ) (p : SlotTable) (E : List Event) (T : ℕ → Bool) → AreTakenFrames o g p E T
    → (k : ℕ) → k < length E → T k ≡ is_taken_at o g p E k

-- the frame that the group is in at place k
pub record IsFrameAt (o : Opening) (g : ℕ) (p : SlotTable) (E : List Event) (T : ℕ → Bool) (k : ℕ) (f : Current) : Type 0 where
  pub table : f.table ≡ table_in_force o g p E T k
  pub number : f.number ≡ number_in_force o E T k
  pub first : f.first ≡ first_slot o g p E T k
  pub cells : cells_since g f ≡ count_by (is_cell g) (events_since E T k)

-- at each place of a history a group is in the frame that its taken Frames before that place make
abbrev pub FramesFollowTakenOnes : Type 0
FramesFollowTakenOnes =
    (o : Opening) (g : ℕ) (p : SlotTable) (E : List Event) (k : ℕ) → k ≤ length E
    → IsFrameAt o g p E (is_taken_at o g p E) k (current o g p (take k E))

-- a frame of the group begins after this history: at the opening, or by a taken Frame
pub record EndsInTaken (o : Opening) (g : ℕ) (p : SlotTable) (E : List Event) : Type 0 where
  pub past : List Event
  pub event : Event
  pub split : E ≡ past ++ event ∷ []
  pub taken : IsTrue (is_taken_after o g p past event)

abbrev pub BeginsFrame : Opening → ℕ → SlotTable → List Event → Type 0
BeginsFrame o g p E = (E ≡ []) ⊎ EndsInTaken o g p E

-- a stretch of events that come after E has no taken Frame
abbrev pub NoneTaken : Opening → ℕ → SlotTable → List Event → List Event → Type 0
NoneTaken o g p E stretch = (xs ys : List Event) (e : Event) → stretch ≡ xs ++ e ∷ ys → is_taken_after o g p (E ++ xs) e ≡ false

-- ---- the origin of plans

-- the history has a Publish of this proposal, for the opening station, that gave it this number
pub record IsPublished (o : Opening) (E : List Event) (q : Proposed) (number : ℕ) : Type 0 where
  pub before : List Event
  pub after : List Event
  pub split : E ≡ before ++ Publish q ∷ after
  pub same : IsTrue (same_station o.proposal.station q.station)
  pub next_number : number ≡ newest_number o before + 1
  pub countable : number ≤ 2 ^ 64 - 1

-- the newest plan is a published one
pub record IsPublishedPlan (o : Opening) (E : List Event) : Type 0 where
  pub proposal : Proposed
  pub published : IsPublished o E proposal (newest_number o E)
  pub plan : newest_plan o E ≡ proposal.plan

-- or the opening one
pub record IsOpeningPlan (o : Opening) (E : List Event) : Type 0 where
  pub number : newest_number o E ≡ o.proposal.plan.number
  pub plan : newest_plan o E ≡ o.proposal.plan

-- the slot table and the number of a group are those of a published plan
pub record HasPublished (o : Opening) (g : ℕ) (p : SlotTable) (E : List Event) (f : Current) : Type 0 where
  pub proposal : Proposed
  pub published : IsPublished o E proposal f.number
  pub table : f.table ≡ unwrap_or (slice_get (groups_of proposal.plan) g) p

-- or of the opening one
pub record HasOpening (o : Opening) (p : SlotTable) (f : Current) : Type 0 where
  pub number : f.number ≡ o.proposal.plan.number
  pub table : f.table ≡ p

-- the plan that the group has is the opening one or a published one
abbrev pub HasOpeningOrPublished : Opening → ℕ → SlotTable → List Event → Type 0
HasOpeningOrPublished o g p E = HasOpening o p (current o g p E) ⊎ HasPublished o g p E (current o g p E)

-- nothing but the events since the frame began is new
pub record IsSameFrame (f h : Current) : Type 0 where
  pub table : h.table ≡ f.table
  pub number : h.number ≡ f.number
  pub first : h.first ≡ f.first

-- the event leaves the group's plan and the first slot of its frame as they were
abbrev pub LeavesFrame : Opening → ℕ → SlotTable → List Event → Event → Type 0
LeavesFrame o g p E e = IsSameFrame (current o g p E) (current o g p (E ++ e ∷ []))
