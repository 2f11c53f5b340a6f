-- How the frame of a group, and the cells that it has answered, go on by one more event (profile: docs/RULES.md, Sending).
use Rattle.std.specs.Prelude.{◌≡◌, ◌++◌, ◌∷◌, [], ℕ, List, false, if◌then◌else◌, nat_lt, option_to_list}
use Rattle.a429_slots.specs.Tables.{SlotTable, cells_of}
use Rattle.a429_slots.specs.Events.{Event, Cell, Frame}
use Rattle.a429_slots.specs.History.{Opening, Current, answered_cells, cell_due, current, is_cell, is_frame, newest_table, next_answered}
use Rattle.a429_slots.specs.FrameStates.{FrameState, after_cell, fits_next, next_cell, frame_state_of, turned}
use Rattle.a429_slots.specs.declared.answers.Answer.{Answer}
use Rattle.a429_slots.specs.declared.answers.Answer.TheVariants.{Changed, Refused}
use Rattle.a429_slots.specs.declared.answers.Refusal.TheVariants.{MidFrame, SlotsSpent}
use Rattle.a429_slots.specs.Answers.{frame_answer}

-- the state of the group in its frame after a history
abbrev pub stands_after : Opening → ℕ → SlotTable → List Event → FrameState
stands_after o g p E = frame_state_of g (current o g p E)

-- the state after a Frame: one that comes before the frame's last cell changes nothing
abbrev pub after_frame : FrameState → SlotTable → FrameState
after_frame s newest = if nat_lt s.sent (cells_of s.table) then s else turned s newest

-- the answer to a Frame, if the newest plan has this number
abbrev pub frame_reply : FrameState → ℕ → SlotTable → Answer
frame_reply s number newest =
    if nat_lt s.sent (cells_of s.table) then Refused MidFrame else (if fits_next s newest then Changed number else Refused SlotsSpent)

-- a Cell of the group counts, as long as one is due
abbrev pub CellsCount : Type 0
CellsCount = (o : Opening) (g : ℕ) (p : SlotTable) (E : List Event) → stands_after o g p (E ++ Cell g ∷ []) ≡ after_cell (stands_after o g p E)

-- a Frame of the group goes on to the next frame by the newest table
abbrev pub FramesTurn : Type 0
FramesTurn =
    (o : Opening) (g : ℕ) (p : SlotTable) (E : List Event)
    → stands_after o g p (E ++ Frame g ∷ []) ≡ after_frame (stands_after o g p E) (newest_table o g p E)

-- no other event moves the group
abbrev pub OthersPass : Type 0
OthersPass =
    (o : Opening) (g : ℕ) (p : SlotTable) (E : List Event) (e : Event)
    → is_frame g e ≡ false → is_cell g e ≡ false → stands_after o g p (E ++ e ∷ []) ≡ stands_after o g p E

-- the state of the group in its frame determines its next cell, and the answer to a Frame
abbrev pub TellsNextCell : Type 0
TellsNextCell = (g : ℕ) (f : Current) → cell_due g f ≡ next_cell (frame_state_of g f)

abbrev pub TellsFrameAnswer : Type 0
TellsFrameAnswer = (g number : ℕ) (newest : SlotTable) (f : Current) → frame_answer g number newest f ≡ frame_reply (frame_state_of g f) number newest

-- a Cell of the group adds the cell that is due, if it has an output, and no other event adds any
abbrev pub AnsweredCellsGrow : Type 0
AnsweredCellsGrow =
    (C : ℕ) (o : Opening) (g : ℕ) (p : SlotTable) (E : List Event) (e : Event)
    → answered_cells C o g p (E ++ e ∷ [])
    ≡ (let earlier = answered_cells C o g p E in
    if is_cell g e then earlier ++ option_to_list (next_answered C o E g (current o g p E) earlier) else earlier)
