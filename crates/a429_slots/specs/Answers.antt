-- What each event is answered after a history, with the refusals in their order (profile: docs/RULES.md, Sending).
use Rattle.std.specs.Prelude.{◌+◌, ◌-◌, ◌^◌, ◌∷◌, [], ◌++◌, ℕ, List, Result, Ok, Err, if◌then◌else◌, nat_lt, nat_le, length, slice_get}
use Rattle.std.specs.Option.{option_map_or}
use Rattle.a429_equipment.specs.declared.arrivals.ArrivalRefusal.{ArrivalRefusal}
use Rattle.a429_equipment.specs.declared.arrivals.ArrivalRefusal.TheVariants as arrival
use Rattle.a429_equipment.specs.Arrivals.{sorted}
use Rattle.a429_equipment.specs.SameStation.{same_station}
use Rattle.a429_slots.specs.Tables.{SlotTable, groups_of}
use Rattle.a429_slots.specs.Proposed.{Proposed}
use Rattle.a429_slots.specs.Events.{Event, Arrive, Cell, Frame, Publish}
use Rattle.a429_slots.specs.History.{Opening, Current, AnsweredCell, accepted_by, answered_cells, newest_number, newest_table, current, is_over, has_room, cell_due, word_sent}
use Rattle.a429_slots.specs.declared.answers.Answer.{Answer}
use Rattle.a429_slots.specs.declared.answers.Answer.TheVariants.{Accepted, Sent, Changed, Published, Refused}
use Rattle.a429_slots.specs.declared.answers.Refusal.{Refusal}
use Rattle.a429_slots.specs.declared.answers.Refusal.TheVariants.{NoSuch, Parity, Filtered, NoSource, CountSpent, FrameEnd, MidFrame, SlotsSpent, StationDiffers}

abbrev pub refusal_of : ArrivalRefusal → Refusal
refusal_of arrival.Parity = Parity
refusal_of arrival.Filtered = Filtered
refusal_of arrival.NoSource = NoSource

abbrev pub source_answer : ℕ → Opening → List Event → Result ℕ ArrivalRefusal → Answer
source_answer C o E (Err refusal) = Refused (refusal_of refusal)
source_answer C o E (Ok i) = if nat_lt (length (accepted_by C o i E)) (2 ^ C - 1) then Accepted i else Refused CountSpent

abbrev pub arrive_answer : ℕ → Opening → List Event → ℕ → ℕ → Answer
arrive_answer C o E r raw =
    if nat_le (length o.proposal.station.receivers) r then Refused NoSuch else source_answer C o E (sorted o.proposal.station r raw)

-- after these earlier cells of the group
abbrev pub cell_answer : ℕ → Opening → List Event → ℕ → List AnsweredCell → Current → Answer
cell_answer C o E g earlier f = option_map_or (λ c. Sent c.0 (f.first + c.1) (word_sent C o E earlier f c)) (cell_due g f) (Refused FrameEnd)

abbrev pub frame_answer : ℕ → ℕ → SlotTable → Current → Answer
frame_answer g number newest f =
    if is_over g f then (if has_room f newest then Changed number else Refused SlotsSpent) else Refused MidFrame

abbrev pub publish_answer : Opening → List Event → Proposed → Answer
publish_answer o E q =
    if same_station o.proposal.station q.station
    then (if nat_lt (newest_number o E) (2 ^ 64 - 1) then Published (newest_number o E + 1) else Refused CountSpent)
    else Refused StationDiffers

-- the answer to an event after the history E, if words are counted in C bits
abbrev pub answer : ℕ → Opening → List Event → Event → Answer
answer C o E (Arrive r raw) = arrive_answer C o E r raw
answer C o E (Cell g) =
    option_map_or (λ p. cell_answer C o E g (answered_cells C o g p E) (current o g p E)) (slice_get (groups_of o.proposal.plan) g) (Refused NoSuch)
answer C o E (Frame g) =
    option_map_or (λ p. frame_answer g (newest_number o E) (newest_table o g p E) (current o g p E)) (slice_get (groups_of o.proposal.plan) g) (Refused NoSuch)
answer C o E (Publish q) = publish_answer o E q

-- the answers to events that come one after another after E
abbrev pub answers : ℕ → Opening → List Event → List Event → List Answer
answers C o E [] = []
answers C o E (e ∷ es) = answer C o E e ∷ answers C o (E ++ e ∷ []) es
