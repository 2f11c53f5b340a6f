-- What the machine does in one step: its answer, and the state after it (profile: docs/RULES.md, Sending).
use Rattle.std.specs.Prelude.{◌≡◌, ◌+◌, ◌-◌, ◌^◌, ℕ, Bool, false, List, Option, Some, None, Result, Ok, Err, if◌then◌else◌, nat_lt, nat_le, length, slice_get, slice_set, option_and_then, option_map}
use Rattle.std.specs.Option.{option_map_or}
use Rattle.a429_equipment.specs.declared.arrivals.ArrivalRefusal.{ArrivalRefusal}
use Rattle.a429_equipment.specs.Arrivals.{sorted}
use Rattle.a429_equipment.specs.SameStation.{same_station}
use Rattle.a429_slots.specs.Tables.{SlotTable, PlanTable, groups_of, cells_of, output_in}
use Rattle.a429_slots.specs.Recalling.{Recent, source_sends, source_after}
use Rattle.a429_slots.specs.Proposed.{Proposed}
use Rattle.a429_slots.specs.Events.{Event, Arrive, Cell, Frame, Publish}
use Rattle.a429_slots.specs.History.{Opening}
use Rattle.a429_core.specs.declared.sends.SentCell.{SentCell}
use Rattle.a429_core.specs.declared.sources.Kept.{Kept}
use Rattle.a429_slots.specs.declared.senders.Due.{Due}
use Rattle.a429_slots.specs.declared.answers.Answer.{Answer}
use Rattle.a429_slots.specs.declared.answers.Answer.TheVariants.{Accepted, Sent, Changed, Published, Refused}
use Rattle.a429_slots.specs.declared.answers.Refusal.TheVariants.{NoSuch, CountSpent, FrameEnd, MidFrame, SlotsSpent, StationDiffers}
use Rattle.a429_slots.specs.Answers.{answer, refusal_of}
use Rattle.a429_slots.specs.FrameStates.{FrameState, due_of, next_cell, after_cell, fits_next, turned}
use Rattle.a429_core.specs.MachineStates.{IsWholeEvent, MachineState, StandsForHistory}

abbrev pub count_at : List Kept → ℕ → ℕ
count_at sources i = option_map_or (λ k. k.count) (slice_get sources i) 0

abbrev pub kept_at : List Kept → ℕ → ℕ → List Kept
kept_at sources i raw = slice_set sources i (record { count = count_at sources i + 1; last = Some raw })

abbrev pub put_word : ℕ → MachineState → ℕ → Result ℕ ArrivalRefusal → Answer × MachineState
put_word C v raw (Err refusal) = (Refused (refusal_of refusal), v)
put_word C v raw (Ok i) =
    if nat_lt (count_at v.sources i) (2 ^ C - 1) then (Accepted i, record v { sources = kept_at v.sources i raw }) else (Refused CountSpent, v)

abbrev pub arrived : ℕ → MachineState → ℕ → ℕ → Answer × MachineState
arrived C v r raw = if nat_le (length v.station.receivers) r then (Refused NoSuch, v) else put_word C v raw (sorted v.station r raw)

-- the bus, the slot and the output of a cell
abbrev pub placed_cell : FrameState → Option (ℕ × ℕ) → Option (ℕ × ℕ × Option Due)
placed_cell s None = None
placed_cell s (Some c) = Some (c.0, s.first + c.1, option_map due_of (output_in s.table c.0 c.1))

-- the next cell of a group, and the groups after it
abbrev pub asked_cell : List FrameState → ℕ → Option (ℕ × ℕ × Option Due)
asked_cell groups g = option_and_then (λ s. placed_cell s (next_cell s)) (slice_get groups g)

abbrev pub after_asked : List FrameState → ℕ → List FrameState
after_asked groups g = option_map_or (λ s. slice_set groups g (after_cell s)) (slice_get groups g) groups

-- a word of a source may be sent, and what is kept of each group's sends then
abbrev pub group_sends : List (List Recent) → ℕ → ℕ → ℕ → Due → Bool
group_sends sends g slot count due = option_map_or (λ rs. source_sends rs slot count due) (slice_get sends g) false

abbrev pub group_after : List (List Recent) → ℕ → ℕ → ℕ → Due → List (List Recent)
group_after sends g slot count due = option_map_or (λ rs. slice_set sends g (source_after rs slot count due)) (slice_get sends g) sends

abbrev pub send_last : MachineState → ℕ → ℕ → Due → ℕ → Option ℕ → Option ℕ × MachineState
send_last v g slot due count None = (None, v)
send_last v g slot due count (Some word) =
    ((if group_sends v.sends g slot count due then Some word else None), record v { sends = group_after v.sends g slot count due })

abbrev pub send_kept : MachineState → ℕ → ℕ → Due → Option Kept → Option ℕ × MachineState
send_kept v g slot due None = (None, v)
send_kept v g slot due (Some kept) = send_last v g slot due kept.count kept.last

-- the word that a group sends for an output
abbrev pub word_at : MachineState → ℕ → ℕ → Due → Option ℕ × MachineState
word_at v g slot due = send_kept v g slot due (slice_get v.sources due.source)

abbrev pub sent_due : MachineState → ℕ → ℕ → ℕ → Option Due → Answer × MachineState
sent_due v g bus slot None = (Sent bus slot None, v)
sent_due v g bus slot (Some due) = (Sent bus slot (word_at v g slot due).0, (word_at v g slot due).1)

abbrev pub sent_in : MachineState → ℕ → Option (ℕ × ℕ × Option Due) → Answer × MachineState
sent_in v g None = (Refused FrameEnd, v)
sent_in v g (Some c) = sent_due v g c.0 c.1 c.2

abbrev pub cell_asked : MachineState → ℕ → Answer × MachineState
cell_asked v g =
    if nat_lt g (length v.groups) then sent_in (record v { groups = after_asked v.groups g }) g (asked_cell v.groups g) else (Refused NoSuch, v)

-- the word that a cell sends for an output, with the output's source
abbrev pub sent_for : MachineState → ℕ → ℕ → ℕ → Option Due → Option SentCell
sent_for v g bus slot None = None
sent_for v g bus slot (Some due) = option_map (λ word. record { bus = bus; slot = slot; source = due.source; word = word }) (word_at v g slot due).0

abbrev pub sent_of : MachineState → ℕ → Option (ℕ × ℕ × Option Due) → Option SentCell
sent_of v g None = None
sent_of v g (Some c) = sent_for v g c.0 c.1 c.2

-- the word that a group's next cell sends, if it sends one
abbrev pub cell_sent : MachineState → ℕ → Option SentCell
cell_sent v g = if nat_lt g (length v.groups) then sent_of (record v { groups = after_asked v.groups g }) g (asked_cell v.groups g) else None

-- a group goes on to its next frame by this table, if the frame before is over
abbrev pub framed : FrameState → ℕ → SlotTable → Answer × FrameState
framed s number newest =
    if nat_lt s.sent (cells_of s.table) then (Refused MidFrame, s)
    else ((if fits_next s newest then Changed number else Refused SlotsSpent), turned s newest)

abbrev pub frame_of_both : List FrameState → ℕ → ℕ → Option FrameState → Option SlotTable → Answer × List FrameState
frame_of_both groups number g (Some s) (Some newest) = ((framed s number newest).0, slice_set groups g (framed s number newest).1)
frame_of_both groups number g _ _ = (Refused NoSuch, groups)

abbrev pub frame_at : List FrameState → PlanTable → ℕ → Answer × List FrameState
frame_at groups newest g = frame_of_both groups newest.number g (slice_get groups g) (slice_get (groups_of newest) g)

abbrev pub frame_asked : MachineState → ℕ → Answer × MachineState
frame_asked v g =
    if nat_lt g (length v.groups) then ((frame_at v.groups v.newest g).0, record v { groups = (frame_at v.groups v.newest g).1 })
    else (Refused NoSuch, v)

abbrev pub publish_asked : MachineState → Proposed → Answer × MachineState
publish_asked v q =
    if same_station v.station q.station
    then (if nat_lt v.newest.number (2 ^ 64 - 1)
    then (Published (v.newest.number + 1), record v { newest = record q.plan { number = v.newest.number + 1 } })
    else (Refused CountSpent, v))
    else (Refused StationDiffers, v)

abbrev pub stepped : ℕ → MachineState → Event → Answer × MachineState
stepped C v (Arrive r raw) = arrived C v r raw
stepped C v (Cell g) = cell_asked v g
stepped C v (Frame g) = frame_asked v g
stepped C v (Publish q) = publish_asked v q

-- the machine answers an event as the definition does, at each state and for every history that it stands for
abbrev pub CallsAreAnswered : Type 0
CallsAreAnswered =
    (C : ℕ) (o : Opening) (E : List Event) (e : Event) (v : MachineState) → IsWholeEvent e → StandsForHistory C o E v
    → (stepped C v e).0 ≡ answer C o E e

-- a cell that sends a word is answered so, with its bus, its slot and its word
abbrev pub SentCellsAreAnswered : Type 0
SentCellsAreAnswered =
    (C : ℕ) (o : Opening) (E : List Event) (v : MachineState) (g : ℕ) (s : SentCell) → StandsForHistory C o E v → cell_sent v g ≡ Some s
    → answer C o E (Cell g) ≡ Sent s.bus s.slot (Some s.word)

-- and the answer to any other cell has no word
abbrev pub OtherCellsHaveNoWord : Type 0
OtherCellsHaveNoWord =
    (C : ℕ) (o : Opening) (E : List Event) (v : MachineState) (g bus slot word : ℕ) → StandsForHistory C o E v → cell_sent v g ≡ None
    → answer C o E (Cell g) ≡ Sent bus slot (Some word) → ⊥
