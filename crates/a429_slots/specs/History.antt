-- What a history determines: the words that were accepted, the plans in force, the cell that is due, and the word that is sent in it
-- (profile: docs/RULES.md, Sending).
use Rattle.std.specs.Prelude.{◌≡◌, ◌==◌, ◌&&◌, ◌||◌, ◌++◌, ◌+◌, ◌-◌, ◌/◌, ◌%◌, ◌^◌, ◌∷◌, [], ℕ, Bool, false, List, Option, Some, None, if◌then◌else◌, nat_lt, nat_le, length, take, reverse, filter_map, count_by, slice_get, option_and_then, option_map, unwrap_or, is_some}
use Rattle.std.specs.List.{list_any}
use Rattle.std.specs.Option.{option_map_or}
use Rattle.a429_equipment.specs.declared.rows.SourceRow.{SourceRow}
use Rattle.a429_equipment.specs.Arrivals.{accepted}
pub use Rattle.a429_equipment.specs.Agreement.{last_of}
use Rattle.a429_equipment.specs.SameStation.{same_station}
use Rattle.a429_slots.specs.Tables.{Placed, SlotTable, PlanTable, groups_of, frame_of, buses_of, cells_of, output_in}
use Rattle.a429_slots.specs.Proposed.{Proposed}
use Rattle.a429_slots.specs.Events.{Event, Arrive, Cell, Frame, Publish}

-- what a history begins with: a station with its plan, and the first slot of its groups
pub record Opening : Type 0 where
  pub proposal : Proposed
  pub first : ℕ

-- group g begins with this slot table: that of the opening plan
abbrev pub OpensWith : Opening → ℕ → SlotTable → Type 0
OpensWith o g p = slice_get (groups_of o.proposal.plan) g ≡ Some p

-- ---- accepted words

abbrev pub arrival_of : Event → Option (ℕ × ℕ)
arrival_of (Arrive r raw) = Some (r, raw)
arrival_of (Cell g) = None
arrival_of (Frame g) = None
arrival_of (Publish q) = None

-- the words that a source accepted
abbrev pub accepted_in : ℕ → Opening → SourceRow → List Event → List ℕ
accepted_in C o s E = accepted C o.proposal.station s (filter_map arrival_of E)

-- those of the source with this number
abbrev pub accepted_by : ℕ → Opening → ℕ → List Event → List ℕ
accepted_by C o i E = option_map_or (λ s. accepted_in C o s E) (slice_get o.proposal.station.sources i) []

-- ---- published plans

-- the proposal that an event publishes: one of the opening station
abbrev pub proposal_for : Opening → Event → Option Proposed
proposal_for o (Publish q) = if same_station o.proposal.station q.station then Some q else None
proposal_for o (Arrive r raw) = None
proposal_for o (Cell g) = None
proposal_for o (Frame g) = None

-- how many proposals 64 bits can number after the opening one
abbrev pub numbers_left : Opening → ℕ
numbers_left o = 2 ^ 64 - 1 - o.proposal.plan.number

-- the proposals that were published after the opening one, as far as 64 bits can number them
abbrev pub published : Opening → List Event → List Proposed
published o E = take (numbers_left o) (filter_map (proposal_for o) E)

-- the number of the newest plan; they count from that of the opening one
abbrev pub newest_number : Opening → List Event → ℕ
newest_number o E = o.proposal.plan.number + length (published o E)

abbrev pub newest_plan : Opening → List Event → PlanTable
newest_plan o E = option_map_or (λ q. q.plan) (last_of (published o E)) o.proposal.plan

-- the newest slot table of group g, whose opening one is p
abbrev pub newest_table : Opening → ℕ → SlotTable → List Event → SlotTable
newest_table o g p E = unwrap_or (slice_get (groups_of (newest_plan o E)) g) p

-- ---- frames of a group

-- the frame that a group is in: the slot table in force and its plan's number, the frame's first slot, and the events since the frame
-- began, the newest first
pub record Current : Type 0 where
  pub table : SlotTable
  pub number : ℕ
  pub first : ℕ
  pub since : List Event

abbrev pub is_cell : ℕ → Event → Bool
is_cell g (Cell k) = k == g
is_cell g (Arrive r raw) = false
is_cell g (Frame k) = false
is_cell g (Publish q) = false

abbrev pub is_frame : ℕ → Event → Bool
is_frame g (Frame k) = k == g
is_frame g (Arrive r raw) = false
is_frame g (Cell k) = false
is_frame g (Publish q) = false

-- how many cells were asked for since the frame began
abbrev pub cells_since : ℕ → Current → ℕ
cells_since g f = count_by (is_cell g) f.since

-- all cells of the frame were asked for
abbrev pub is_over : ℕ → Current → Bool
is_over g f = nat_le (cells_of f.table) (cells_since g f)

-- 64 bits can count the slots of a next frame by this table
abbrev pub has_room : Current → SlotTable → Bool
has_room f newest = nat_lt (f.first + frame_of f.table + frame_of newest) (2 ^ 64)

-- a Frame of the group is taken if the frame before it is over and the next one has room
abbrev pub is_taken : ℕ → SlotTable → Current → Event → Bool
is_taken g newest f e = is_frame g e && (is_over g f && has_room f newest)

-- the frame that begins then, by the newest table
abbrev pub next_frame : ℕ → SlotTable → Current → Current
next_frame number newest f = record { table = newest; number = number; first = f.first + frame_of f.table; since = [] }

-- the frame of group g after a past, which has the newest event first; p is the group's opening table
abbrev pub frame_after : Opening → ℕ → SlotTable → List Event → Current
frame_after o g p [] = record { table = p; number = o.proposal.plan.number; first = o.first; since = [] }
frame_after o g p (e ∷ past) =
    let f = frame_after o g p past in
    let newest = newest_table o g p (reverse past) in
    if is_taken g newest f e then next_frame (newest_number o (reverse past)) newest f else record f { since = e ∷ f.since }

-- the frame that group g is in after a history
abbrev pub current : Opening → ℕ → SlotTable → List Event → Current
current o g p E = frame_after o g p (reverse E)

-- ---- cells

-- the cell that is due: its bus, and its slot in the frame; cells go slot by slot, in a slot bus by bus
abbrev pub cell_due : ℕ → Current → Option (ℕ × ℕ)
cell_due g f =
    if nat_lt (cells_since g f) (cells_of f.table) then Some (cells_since g f % buses_of f.table, cells_since g f / buses_of f.table) else None

-- ---- words that are sent

-- A cell of an output that a group has answered. It has: its slot, counted from the station's first; the output's
-- source; how many words of the source were accepted then; the word that was sent, if any. A list of such cells has the
-- oldest first.
pub record AnsweredCell : Type 0 where
  pub slot : ℕ
  pub source : ℕ
  pub count : ℕ
  pub word : Option ℕ

-- the cell sent a word of this source; a cell without a word sent none
abbrev pub has_sent : ℕ → AnsweredCell → Bool
has_sent source c = is_some c.word && c.source == source

-- how often the group sent the word that was the source's accepted word number `count`: an equal word that was accepted again is another
abbrev pub times_sent : List AnsweredCell → ℕ → ℕ → ℕ
times_sent earlier source count = count_by (λ c. has_sent source c && c.count == count) earlier

-- the word was sent as often as its output may send it
abbrev pub is_held : List AnsweredCell → ℕ → Option ℕ → ℕ → Bool
is_held earlier source hold count = option_map_or (λ most. nat_le most (times_sent earlier source count)) hold false

-- a word of the source was sent fewer than q slots before
abbrev pub is_too_close : List AnsweredCell → ℕ → ℕ → ℕ → Bool
is_too_close earlier slot source q = list_any (λ c. has_sent source c && nat_lt slot (c.slot + q)) earlier

-- The word that goes out in a cell after these earlier cells of its group. `latest` is the number of accepted words of
-- the source, and the last of them. No word goes out if the group has sent that accepted word `hold` times, or a word
-- of the source fewer than q slots before.
abbrev pub sent_word : List AnsweredCell → ℕ → ℕ → Option ℕ → ℕ → ℕ × Option ℕ → Option ℕ
sent_word earlier slot source hold q latest = if is_held earlier source hold latest.0 || is_too_close earlier slot source q then None else latest.1

-- how many words a source accepted, and the last of them
abbrev pub latest_by : ℕ → Opening → ℕ → List Event → ℕ × Option ℕ
latest_by C o i E = (length (accepted_by C o i E), last_of (accepted_by C o i E))

-- the answered cell of an output, after these earlier cells of its group
abbrev pub answered_cell : ℕ → Opening → List Event → List AnsweredCell → ℕ → Placed → AnsweredCell
answered_cell C o E earlier slot output = record {
  slot = slot;
  source = output.source;
  count = (latest_by C o output.source E).0;
  word = sent_word earlier slot output.source output.limits.hold output.limits.spacing (latest_by C o output.source E);
}

-- the next cell of the group, if it is due and has an output
abbrev pub next_answered : ℕ → Opening → List Event → ℕ → Current → List AnsweredCell → Option AnsweredCell
next_answered C o E g f earlier =
    option_and_then (λ cell. option_map (answered_cell C o E earlier (f.first + cell.1)) (output_in f.table cell.0 cell.1)) (cell_due g f)

-- the cells of outputs that group g answered in a past, which has the newest event first; p is the group's opening table
abbrev pub answered_after : ℕ → Opening → ℕ → SlotTable → List Event → List AnsweredCell
answered_after C o g p [] = []
answered_after C o g p (e ∷ past) =
    let earlier = answered_after C o g p past in
    if is_cell g e then earlier ++ option_map_or (λ c. c ∷ []) (next_answered C o (reverse past) g (frame_after o g p past) earlier) [] else earlier

-- those of a history
abbrev pub answered_cells : ℕ → Opening → ℕ → SlotTable → List Event → List AnsweredCell
answered_cells C o g p E = answered_after C o g p (reverse E)

-- the word that is sent in a cell, after these earlier cells of the group: that of the cell's output
abbrev pub word_sent : ℕ → Opening → List Event → List AnsweredCell → Current → ℕ × ℕ → Option ℕ
word_sent C o E earlier f cell =
    option_and_then (λ output. (answered_cell C o E earlier (f.first + cell.1) output).word) (output_in f.table cell.0 cell.1)
