-- A group's transmitter as contracts see it, and the lists of calls that it stands for (vocabulary of contracts).
use Rattle.std.specs.Prelude.{◌≡◌, ◌+◌, ◌/◌, ◌^◌, ◌<◌, ◌≤◌, ◌↔◌, ◌++◌, ◌∷◌, [], ℕ, Bool, false, List, Option, Some, None, Result, Ok, Err, IsErrOf, OnOk, if◌then◌else◌, nat_lt, length, drop, option_map, slice_get}
use Rattle.std.specs.Option.{option_map_or}
use Rattle.std.specs.List.{AllByRecursion}
use mathlib.Core.List.{IsPrefix}
use Rattle.a429_equipment.specs.declared.loads.Load.{Load}
use Rattle.a429_equipment.specs.TableRecord.{TableRecord}
use Rattle.a429_equipment.specs.Agreement.{CountsNoLess, loads_of_all}
use Rattle.a429_slots.specs.Tables.{SlotTable, PlanTable, groups_of, outputs_of, buses_of, cells_of, frame_of}
use Rattle.a429_slots.specs.FrameStates.{FrameState, begun, fits_next, next_cell}
use Rattle.a429_slots.specs.Recalling.{Recent, Recalls, source_sends, source_after}
use Rattle.a429_slots.specs.declared.senders.Due.{Due}
use Rattle.a429_values.specs.Ends as ends
use Rattle.a429_values.specs.Later.{OthersStayAgreed}
use Rattle.a429_values.specs.Words.{load_of}
use Rattle.a429_board.specs.Lists.{Watched}
use Rattle.a429_workers.specs.Calls.{Call, Asks, Turns, Takes, StaysMid, StaysSpent, GroupState, AreLawful, before_calls, state_after, loads_of, table_of}
use Rattle.a429_workers.specs.declared.cells.Sent.{Sent}
use Rattle.a429_workers.specs.declared.cells.FrameEnd.{FrameEnd}
use Rattle.a429_workers.specs.declared.cells.ChangeFault.{ChangeFault}
use Rattle.a429_workers.specs.declared.cells.ChangeFault.TheVariants.{MidFrame, SlotsSpent}

-- A group's transmitter: its ends of the current values and of the board, and the frame that the group is in, with the
-- number of its plan. It also has what is kept of the group's sends, source by source.
pub record Transmitting : Type 0 where
  pub transmitter : ends.TransmitterEnd
  pub watcher : Watched
  pub frame : FrameState
  pub number : ℕ
  pub sends : List Recent

-- hub, group and board stay the same, and the plan that the board was opened with
pub record IsSameGroup (old new : Transmitting) : Type 0 where
  pub hub : new.transmitter.at ≡ old.transmitter.at
  pub group : new.transmitter.number ≡ old.transmitter.number
  pub board : new.watcher.book ≡ old.watcher.book
  pub opened : new.watcher.opened ≡ old.watcher.opened

-- 64 bits can count the slots of the group's first frame
abbrev pub first_fits : PlanTable → ℕ → ℕ → Bool
first_fits opened g first = option_map_or (λ p. nat_lt (first + frame_of p) (2 ^ 64)) (slice_get (groups_of opened) g) false

-- ---- the next cell and the next frame

-- the bus of the next cell of a frame, and its slot counted from the station's first; none if all cells of the frame
-- were sent
abbrev pub place_due : FrameState → Option (ℕ × ℕ)
place_due f = option_map (λ cell. (cell.0, f.first + cell.1)) (next_cell f)

-- the group has this slot table in the plan that the board was opened with
abbrev pub OpensBy : Transmitting → SlotTable → Type 0
OpensBy v p = slice_get (groups_of v.watcher.opened) v.transmitter.number ≡ Some p

-- the group's slot table in the last plan that was seen; p if that plan has no such group
abbrev pub newest_table : Transmitting → SlotTable → SlotTable
newest_table v p = table_of v.transmitter.number p v.watcher.list

-- the table is that of a group in the last plan that a watcher saw, or its opening one if that plan has no such group
abbrev pub IsLastTable : Watched → ℕ → SlotTable → Type 0
IsLastTable w g t = (p : SlotTable) → slice_get (groups_of w.opened) g ≡ Some p → t ≡ table_of g p w.list

-- all cells of the frame were sent, and 64 bits cannot count the slots of a next one by this table
abbrev pub IsSpent : FrameState → SlotTable → Type 0
IsSpent f t = (cells_of f.table ≤ f.sent) × (fits_next f t ≡ false)

-- the frame that follows one that is over, by this table
abbrev pub frame_behind : FrameState → SlotTable → FrameState
frame_behind f t = begun (f.first + frame_of f.table) t

-- If the group opened with table p, a change answers SlotsSpent if and only if the frame is over and 64 bits cannot
-- count the slots of the next one.
abbrev pub TellsSpent : Transmitting → Result ℕ ChangeFault → Transmitting → Type 0
TellsSpent old answer new = (p : SlotTable) → OpensBy old p → (IsErrOf answer SlotsSpent ↔ IsSpent old.frame (newest_table new p))

-- and if it is Ok it begins the next frame, by the newest table
abbrev pub TakesNext : Transmitting → Result ℕ ChangeFault → Transmitting → Type 0
TakesNext old answer new = (p : SlotTable) → OpensBy old p → OnOk answer (new.frame ≡ frame_behind old.frame (newest_table new p))

-- ---- plans of a station

-- the slot table sends sources of the station alone, and so does the plan
abbrev pub IsKnownTable : TableRecord → SlotTable → Type 0
IsKnownTable t p = AllByRecursion (λ o. o.source < length t.sources) (outputs_of p)

abbrev pub IsKnownPlan : TableRecord → PlanTable → Type 0
IsKnownPlan t q = AllByRecursion (IsKnownTable t) (groups_of q)

-- ---- the calls that a transmitter stands for

-- how it began: the plan that its board was opened with, the group with its slot table there, the first slot, and the loads made before
pub record Outset : Type 0 where
  pub opened : PlanTable
  pub group : ℕ
  pub table : SlotTable
  pub first : ℕ
  pub before : List Load

-- the state after these calls, from there
abbrev pub led_by : Outset → List Call → GroupState
led_by b calls = state_after b.group b.table (before_calls b.opened b.table b.first) calls

-- the slot is not past the next cell of the frame
pub record IsReached (f : FrameState) (slot : ℕ) : Type 0 where
  pub passed : slot ≤ f.first + f.sent / buses_of f.table
  pub in_frame : slot ≤ f.first + frame_of f.table

-- This is kept of the cells that were answered, for source i. Its count is at most that of any load of the source that
-- counts at least as many words as these loads. Its slot is at most that of the next cell.
pub record RemembersLoads (loads : List Load) (s : GroupState) (i : ℕ) (x : Option Recent) : Type 0 where
  pub recent : Recent
  pub there : x ≡ Some recent
  pub recalls : Recalls s.earlier i recent
  pub counted : (l : Load) → l.source ≡ i → CountsNoLess loads l → recent.count ≤ l.count
  pub reached : IsReached s.frame recent.slot

-- this is kept of the state after calls
pub record IsAt (b : Outset) (s : GroupState) (v : Transmitting) : Type 0 where
  pub group : v.transmitter.number ≡ b.group
  pub opened : v.watcher.opened ≡ b.opened
  pub frame : v.frame ≡ s.frame
  pub number : v.number ≡ s.number
  pub seen : IsPrefix s.seen v.watcher.list
  pub sources : IsKnownTable v.transmitter.at.station v.frame.table
  pub sends : (i : ℕ) → i < length v.transmitter.at.station.sources → RemembersLoads v.transmitter.loads s i (slice_get v.sends i)

-- the transmitter was asked for these calls since it began, each is lawful in the state after those before it, and its
-- loads since are theirs
pub record HasMade (b : Outset) (calls : List Call) (v : Transmitting) : Type 0 where
  pub opens : slice_get (groups_of b.opened) b.group ≡ Some b.table
  pub lawful : AreLawful b.group b.table (before_calls b.opened b.table b.first) calls
  pub loads : v.transmitter.loads ≡ b.before ++ loads_of calls
  pub known : AllByRecursion (λ l. l.source < length v.transmitter.at.station.sources) (loads_of calls)
  pub at : IsAt b (led_by b calls) v

-- so it is, if the plans that its watcher saw are plans of the hub's station: such plans send only sources of that
-- station
abbrev pub StandsForCalls : Outset → List Call → Transmitting → Type 0
StandsForCalls b calls v = AllByRecursion (IsKnownPlan v.transmitter.at.station) v.watcher.list → HasMade b calls v

-- for all calls that the transmitter stands for, the next one stands for them with these at their end
abbrev pub GoesOnByCalls : Transmitting → List Call → Transmitting → Type 0
GoesOnByCalls old calls new = (b : Outset) (made : List Call) → StandsForCalls b made old → StandsForCalls b (made ++ calls) new

-- it begins with these ends at this slot, with the group's table of the plan that the board was opened with, and was asked for nothing
abbrev pub BeginsWith : ends.TransmitterEnd → Watched → ℕ → Transmitting → Type 0
BeginsWith t w first v =
    (p : SlotTable) → slice_get (groups_of w.opened) t.number ≡ Some p
    → StandsForCalls (record { opened = w.opened; group = t.number; table = p; first = first; before = t.loads }) [] v

-- with the loads of all sources of a receiver that was met
abbrev pub met : Transmitting → ends.ReceiverEnd → Transmitting
met v r = record v { transmitter = ends.with_loads v.transmitter (loads_of_all v.transmitter.at.station r.number r.accepted) }

-- ---- the calls that answers are

-- the loads that were made in between
abbrev pub loads_since : Transmitting → Transmitting → List Load
loads_since old new = drop (length old.transmitter.loads) new.transmitter.loads

-- the call that asked for a cell, if these loads were made in it
abbrev pub cell_call : Result Sent FrameEnd → List Load → Call
cell_call (Ok s) loads = Asks (Some (record { bus = s.bus; slot = s.slot; load = slice_get loads 0; word = s.word }))
cell_call (Err e) loads = Asks None

-- the call that asked for a change, if these plans had been seen
abbrev pub change_call : Result ℕ ChangeFault → List PlanTable → Call
change_call (Ok n) seen = Turns seen (Takes n)
change_call (Err MidFrame) seen = Turns seen StaysMid
change_call (Err SlotsSpent) seen = Turns seen StaysSpent

-- ---- what is done for the cell of an output

-- the word that goes out if the load of its source found this, and what is kept of the sends then
abbrev pub sent_by : List Recent → ℕ → Due → Option (ℕ × ℕ) → Option ℕ × List Recent
sent_by sends slot due None = (None, sends)
sent_by sends slot due (Some found) = (if source_sends sends slot found.0 due then Some found.1 else None, source_after sends slot found.0 due)

-- one load was made, of the source of the output, and by what it found the word goes out
pub record IsLoaded (old : ends.TransmitterEnd) (sends : List Recent) (slot : ℕ) (due : Due) (word : Option ℕ) (new : ends.TransmitterEnd) (kept : List Recent) : Type 0 where
  pub found : Option (ℕ × ℕ)
  pub loads : new ≡ ends.with_loads old (load_of due.source found ∷ [])
  pub no_less : CountsNoLess old.loads (load_of due.source found)
  pub sent : (word, kept) ≡ sent_by sends slot due found

-- an output of a source whose sends are kept is loaded; an empty cell changes nothing
abbrev pub IsDone : ends.TransmitterEnd → List Recent → ℕ → Option Due → Option ℕ → ends.TransmitterEnd → List Recent → Type 0
IsDone old sends slot None word new kept = (word ≡ None) × (new ≡ old) × (kept ≡ sends)
IsDone old sends slot (Some due) word new kept = due.source < length sends → IsLoaded old sends slot due word new kept

-- a receiver was met, and the loads still agree with the words of the other receivers
abbrev pub KeepsOthers : Transmitting → ℕ → Transmitting → Type 0
KeepsOthers old receiver new = OthersStayAgreed old.transmitter.at.station receiver old.transmitter.loads new.transmitter.loads
