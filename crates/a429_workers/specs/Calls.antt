-- What a group's transmitter is asked for and answers, call by call, and when that is lawful: in the words in which the answers of the machine are
-- defined, with what was loaded in the place of what was accepted (vocabulary of contracts).
use Rattle.std.specs.Prelude.{◌≡◌, ◌+◌, ◌++◌, ◌∷◌, [], ⊤, ℕ, List, Option, Some, None, slice_get, unwrap_or, flat_map, if◌then◌else◌, nat_lt, option_map, option_and_then, option_to_list}
use Rattle.std.specs.Option.{option_map_or}
use mathlib.Core.List.{IsPrefix}
use Rattle.a429_equipment.specs.declared.loads.Load.{Load}
use Rattle.a429_slots.specs.Tables.{Placed, SlotTable, PlanTable, groups_of, cells_of, output_in}
use Rattle.a429_slots.specs.History.{AnsweredCell, last_of, sent_word}
use Rattle.a429_slots.specs.FrameStates.{FrameState, begun, next_cell, after_cell, fits_next, turned}

-- ---- calls

-- an answered cell: its bus, its slot counted from the station's first, the load that was made for it, and the word that was sent in it
pub record Carried : Type 0 where
  pub bus : ℕ
  pub slot : ℕ
  pub load : Option Load
  pub word : Option ℕ

-- the answer to a change: the number of the plan that was taken, or why none was
pub data Turn : Type 0 where
  Takes : ℕ → Turn
  -- not all cells of the frame were sent
  StaysMid : Turn
  -- 64 bits cannot count the slots of the next frame
  StaysSpent : Turn

-- a call with its answer
pub data Call : Type 0 where
  -- the next cell was asked for; none if the frame had no cell left
  Asks : Option Carried → Call
  -- a change to the newest plan was asked for; by then the watcher had seen these plans, the opening one first
  Turns : List PlanTable → Turn → Call
  -- a receiver was met: these loads were made, and nothing was sent
  Meets : List Load → Call

-- the loads that were made in calls, in order
abbrev pub loads_in : Call → List Load
loads_in (Asks c) = option_to_list (option_and_then (λ x. x.load) c)
loads_in (Turns plans t) = []
loads_in (Meets loads) = loads

abbrev pub loads_of : List Call → List Load
loads_of calls = flat_map loads_in calls

-- ---- the state after calls

-- the frame that the group is in and the number of its plan, the plans that were seen, and the cells of outputs that were answered
pub record GroupState : Type 0 where
  pub frame : FrameState
  pub number : ℕ
  pub seen : List PlanTable
  pub earlier : List AnsweredCell

-- before the first call: the first plan that was seen is in force, in which the group has the table p
abbrev pub before_calls : PlanTable → SlotTable → ℕ → GroupState
before_calls opened p first = record { frame = begun first p; number = opened.number; seen = opened ∷ []; earlier = [] }

-- ---- cells

-- the word that goes out for an output, by a load of its source after these earlier cells: as the machine has it of the last accepted word
abbrev pub word_by : List AnsweredCell → ℕ → Placed → Load → Option ℕ
word_by earlier slot output l = sent_word earlier slot output.source output.limits.hold output.limits.spacing (l.count, l.word)

abbrev pub word_of : List AnsweredCell → ℕ → Option Placed → Option Load → Option ℕ
word_of earlier slot (Some output) (Some l) = word_by earlier slot output l
word_of earlier slot _ _ = None

-- The answer is to the cell that is due. If the cell has an output, one load was made for it, of the output's source;
-- otherwise none was made. The word is what goes out by this load.
pub record IsAnswered (s : GroupState) (c : Carried) : Type 0 where
  pub cell : ℕ × ℕ
  pub due : next_cell s.frame ≡ Some cell
  pub bus : c.bus ≡ cell.0
  pub slot : c.slot ≡ s.frame.first + cell.1
  pub load : option_map (λ l. l.source) c.load ≡ option_map (λ o. o.source) (output_in s.frame.table cell.0 cell.1)
  pub word : c.word ≡ word_of s.earlier c.slot (output_in s.frame.table cell.0 cell.1) c.load

-- what an answered cell adds to the cells of outputs
abbrev pub answered_by : Carried → List AnsweredCell
answered_by c = option_map_or (λ l. record { slot = c.slot; source = l.source; count = l.count; word = c.word } ∷ []) c.load []

-- ---- changes

-- the number of the last of these plans, and its slot table of group g, whose opening one is p
abbrev pub number_of : List PlanTable → ℕ
number_of plans = option_map_or (λ q. q.number) (last_of plans) 0

abbrev pub table_of : ℕ → SlotTable → List PlanTable → SlotTable
table_of g p plans = option_map_or (λ q. unwrap_or (slice_get (groups_of q) g) p) (last_of plans) p

-- the answer to a change, if these plans were seen
abbrev pub turn : ℕ → SlotTable → GroupState → List PlanTable → Turn
turn g p s plans =
    if nat_lt s.frame.sent (cells_of s.frame.table) then StaysMid
    else (if fits_next s.frame (table_of g p plans) then Takes (number_of plans) else StaysSpent)

-- ---- lawful calls

abbrev pub IsLawful : ℕ → SlotTable → GroupState → Call → Type 0
IsLawful g p s (Asks (Some c)) = IsAnswered s c
IsLawful g p s (Asks None) = next_cell s.frame ≡ None
IsLawful g p s (Turns plans t) = IsPrefix s.seen plans × (t ≡ turn g p s plans)
IsLawful g p s (Meets loads) = ⊤

-- what a change leaves: only one that is taken begins a frame
abbrev pub after_turn : ℕ → SlotTable → GroupState → List PlanTable → Turn → GroupState
after_turn g p s plans (Takes n) = record s { frame = turned s.frame (table_of g p plans); number = n; seen = plans }
after_turn g p s plans StaysMid = record s { seen = plans }
after_turn g p s plans StaysSpent = record s { seen = plans }

-- what a call leaves
abbrev pub after : ℕ → SlotTable → GroupState → Call → GroupState
after g p s (Asks (Some c)) = record s { frame = after_cell s.frame; earlier = s.earlier ++ answered_by c }
after g p s (Asks None) = s
after g p s (Turns plans t) = after_turn g p s plans t
after g p s (Meets loads) = s

-- the state after calls, from this state
abbrev pub state_after : ℕ → SlotTable → GroupState → List Call → GroupState
state_after g p s [] = s
state_after g p s (c ∷ calls) = state_after g p (after g p s c) calls

-- each call is lawful in the state after those before it
abbrev pub AreLawful : ℕ → SlotTable → GroupState → List Call → Type 0
AreLawful g p s [] = ⊤
AreLawful g p s (c ∷ calls) = IsLawful g p s c × AreLawful g p (after g p s c) calls
