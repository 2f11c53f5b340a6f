-- How late a word goes out that a group's transmitter knows of, by the transmitter's calls (profile: docs/RULES.md, How late a word goes out).
use Rattle.std.specs.Prelude.{◌≡◌, ◌+◌, ◌<◌, ◌≤◌, ℕ, List, Some, length, slice_get, take}
use Rattle.std.specs.List.{AllByRecursion}
use Rattle.a429_equipment.specs.Arrivals.{SourcesAreApart}
use Rattle.a429_equipment.specs.declared.loads.Load.{Load}
use Rattle.a429_slots.specs.declared.group_plan.SlotPlace.{SlotPlace}
use Rattle.a429_slots.specs.Tables.{Placed, SlotTable, outputs_of}
use Rattle.a429_slots.specs.FrameStates.{FrameState}
use Rattle.a429_slots.specs.Proposed.{Proposed}
use Rattle.a429_slots.specs.History.{Opening}
use Rattle.a429_slots.specs.Spacing.{IsOwnPlan}
use Rattle.a429_core.specs.Latency.{HasOutput, MaySend, next_on, period_of}
use Rattle.a429_workers.specs.Calls.{Call, Carried, Asks, loads_of}
use Rattle.a429_workers.specs.Runs.{IsWorking, led_to}

-- the calls of a group's transmitter, from its opening on by this slot table
pub record GroupCalls : Type 0 where
  pub opening : Opening
  pub group : ℕ
  pub table : SlotTable
  pub calls : List Call

abbrev pub calls_of : Opening → ℕ → SlotTable → List Call → GroupCalls
calls_of o g p calls = record { opening = o; group = g; table = p; calls = calls }

-- the frame that the group is in after n of them, and the slot that is next on a bus then
abbrev pub frame_after : GroupCalls → ℕ → FrameState
frame_after made n = (led_to made.opening made.group made.table (take n made.calls)).frame

abbrev pub next_after : GroupCalls → ℕ → ℕ → ℕ
next_after made n bus = next_on (frame_after made n) bus

-- the slot table has an output of the source at this place, and each output of it may send, with a spacing of q slots at most
pub record HasSpacedOutput (t : SlotTable) (source : ℕ) (at : SlotPlace) (q : ℕ) : Type 0 where
  pub output : HasOutput t source at
  pub may : (n : ℕ) (x : Placed) → slice_get (outputs_of t) n ≡ Some x → x.source ≡ source → MaySend q x

-- the output stays: from h calls on and up to k calls, the table in force has it
abbrev pub StaysInCalls : GroupCalls → ℕ → ℕ → ℕ → SlotPlace → ℕ → Type 0
StaysInCalls made h k source at q = (n : ℕ) → h ≤ n → n ≤ k → HasSpacedOutput (frame_after made n).table source at q

-- in the first n calls, by a cell or by meeting a receiver, the source was loaded when it had accepted `count` words or more
pub record IsKnownBy (calls : List Call) (n source count : ℕ) : Type 0 where
  pub number : ℕ
  pub load : Load
  pub there : slice_get (loads_of (take n calls)) number ≡ Some load
  pub same : load.source ≡ source
  pub enough : count ≤ load.count

-- one of the first k calls is a cell in a slot before `end`, in which a word of the source goes out: its word number `count`, or a later one
pub record SendsKnown (calls : List Call) (k source count end : ℕ) : Type 0 where
  pub number : ℕ
  pub before : number < k
  pub cell : Carried
  pub asked : slice_get calls number ≡ Some (Asks (Some cell))
  pub high : cell.slot < end
  pub load : Load
  pub loaded : cell.load ≡ Some load
  pub same : load.source ≡ source
  pub enough : count ≤ load.count
  pub word : ℕ
  pub sent : cell.word ≡ Some word

-- Let an output have stayed for a period before call i. Then a word that the transmitter knew of by then has gone out,
-- or a later one of its source, before one period of slots has passed from there on.
abbrev pub GoOutInTime : GroupCalls → Type 0
GoOutInTime made =
    (h i k source : ℕ) (at : SlotPlace) (q count : ℕ) → h ≤ i → i ≤ k → k ≤ length made.calls → StaysInCalls made h k source at q
    → IsKnownBy made.calls i source count → 1 ≤ count → next_after made h at.bus + period_of at ≤ next_after made i at.bus
    → next_after made i at.bus + period_of at ≤ next_after made k at.bus
    → SendsKnown made.calls k source count (next_after made i at.bus + period_of at)

-- So it is in the calls of a working transmitter, if each plan is that of its own table.
abbrev pub KnownWordsGoOutInTime : Type 0
KnownWordsGoOutInTime =
    (C : ℕ) (o : Opening) (g : ℕ) (p : SlotTable) (later : List Proposed) (calls : List Call) (heard : ℕ → List (ℕ × ℕ))
    → IsWorking C o g p later calls heard → SourcesAreApart o.proposal.station.sources → IsOwnPlan o.proposal → AllByRecursion IsOwnPlan later
    → GoOutInTime (calls_of o g p calls)
