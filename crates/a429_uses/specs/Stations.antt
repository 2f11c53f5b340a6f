-- A station of one receiver and one group: its ends, what its threads did, and the origin of the words that it sent (vocabulary of contracts).
use Rattle.std.specs.Prelude.{◌≡◌, ℕ, List, [], Option, Some, Contains, IsTrue, length, slice_get}
use Rattle.std.specs.List.{AllByRecursion}
use Rattle.a429_equipment.specs.Arrivals.{accepts}
use Rattle.a429_equipment.specs.TableRecord.{TableRecord}
use Rattle.a429_equipment.specs.declared.rows.SourceRow.{SourceRow}
use Rattle.a429_board.specs.Lists.{Planning, beginner}
use Rattle.a429_values.specs.Ends.{ReceiverEnd, TransmitterEnd}
use Rattle.a429_workers.specs.Calls.{Call}
use Rattle.a429_workers.specs.Sends.{HasSent, with_cells}
use Rattle.a429_workers.specs.Transmitting.{IsKnownPlan, Outset, StandsForCalls, Transmitting}
use Rattle.a429_workers.specs.declared.cells.Sent.{Sent}

-- one receiver and one group
abbrev pub HasOneOfEach : TableRecord → Type 0
HasOneOfEach t = (length t.receivers ≡ 1) × (length t.groups ≡ 1)

-- ---- the origin of words

-- a source of the table accepts the word at the receiver, by its parity, its label, its SDI and the filters, and the line gave it
pub record IsWordOfLine (t : TableRecord) (given : List ℕ) (w : ℕ) : Type 0 where
  pub source : ℕ
  pub row : SourceRow
  pub there : slice_get t.sources source ≡ Some row
  pub accepted : IsTrue (accepts t row (0, w))
  pub gave : Contains given w

-- the cell is empty, or its word was given
abbrev pub HasWordOfLine : TableRecord → List ℕ → Sent → Type 0
HasWordOfLine t given s = (w : ℕ) → s.word ≡ Some w → IsWordOfLine t given w

-- the bus took cells, and each word in them was given
pub record TookWordsOfLine (t : TableRecord) (given : List ℕ) (before after : Option (List Sent)) : Type 0 where
  pub cells : List Sent
  pub took : after ≡ with_cells before cells
  pub words : AllByRecursion (HasWordOfLine t given) cells

-- ---- the ends, before anything was done

-- the ends of the current values: the receiver accepted nothing yet, and the transmitter loaded nothing
pub record AreFresh (t : TableRecord) (receiver : ReceiverEnd) (transmitter : TransmitterEnd) : Type 0 where
  pub station : transmitter.at.station ≡ t
  pub hub : receiver.at ≡ transmitter.at
  pub receiver_number : receiver.number ≡ 0
  pub nothing_accepted : receiver.accepted ≡ []
  pub group_number : transmitter.number ≡ 0
  pub nothing_loaded : transmitter.loads ≡ []

-- the group was asked for no cell yet; it has these ends of the current values and of a board
pub record GroupIsBegun (transmitter : TransmitterEnd) (planner : Planning) (group : Transmitting) : Type 0 where
  pub outset : Outset
  pub nothing_loaded : outset.before ≡ []
  pub begins : StandsForCalls outset [] group
  pub first_cell : group.frame.sent ≡ 0
  pub values : group.transmitter ≡ transmitter
  pub watcher : group.watcher ≡ beginner planner

-- all ends of a station of this table; the plans of its board send sources of the table alone
pub record EndsAreReady (t : TableRecord) (receiver : ReceiverEnd) (group : Transmitting) (planner : Planning) : Type 0 where
  pub transmitter : TransmitterEnd
  pub fresh : AreFresh t receiver transmitter
  pub begun : GroupIsBegun transmitter planner group
  pub plans : AllByRecursion (IsKnownPlan t) planner.list

-- ---- what a group did

-- the group sent cells; its bus took all of them, or all but the last, at which it failed
pub record HasSentCells (old new : Transmitting) (before after : Option (List Sent)) : Type 0 where
  pub calls : List Call
  pub last : List Call
  pub sent : HasSent old new before after calls last
