-- The order in which a group's loop asks its gate and gives its sink cells (profile: gates are for tests of what runs at
-- once).
use Rattle.std.specs.Prelude.{◌≡◌, ◌+◌, ◌-◌, ◌^◌, ◌∷◌, [], ◌⊎◌, ℕ, zero, suc, Result, Ok, Err, IfOk, min, option_map}
use Rattle.a429_workers.specs.Gates.{GatePoints, point_after_cell, point_before_cell}
use Rattle.a429_workers.specs.Sends.{with_cells}
use Rattle.a429_workers.specs.declared.cells.Sent.{Sent}
use Rattle.a429_workers.specs.declared.sinks.BusSink as BusSink
use Rattle.a429_workers.specs.declared.sending.SendTotals.{SendTotals}
use Rattle.a429_workers.specs.declared.sending.SendFault.{SendFault}
use Rattle.a429_workers.specs.declared.sending.SendFault.TheVariants.{Gate, Sink, Change}

-- Cell n of group g: the gate was asked before it, and shown the sink as it was before; the sink took the cell; the gate
-- was asked after it, and shown the sink as it was then.
pub record IsCellInOrder {B : Type 0} (gate : GatePoints) (sink : BusSink.Ghosts B) (g n : ℕ) (before after : B) : Type 0 where
  pub first : gate.asked (point_before_cell g n) B before
  pub cell : Sent
  pub taken : sink.taken after ≡ with_cells (sink.taken before) (cell ∷ [])
  pub counted : sink.counted after ≡ option_map (λ k. min (k + 1) (2 ^ 64 - 1)) (sink.counted before)
  pub last : gate.asked (point_after_cell g n) B after

-- This number of cells, one after another, from cell n on. The sink is called for nothing else.
abbrev pub AreCellsInOrder : {B : Type 0} → GatePoints → BusSink.Ghosts B → ℕ → ℕ → ℕ → B → B → Type 0
AreCellsInOrder gate sink g n zero old new = new ≡ old
AreCellsInOrder {B} gate sink g n (suc many) old new = (s : B) × AreCellsInOrder gate sink g n many old s × IsCellInOrder gate sink g (n + many) s new

-- and then one more, before which the gate was asked, and which the sink did not take
pub record EndsAtSink {B : Type 0} (gate : GatePoints) (sink : BusSink.Ghosts B) (g n many : ℕ) (old new : B) : Type 0 where
  pub at : B
  pub cells : AreCellsInOrder gate sink g n many old at
  pub first : gate.asked (point_before_cell g (n + many)) B at
  pub left : sink.taken new ≡ with_cells (sink.taken at) []

-- the cells of a loop that ended with this answer
abbrev pub AreCellsUntil : {A B : Type 0} → GatePoints → BusSink.Ghosts B → ℕ → ℕ → ℕ → B → B → Result A SendFault → Type 0
AreCellsUntil gate sink g n many old new (Ok done) = AreCellsInOrder gate sink g n many old new
AreCellsUntil gate sink g n many old new (Err Gate) = AreCellsInOrder gate sink g n many old new
AreCellsUntil gate sink g n many old new (Err Change) = AreCellsInOrder gate sink g n many old new
AreCellsUntil gate sink g n many old new (Err Sink) = EndsAtSink gate sink g n many old new

-- the cells of a frame, by which the count of cells rose
pub record IsFrameInOrder {A B : Type 0} (gate : GatePoints) (sink : BusSink.Ghosts B) (g n later : ℕ) (old new : B) (answer : Result A SendFault) : Type 0 where
  pub many : ℕ
  pub counted : later ≡ n + many
  pub cells : AreCellsUntil gate sink g n many old new answer

-- the cells of a loop from its first on, which the totals count
pub record IsLoopInOrder {B : Type 0} (gate : GatePoints) (sink : BusSink.Ghosts B) (g : ℕ) (old new : B) (answer : Result SendTotals SendFault) : Type 0 where
  pub many : ℕ
  pub counted : IfOk answer (λ totals. totals.cells ≡ many)
  pub cells : AreCellsUntil gate sink g 0 many old new answer

-- One cell, by which the count of cells rose to `later`; or the gate ended the loop before it, or the sink did not take
-- it, and the count stayed.
abbrev pub IsCellUntil : {B : Type 0} → GatePoints → BusSink.Ghosts B → ℕ → ℕ → ℕ → B → B → Result (Unit {0}) SendFault → Type 0
IsCellUntil gate sink g n later old new (Ok done) = (later ≡ n + 1) × IsCellInOrder gate sink g n old new
IsCellUntil gate sink g n later old new (Err Gate) = ((later ≡ n) × (new ≡ old)) ⊎ ((later ≡ n + 1) × IsCellInOrder gate sink g n old new)
IsCellUntil gate sink g n later old new (Err Change) = ⊥
IsCellUntil {B} gate sink g n later old new (Err Sink) = (later ≡ n) × gate.asked (point_before_cell g n) B old × (sink.taken new ≡ with_cells (sink.taken old) [])
