-- What a sink of a bus took (vocabulary of contracts).
use Rattle.std.specs.Prelude.{ℕ, List, [], ◌∷◌, Result, Ok, Err, ◌+◌, ◌-◌, ◌^◌, min}
use Rattle.a429_workers.specs.declared.cells.Sent.{Sent}

-- an answer says that the cell was taken, or nothing
abbrev pub taken_by : {A E : Type 0} → Sent → Result A E → List Sent
taken_by sent (Ok done) = sent ∷ []
taken_by sent (Err fault) = []

-- the count of cells after an answer: it rises by one at a cell that is taken and at no other, and stays at the last value of 64 bits
abbrev pub counted_by : {A E : Type 0} → ℕ → Result A E → ℕ
counted_by n (Ok done) = min (n + 1) (2 ^ 64 - 1)
counted_by n (Err fault) = n

-- the count of failures after an answer: it rises by one at a fault and at no other, and stays at the last value of 64 bits
abbrev pub failures_by : {A E : Type 0} → ℕ → Result A E → ℕ
failures_by n (Ok done) = n
failures_by n (Err fault) = min (n + 1) (2 ^ 64 - 1)

-- a sink in memory: the cells that it took, and how often it failed
pub record SinkRecord : Type 0 where
  pub sent : List Sent
  pub failures : ℕ
