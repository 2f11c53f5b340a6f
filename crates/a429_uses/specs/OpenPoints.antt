-- A station whose threads are started for it, with a gate that ends no loop (vocabulary of contracts).
use Rattle.std.specs.Prelude.{⊤}
use Rattle.a429_workers.specs.Gates.{GatePoints}

-- a gate that lets every loop go on
abbrev pub open_points : GatePoints
open_points = record { passes = λ _. ⊤; shuts = λ _. ⊥; asked = λ _ _ _. ⊤; told = λ _ _. ⊤ }
