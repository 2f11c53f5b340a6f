-- A station that a program in C holds (vocabulary of contracts).
use Rattle.a429_core.specs.MachineStates.{MachineState}
use Rattle.a429_console.specs.Names.{Naming}

-- a station in operation, with the names of its table
pub record Held : Type 0 where
  pub state : MachineState
  pub names : Naming
