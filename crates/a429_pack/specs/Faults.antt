-- Why a group has no layout (profile: docs/RULES.md, Plans).
use Rattle.std.specs.Prelude.{◌<◌, List, ⊤}
use Rattle.a429_pack.specs.declared.demands.Demand.{Demand}
use Rattle.a429_pack.specs.declared.demands.PackFault.{PackFault}
use Rattle.a429_pack.specs.declared.demands.PackFault.TheVariants.{NoMemory, Unfit, TooManyBuses}
use Rattle.a429_pack.specs.Demanded.{AreFewestBuses}
use Rattle.a429_pack.specs.Demands.{AreFit, IsFirstUnfitDemand, exponents_of}

-- an unfit output is named before buses are counted; the number in the fault is the fewest buses
abbrev pub IsPackFaultOf : List Demand → PackFault → Type 0
IsPackFaultOf demands (Unfit i) = IsFirstUnfitDemand demands i
IsPackFaultOf demands (TooManyBuses needed) = AreFit demands × (16 < needed) × AreFewestBuses (exponents_of demands) needed
IsPackFaultOf demands NoMemory = ⊤
