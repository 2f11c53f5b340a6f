-- What lists of calls with one call more are (vocabulary of contracts).
use Rattle.std.specs.Prelude.{◌≡◌, ◌++◌, ◌∷◌, [], ℕ, List}
use Rattle.a429_slots.specs.Tables.{SlotTable}
use Rattle.a429_workers.specs.Calls.{Call, GroupState, IsLawful, AreLawful, after, state_after, loads_in, loads_of}

-- lawful calls stay lawful with one more call that is lawful in the state after them
abbrev pub LawfulCallsGrow : Type 0
LawfulCallsGrow =
    (g : ℕ) (p : SlotTable) (s : GroupState) (calls : List Call) (c : Call)
    → AreLawful g p s calls → IsLawful g p (state_after g p s calls) c → AreLawful g p s (calls ++ c ∷ [])

-- the state after all calls is the one to which the last call leads from the state after the others
abbrev pub LastCallLeads : Type 0
LastCallLeads =
    (g : ℕ) (p : SlotTable) (s : GroupState) (calls : List Call) (c : Call)
    → state_after g p s (calls ++ c ∷ []) ≡ after g p (state_after g p s calls) c

-- their loads have those of the last one at their end
abbrev pub LastCallLoads : Type 0
LastCallLoads = (calls : List Call) (c : Call) → loads_of (calls ++ c ∷ []) ≡ loads_of calls ++ loads_in c
