-- Outputs as they are sorted (vocabulary of contracts).
use Rattle.std.specs.Prelude.{◌≡◌, ℕ, ◌+◌, ◌-◌, ◌^◌, List, [], ◌∷◌, map}
use Rattle.a429_pack.specs.declared.entry.Entry.{Entry}
use Rattle.a429_pack.specs.declared.demands.Demand.{Demand}
use Rattle.a429_pack.specs.Demands.{AreFit, IsLayoutOrder, demand_at, exponent_of}

-- what is sorted for an input
abbrev pub entry_of : ℕ → Demand → Entry
entry_of input d = record { exponent = exponent_of d; label = d.label; sdi = d.sdi; input = input }

abbrev pub entries_from : ℕ → List Demand → List Entry
entries_from input [] = []
entries_from input (d ∷ demands) = entry_of input d ∷ entries_from (input + 1) demands

abbrev pub inputs_of : List Entry → List ℕ
inputs_of entries = map (λ e. e.input) entries

-- how many slots of a frame of 2^frame slots each one has
abbrev pub demands_of : ℕ → List Entry → List ℕ
demands_of frame entries = map (λ e. 2 ^ (frame - e.exponent)) entries

-- the outputs of a group, all of them fit, in layout order
pub record AreInOrder (demands : List Demand) (entries : List Entry) : Type 0 where
  pub fit : AreFit demands
  pub order : IsLayoutOrder demands (inputs_of entries)
  pub each : entries ≡ map (λ i. entry_of i (demand_at demands i)) (inputs_of entries)
