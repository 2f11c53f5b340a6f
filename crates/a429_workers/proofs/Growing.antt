-- Lists of calls go on by one call.
use Rattle.std.proofs.Common.{◌≡◌, List, [], ◌∷◌, ◌++◌, ◌∙◌, ap, refl, append-nil, ℕ}
use Rattle.std.proofs.lemmas.Grind.{flat_map-append}
use Rattle.a429_equipment.specs.declared.loads.Load.{Load}
use Rattle.a429_slots.specs.Tables.{SlotTable}
use Rattle.a429_workers.specs.Calls.{Call, GroupState, IsLawful, AreLawful, after, state_after, loads_in, loads_of}

pub lawful_push : (g : ℕ) (p : SlotTable) (s : GroupState) (calls : List Call) (c : Call) → AreLawful g p s calls → IsLawful g p (state_after g p s calls) c → AreLawful g p s (calls ++ c ∷ [])
lawful_push g p s [] c all is = (is, tt)
lawful_push g p s (d ∷ calls) c all is = (all.0, lawful_push g p (after g p s d) calls c all.1 is)

pub standing_push : (g : ℕ) (p : SlotTable) (s : GroupState) (calls : List Call) (c : Call) → state_after g p s (calls ++ c ∷ []) ≡ after g p (state_after g p s calls) c
standing_push g p s [] c = refl
standing_push g p s (d ∷ calls) c = standing_push g p (after g p s d) calls c

pub loads_push : (calls : List Call) (c : Call) → loads_of (calls ++ c ∷ []) ≡ loads_of calls ++ loads_in c
loads_push calls c = flat_map-append loads_in calls (c ∷ []) ∙ ap (λ (ls : List Load). loads_of calls ++ ls) (append-nil (loads_in c))
