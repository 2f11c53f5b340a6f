-- What the rows of `margin` are made of.
use Rattle.std.proofs.Common.{◌≡◌, ℕ, ◌+◌, ◌<◌, List, [], ◌∷◌, ◌++◌, length, map, take, Some, ap, append_assoc, sym, ◌∙◌}
use Rattle.std.specs.Prelude.{slice_get}
use Rattle.std.proofs.lemmas.List.{map-append}
use Rattle.a429_word.proofs.Lists.{take_next}
use Rattle.a429_slots.specs.declared.group_plan.SlotPlace.{SlotPlace}
use Rattle.a429_slots.specs.Tables.{Placed, SlotTable, placed_at, outputs_of, place_of}
use Rattle.a429_slots.proofs.Cells.{output_is}
use Rattle.a429_documents.proofs.PlannedGroups.{placed_there}

-- one more answer for an element, after others
pub added_more : {X Y : Type 0} (f : X → Y) (xs : List X) (k : ℕ) (x : X) (old now new : List Y) → slice_get xs k ≡ Some x → now ≡ old ++ map f (take k xs) → new ≡ now ++ f x ∷ []
    → new ≡ old ++ map f (take (k + 1) xs)
added_more {X} {Y} f xs k x old now new there so more =
    let longer : map f (take (k + 1) xs) ≡ map f (take k xs) ++ f x ∷ [] = ap (map f) (take_next xs k x there) ∙ map-append f (take k xs) (x ∷ []) in
    more ∙ ap (λ (ys : List Y). ys ++ f x ∷ []) so ∙ append_assoc old (map f (take k xs)) (f x ∷ []) ∙ ap (λ (ys : List Y). old ++ ys) (sym longer)

pub mapped_more : {X Y : Type 0} (f : X → Y) (xs : List X) (k : ℕ) (x : X) (old new : List Y) → slice_get xs k ≡ Some x → old ≡ map f (take k xs) → new ≡ old ++ f x ∷ [] → new ≡ map f (take (k + 1) xs)
mapped_more f xs k x old new there so now = added_more f xs k x [] old new there so now

-- one more period
pub period_more : (t : SlotTable) (ps new : List ℕ) (k : ℕ) (place : SlotPlace) → k < length (outputs_of t) → place_of t k ≡ Some place → ps ≡ map (λ o. o.place.period) (take k (outputs_of t))
    → new ≡ ps ++ place.period ∷ [] → new ≡ map (λ o. o.place.period) (take (k + 1) (outputs_of t))
period_more t ps new k place below at so now =
    let f : Placed → ℕ = λ o. o.place.period in
    now ∙ ap (λ (l : List ℕ). l ++ place.period ∷ []) so
    ∙ ap (λ (x : SlotPlace). map f (take k (outputs_of t)) ++ x.period ∷ []) (placed_there t k below place at)
    ∙ sym (ap (map f) (take_next (outputs_of t) k (placed_at t k) (output_is t k below)) ∙ map-append f (take k (outputs_of t)) (placed_at t k ∷ []))
