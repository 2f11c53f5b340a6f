use Rattle.std.proofs.Common.{◌≡◌, ◌∙◌, ◌+◌, ◌++◌, ◌∷◌, [], ℕ, List, ap, map, sym, take}
use Rattle.std.specs.Prelude.{Some, slice_get}
use Rattle.std.proofs.lemmas.Option.{slice_get-map}
use Rattle.a429_word.proofs.Lists.{take_next}
use Rattle.a429_slots.specs.declared.group_plan.SlotPlace.{SlotPlace}
use Rattle.a429_slots.specs.Tables.{Placed, outputs_of, place_of}
use Rattle.a429_keep.proofs.stated.own_places.Goals as goal

pub loop-number-preserved : goal.loop-number-preserved
loop-number-preserved c =
    let n : ℕ = c.loop-number.number in
    let outputs : List Placed = outputs_of c.args.table.now in
    let place : place_of c.args.table.now n ≡ Some c.place.result = ap (place_of c.args.table.now) (sym c.new.ensures) ∙ c.place.ensures.place in
    let at : slice_get (map (λ (o : Placed). o.place) outputs) n ≡ Some c.place.result = slice_get-map (λ (o : Placed). o.place) outputs n ∙ place in
    let pushed : c.push.new.self.items ≡ c.loop-number.places.items ++ c.place.result ∷ [] = c.in_ok-push.ensures.items in
    let before : c.loop-number.places.items ++ c.place.result ∷ [] ≡ take n (map (λ (o : Placed). o.place) outputs) ++ c.place.result ∷ [] = ap (λ (ps : List SlotPlace). ps ++ c.place.result ∷ []) c.loop-number.invariant in
    let next : take (n + 1) (map (λ (o : Placed). o.place) outputs) ≡ take n (map (λ (o : Placed). o.place) outputs) ++ c.place.result ∷ [] = take_next (map (λ (o : Placed). o.place) outputs) n c.place.result at in
    pushed ∙ before ∙ sym next
