use Rattle.std.proofs.Common.{◌≡◌, ◌∙◌, ◌++◌, ◌∷◌, [], ℕ, List, ap, ap₂, arith, map, sym}
use Rattle.std.specs.List.{range_with_len}
use Rattle.std.proofs.lemmas.List.FromFn.{map-range_with_len_more}
use Rattle.a429_slots.specs.Tables.{placed_at}
use Rattle.a429_slots.specs.declared.group_plan.SlotPlace.{SlotPlace}
use Rattle.a429_keep.specs.Places.{place_at, start_at}
use Rattle.a429_keep.proofs.places.places_of.Goals as goal

pub loop-number-preserved : goal.loop-number-preserved
loop-number-preserved c =
    let f : ℕ → SlotPlace = λ o. place_at c.args.frame (placed_at c.args.table.now o).place.period (start_at c.args.stands.now o) in
    let o : ℕ = c.loop-number.number in
    let place : c.place_at.result ≡ f o = c.place_at.ensures ∙ ap₂ (λ (p s : ℕ). place_at c.args.frame p s) c.planned-period.ensures.period c.start_at.ensures in
    c.in_ok-push.ensures.items
    ∙ ap (λ (ps : List SlotPlace). ps ++ c.place_at.result ∷ []) c.loop-number.invariant
    ∙ ap (λ (p : SlotPlace). map f (range_with_len 0 o) ++ p ∷ []) place
    ∙ sym (map-range_with_len_more f 0 o o (omega arith))
