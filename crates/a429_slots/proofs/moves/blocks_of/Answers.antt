use Rattle.std.proofs.Common.{◌≡◌, ◌∙◌, ◌++◌, ◌∷◌, [], ℕ, List, ap, arith, map, sym}
use Rattle.std.specs.List.{range_with_len}
use Rattle.std.proofs.lemmas.List.FromFn.{map-range_with_len_more}
use Rattle.a429_slots.specs.Moves.{block_of, place_in}
use Rattle.a429_slots.specs.declared.group_plan.SlotPlace.{SlotPlace}
use Rattle.a429_slots.specs.declared.moves.Block.{Block}
use Rattle.a429_slots.specs.Tables.{unplaced}
use Rattle.a429_slots.proofs.Columns.{one_value}
use Rattle.a429_slots.proofs.moves.blocks_of.Goals as goal

pub loop-output-preserved : goal.loop-output-preserved
loop-output-preserved c =
    let f : ℕ → Block = λ o. block_of c.args.frame o (place_in c.args.places.now o) in
    let o : ℕ = c.loop-output.output in
    let block : c.block_of.result ≡ f o = c.block_of.ensures
    ∙ ap (λ (p : SlotPlace). block_of c.args.frame o p) (c.index-places-output.is ∙ one_value c.args.places.now o c.index-places-output.result unplaced.place c.loop-output-test.true) in
    c.in_ok-push.ensures.items
    ∙ ap (λ (bs : List Block). bs ++ c.block_of.result ∷ []) c.loop-output.invariant
    ∙ ap (λ (b : Block). map f (range_with_len 0 o) ++ b ∷ []) block
    ∙ sym (map-range_with_len_more f 0 o o (omega arith))
