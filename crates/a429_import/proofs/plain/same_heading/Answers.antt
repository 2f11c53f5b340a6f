use Rattle.std.proofs.Common.{◌≡◌, ◌∙◌, ◌-◌, ◌<◌, ℕ, List, ap, arith, length, sym}
use Rattle.std.proofs.lemmas.List.{length-drop}
use Rattle.a429_import.proofs.SameLetters.{begins}
use Rattle.a429_import.proofs.plain.same_heading.Goals as goal

pub loop-left_before-smaller : goal.loop-left_before-smaller
loop-left_before-smaller c =
    let at = c.loop-left_before in
    let left : List ℕ = at.left.now in
    let some : 0 < length left = begins at.left_before left at.right_before at.right.now (sym c.begin_alike.ensures ∙ c.loop-left_before-test.true) in
    let len : length c.from_place.result.now ≡ length left - 1 = ap length c.from_place.ensures ∙ length-drop 1 left in
    let few = c.without_extra-left-in-loop-left_before.ensures.len in
    omega (arith, some, len, few)
