use Rattle.std.proofs.Common.{rules, ◌<◌, ℕ, List, ap, length, ◌∙◌, set}
use Rattle.std.proofs.lemmas.List.{get_or_default}
use Rattle.a429_keep.specs.declared.blocks.Stand.{Stand}
use Rattle.a429_keep.proofs.Clearing.{cleared_more}
use Rattle.a429_keep.proofs.placing.clear.Goals as goal

pub loop-stand-preserved : goal.loop-stand-preserved
loop-stand-preserved c =
    let ys : List Stand = c.loop-stand.stands in
    let i : ℕ = c.loop-stand.stand-index in
    let within : i < length ys = search rules in
    let whole : i < length c.args.stands.now = c.loop-stand-test.true in
    ap (λ s. set ys i s) c.cleared.ensures
    ∙ cleared_more c.args.block c.args.stands.now ys i _ whole c.loop-stand.invariant (get_or_default ys i _ _ within)
