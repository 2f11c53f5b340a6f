use Rattle.std.proofs.Common.{◌∙◌, ◌++◌, ◌∷◌, [], List, ap, sym, arith, map, take}
use Rattle.std.proofs.lemmas.List.{take_all}
use Rattle.a429_slots.specs.Tables.{groups_of}
use Rattle.a429_slots.specs.FrameStates.{FrameState, begun}
use Rattle.a429_core.proofs.Opening.{fits_at, map_next}
use Rattle.a429_core.proofs.state.senders_of.Goals as goal

pub open-requires : goal.open-requires
open-requires c = fits_at c.args.first (groups_of c.args.plan.now) c.loop-group.group c.group.result.now c.group.ensures c.requires

pub loop-group-preserved : goal.loop-group-preserved
loop-group-preserved c =
    c.in_ok-push.ensures.items
    ∙ (ap (λ (ss : List FrameState). ss ++ c.in_ok-sender.sender ∷ []) c.loop-group.invariant
    ∙ (ap (λ (s : FrameState). map (begun c.args.first) (take c.loop-group.group (groups_of c.args.plan.now)) ++ s ∷ []) c.in_ok-sender.ensures
    ∙ sym (map_next c.args.first (groups_of c.args.plan.now) c.loop-group.group c.group.result.now c.group.ensures)))

pub returns : goal.returns
returns c = c.loop-group.invariant ∙ ap (λ ts. map (begun c.args.first) ts) (take_all c.loop-group.group (groups_of c.args.plan.now) (omega arith))
