use Rattle.std.proofs.Common.{rules, ◌≡◌, true, false}
use Rattle.std.specs.Prelude.{Err}
use Rattle.a429_slots.specs.Proposed.{Proposed}
use Rattle.a429_slots.specs.Tables.{groups_of}
use Rattle.a429_slots.specs.FrameStates.{all_fit}
use Rattle.a429_slots.specs.declared.open_fault.OpenFault.TheVariants.{SlotsSpent}
use Rattle.a429_replay.proofs.FirstFrames.{plan_fits}
use Rattle.a429_replay.proofs.opening.open_machine.Goals as goal

pub unreachable-requires : goal.unreachable-requires
unreachable-requires c =
    let q : Proposed = c.args.proposal in
    let fits : all_fit 0 (groups_of q.plan) ≡ true = plan_fits q.station q.plan c.requires in
    let spent : c.open.result ≡ Err SlotsSpent = search rules in
    let unfit : all_fit 0 (groups_of q.plan) ≡ false = c.open.ensures.spent.0 spent in
    cc
