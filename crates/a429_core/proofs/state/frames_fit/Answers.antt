use Rattle.std.proofs.Common.{◌≡◌, ◌∙◌, ◌+◌, ◌^◌, ap, sym, arith, true, false}
use Rattle.std.specs.Prelude.{nat_lt}
use Rattle.std.proofs.lemmas.Bool.{lt-ltb, le-ltb}
use Rattle.std.proofs.lemmas.List.{take_all}
use Rattle.a429_slots.specs.Tables.{groups_of, frame_of}
use Rattle.a429_slots.specs.FrameStates.{all_fit}
use Rattle.a429_core.proofs.Opening.{fit_next, unfit_at}
use Rattle.a429_core.proofs.state.frames_fit.Goals as goal

pub returns-then-first-from : goal.returns-then-first-from
returns-then-first-from c =
    let past : nat_lt (c.args.first + frame_of c.group.result.now) (2 ^ 64) ≡ false = le-ltb (c.args.first + frame_of c.group.result.now) (2 ^ 64) (omega (arith, c.frame.ensures.value)) in
    sym (unfit_at c.args.first (groups_of c.args.plan.now) c.loop-group.group c.group.result.now c.group.ensures past)

pub loop-group-preserved : goal.loop-group-preserved
loop-group-preserved c =
    let fits : nat_lt (c.args.first + frame_of c.group.result.now) (2 ^ 64) ≡ true = lt-ltb (c.args.first + frame_of c.group.result.now) (2 ^ 64) (omega (arith, c.frame.ensures.value)) in
    fit_next c.args.first (groups_of c.args.plan.now) c.loop-group.group c.group.result.now c.group.ensures c.loop-group.invariant fits

pub returns : goal.returns
returns c = sym c.loop-group.invariant ∙ ap (all_fit c.args.first) (take_all c.loop-group.group (groups_of c.args.plan.now) (omega arith))
