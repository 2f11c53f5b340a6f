use Rattle.std.proofs.Common.{[], sym, subst, ap}
use Rattle.std.specs.Prelude.{Ok}
use Rattle.a429_slots.specs.History.{Opening}
use Rattle.a429_core.specs.MachineStates.{MachineState, StandsForHistory}
use Rattle.a429_callers.proofs.conclusions.refusals.cell_after_refusal.Goals as goal

pub returns : goal.returns
returns c =
    let o : Opening = record { proposal = c.args.proposal; first = 0 } in
    let same = c.in-Ok-Refused.ensures.refused c.in-Ok-Refused.field-0-0 (ap Ok c.in-Ok-Refused.field-0-is) in
    c.step-2.ensures.answer o [] (subst (λ (v : MachineState). StandsForHistory 41 o [] v) (sym same) c.in-Ok.ensures.stands)
