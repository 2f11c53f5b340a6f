use Rattle.std.proofs.Common.{◌∙◌, sym, subst, ap}
use Rattle.std.specs.Prelude.{Ok}
use Rattle.a429_equipment.specs.Sound.{IsSound}
use Rattle.a429_equipment.specs.TableRecord.{TableRecord}
use Rattle.a429_slots.specs.Planned.{IsPlanOf}
use Rattle.a429_callers.proofs.OwnPlans.{own}
use Rattle.a429_callers.proofs.conclusions.own_texts.own_text_checked.Goals as goal

pub returns : goal.returns
returns c =
    let planned = c.in-Ok-of.ensures.planned in
    own c.args.table.now c.deref.result.now c.in-Ok-of.proposal.station c.in-Ok-of.proposal.plan c.check.result c.own_text_is_fewest.ensures
    (c.in-Ok.ensures ∙ ap Ok (sym planned.0)) (subst IsSound (sym planned.0) c.rows_are_sound.ensures)
    (subst (λ (e : TableRecord). IsPlanOf e c.in-Ok-of.proposal.plan) (sym planned.0) planned.1) (c.deref.ensures.value ∙ c.in-Ok-plan_text.ensures) c.check.ensures.answer c.check.ensures.fault
