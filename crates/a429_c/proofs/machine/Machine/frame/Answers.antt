use Rattle.std.proofs.Common.{◌∙◌, List, ap, sym}
use Rattle.a429_slots.specs.Tables.{PlanTable, SlotTable, groups_of}
use Rattle.a429_c.specs.SlotTables.{followed, newest_tables, tables_in_force}
use Rattle.a429_c.proofs.KeptTables.{frame_changed, frame_newest, frame_stays}
use Rattle.a429_c.proofs.machine.Machine.frame.Goals as goal

pub invariant_of-self : goal.invariant_of-self
invariant_of-self c =
    let v = c.self.inside.state in let g = c.args.group in (
      c.follow.ensures ∙ (ap (λ (ts : List SlotTable). followed ts c.deref.result.now g) c.self.invariant.0
          ∙ (ap (λ (n : List SlotTable). followed (tables_in_force v) n g) (c.deref.ensures.value ∙ c.self.invariant.1)
          ∙ (frame_changed v g c.in-Changed.plan c.frame-answer.result c.in-Changed.is c.frame-answer.ensures.answer ∙ ap tables_in_force (sym c.frame-answer.ensures.after)))),
      c.self.invariant.1 ∙ (ap (λ (p : PlanTable). groups_of p) (sym (frame_newest v g)) ∙ ap newest_tables (sym c.frame-answer.ensures.after)),
    )

pub invariant_of-self-in_default : goal.invariant_of-self-in_default
invariant_of-self-in_default c =
    let v = c.self.inside.state in let g = c.args.group in (
      c.self.invariant.0 ∙ (frame_stays v g c.frame-answer.result c.in_default.not-Changed c.frame-answer.ensures.answer ∙ ap tables_in_force (sym c.frame-answer.ensures.after)),
      c.self.invariant.1 ∙ (ap (λ (p : PlanTable). groups_of p) (sym (frame_newest v g)) ∙ ap newest_tables (sym c.frame-answer.ensures.after)),
    )
