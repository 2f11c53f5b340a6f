use Rattle.std.proofs.Common.{◌∙◌, ap, sym}
use Rattle.a429_c.specs.SlotTables.{newest_tables, tables_in_force}
use Rattle.a429_c.proofs.KeptTables.{publish_groups, publish_left, publish_taken}
use Rattle.a429_c.proofs.machine.Machine.publish.Goals as goal

pub invariant_of-self : goal.invariant_of-self
invariant_of-self c =
    let v = c.self.inside.state in let q = c.args.proposal.now in let R = c.publish-answer in (
      c.self.invariant.0 ∙ (sym (publish_groups v q) ∙ ap tables_in_force (sym R.ensures.after)),
      c.requires ∙ (publish_taken v q c.in-Published.plan R.result c.in-Published.is R.ensures.answer ∙ ap newest_tables (sym R.ensures.after)),
    )

pub invariant_of-self-in-Accepted-1 : goal.invariant_of-self-in-Accepted-1
invariant_of-self-in-Accepted-1 c =
    let v = c.self.inside.state in let q = c.args.proposal.now in let R = c.publish-answer in (
      c.self.invariant.0 ∙ (sym (publish_groups v q) ∙ ap tables_in_force (sym R.ensures.after)),
      c.self.invariant.1 ∙ (publish_left v q R.result c.in_default.not-Published R.ensures.answer ∙ ap newest_tables (sym R.ensures.after)),
    )
