use Rattle.std.proofs.Common.{◌∙◌, ap, sym}
use Rattle.a429_equipment.specs.Limits.{count_bits}
use Rattle.a429_slots.specs.Tables.{PlanTable, groups_of}
use Rattle.a429_c.specs.SlotTables.{newest_tables, tables_in_force}
use Rattle.a429_c.proofs.KeptTables.{arrive_same}
use Rattle.a429_c.proofs.machine.Machine.arrive.Goals as goal

pub invariant_of-self : goal.invariant_of-self
invariant_of-self c =
    let S = arrive_same count_bits c.self.inside.state c.args.receiver c.args.raw in (
      c.self.invariant.0 ∙ (sym S.groups ∙ ap tables_in_force (sym c.arrive.ensures.after)),
      c.self.invariant.1 ∙ (ap (λ (p : PlanTable). groups_of p) (sym S.newest) ∙ ap newest_tables (sym c.arrive.ensures.after)),
    )
