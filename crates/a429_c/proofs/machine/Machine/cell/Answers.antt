use Rattle.std.proofs.Common.{◌∙◌, ap, sym}
use Rattle.a429_slots.specs.Tables.{PlanTable, groups_of}
use Rattle.a429_c.specs.SlotTables.{newest_tables, tables_in_force}
use Rattle.a429_c.proofs.KeptTables.{cell_same}
use Rattle.a429_c.proofs.machine.Machine.cell.Goals as goal

pub invariant_of-self : goal.invariant_of-self
invariant_of-self c =
    let S = cell_same c.self.inside.state c.args.group in (
      c.self.invariant.0 ∙ (sym S.groups ∙ ap tables_in_force (sym c.cell.ensures.after)),
      c.self.invariant.1 ∙ (ap (λ (p : PlanTable). groups_of p) (sym S.newest) ∙ ap newest_tables (sym c.cell.ensures.after)),
    )
