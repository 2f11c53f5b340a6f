use Rattle.a429_slots.proofs.SpacedTables.{spaced_table}
use Rattle.a429_slots.proofs.laws.planned_tables_are_spaced.Goals as goal

pub returns : goal.returns
returns c = spaced_table c.none_is_above_the_greatest.ensures
