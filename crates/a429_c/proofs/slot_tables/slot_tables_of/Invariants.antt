use Rattle.std.proofs.Common.{◌≡◌, take}
use Rattle.a429_slots.specs.Tables.{groups_of}
use Rattle.a429_c.proofs.slot_tables.slot_tables_of.Given as goal

abbrev pub invariant-loop-group : goal.invariant-loop-group
invariant-loop-group l = l.tables.items ≡ take l.group (groups_of l.plan)
