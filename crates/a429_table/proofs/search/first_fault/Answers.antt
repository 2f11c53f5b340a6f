use Rattle.std.proofs.Common.{◌∙◌}
use Rattle.a429_table.specs.Early.{late_kinds}
use Rattle.a429_table.specs.Stops.{table_of}
use Rattle.a429_table.proofs.EarlyFaults.{late_is_first}
use Rattle.a429_table.proofs.search.first_fault.Goals as goal

pub returns : goal.returns
unfolding late_kinds
returns c = (rw (c.deref.ensures.value, c.in_ok-stops.ensures) at c.first_of_kinds.ensures) ∙ late_is_first (table_of c.args.index.now) c.args.repeats.now c.requires.repeats c.requires.none_early
