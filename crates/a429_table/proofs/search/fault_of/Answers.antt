use Rattle.a429_table.specs.Stated.{stated}
use Rattle.a429_table.specs.Stops.{table_of}
use Rattle.a429_table.proofs.ShortNames.{repeats_kept}
use Rattle.a429_table.proofs.search.fault_of.Goals as goal

pub first_fault-requires-clause-repeats : goal.first_fault-requires-clause-repeats
first_fault-requires-clause-repeats c =
    let t = stated (table_of c.args.index.now) in
    repeats_kept t.sources t.outputs _ (rw (← c.requires.rows.sources, ← c.requires.rows.outputs) c.in_ok-repeats.ensures)
