use Rattle.a429_table.specs.Stops.{table_of}
use Rattle.a429_table.proofs.Soundness.{is_sound}
use Rattle.a429_table.proofs.reading.build_equipment.Goals as goal

pub of_rows-requires : goal.of_rows-requires
of_rows-requires c = rw c.in_ok-rows.ensures (is_sound (table_of c.args.index.now) c.requires.faultless)
