use Rattle.std.proofs.Common.{codes}
use Rattle.toml.specs.View.{view}
use Rattle.a429_table.specs.Faults.{repeats_name}
use Rattle.a429_table.specs.Names.{name_of}
use Rattle.a429_table.specs.Stops.{table_of}
use Rattle.a429_table.specs.Tree.{rows_at}
use Rattle.a429_table.specs.Walk.{earlier}
use Rattle.a429_table.proofs.NameNumbers.{named_before}
use Rattle.a429_table.proofs.names.repeats_name.Goals as goal

pub returns-in-Receiver : goal.returns-in-Receiver
unfolding repeats_name earlier
returns-in-Receiver c =
    rw (c.in-Receiver.is, c.is_below.ensures, c.receiver.ensures, c.name_of.ensures) (named_before (name_of (view c.args.stop.now.value.now)) c.in-Receiver.row (rows_at (codes "receiver") (table_of c.args.index.now)))

pub returns-in-Source : goal.returns-in-Source
unfolding repeats_name earlier
returns-in-Source c =
    rw (c.in-Source.is, c.is_below-in-Source.ensures, c.source.ensures, c.name_of-in-Source.ensures) (named_before (name_of (view c.args.stop.now.value.now)) c.in-Source.row (rows_at (codes "source") (table_of c.args.index.now)))

pub returns-in-Group : goal.returns-in-Group
unfolding repeats_name earlier
returns-in-Group c =
    rw (c.in-Group.is, c.is_below-in-Group.ensures, c.group.ensures, c.name_of-in-Group.ensures) (named_before (name_of (view c.args.stop.now.value.now)) c.in-Group.row (rows_at (codes "group") (table_of c.args.index.now)))
