use Rattle.a429_import.proofs.ImportTrees.{put_front}
use Rattle.a429_import.proofs.tables.put.Goals as goal

pub returns-in-Ok : goal.returns-in-Ok
returns-in-Ok c before = rw c.in-Ok.ensures.entries (put_front c.in_ok-from_str.field-0 c.args.key.now c.args.value c.args.table.now.entries c.in_ok-from_str.ensures.ok before)
