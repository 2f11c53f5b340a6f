use Rattle.a429_replay.proofs.PutLines.{Appends-same}
use Rattle.a429_cli.proofs.lines.reports.put_head.Goals as goal

pub returns-in-Columns-clause-put : goal.returns-in-Columns-clause-put
returns-in-Columns-clause-put g c = rw c.in-Columns.is (Appends-same _)
