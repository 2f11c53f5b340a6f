use Rattle.std.proofs.Common.{◌≡◌, ◌++◌, take}
use Rattle.a429_documents.specs.Buses.{heard_rows}
use Rattle.a429_documents.proofs.sheets.buses.add_receiver.Given as goal

abbrev pub invariant-loop-source : goal.invariant-loop-source
invariant-loop-source l = l.rows ≡ l.fn.rows ++ heard_rows (take l.source-index l.sources) l.number l.receiver
