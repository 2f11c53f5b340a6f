use Rattle.std.proofs.Common.{take}
use Rattle.std.specs.List.{AllZip}
use Rattle.a429_cert.specs.Due.{IsDueOutput}
use Rattle.a429_cert.proofs.due.due_outputs.Given as goal

abbrev pub invariant-loop-output : goal.invariant-loop-output
invariant-loop-output l = AllZip (IsDueOutput l.equipment l.rate) (take l.output l.rows) l.outputs.items
