use Rattle.std.proofs.Common.{refl}
use Rattle.a429_import.proofs.SheetReading.{heading_taken}
use Rattle.a429_import.proofs.sheet_reading.take_heading.Goals as goal

pub returns-clause-read : goal.returns-clause-read
returns-clause-read c = λ options nothing. heading_taken options c.of.result.line c.in_ok-named.named c.args.read.now _ c.of.ensures c.heading_fault-fault.ensures refl refl refl refl nothing
