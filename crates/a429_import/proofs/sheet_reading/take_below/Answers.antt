use Rattle.a429_import.proofs.SheetReading.{below_taken}
use Rattle.a429_import.proofs.sheet_reading.take_below.Goals as goal

pub returns : goal.returns
returns c = λ lines known. below_taken c.args.options c.args.heading.now.line c.args.read.now _ lines c.args.line c.in_ok-filled.filled c.in_ok-filled.ensures c.in_ok-take_keyed.ensures known
