use Rattle.a429_import.proofs.SheetReading.{keyed_more}
use Rattle.a429_import.proofs.sheet_reading.take_keyed.Goals as goal

pub returns : goal.returns
returns c = λ lines known.
    keyed_more c.args.makes_names c.args.heading.now.line c.args.line.now c.put_keyed.new.room.line c.args.read.now c.take_line-2.new.read lines c.if-not-makes_names.false c.in_ok-put_keyed.ensures c.take_line-2.ensures known
