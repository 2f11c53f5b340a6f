use Rattle.csv.specs.Records.{fields_of}
use Rattle.a429_import.proofs.ImportNotes.{has_fault}
use Rattle.a429_import.proofs.notes.fault_of.Goals as goal

pub returns-in-None : goal.returns-in-None
returns-in-None c = λ none. has_fault (fields_of c.args.heading.now.line.fields) c.args.line.now c.in-None.ensures none
