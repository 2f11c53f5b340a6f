use Rattle.a429_documents.proofs.MarkedCells.{marks_are_cells}
use Rattle.a429_documents.proofs.laws.marks_are_cells.Goals as goal

pub returns : goal.returns
returns c = marks_are_cells
