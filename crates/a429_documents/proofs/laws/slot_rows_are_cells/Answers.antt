use Rattle.a429_documents.proofs.SlotCells.{slot_rows_are_cells}
use Rattle.a429_documents.proofs.laws.slot_rows_are_cells.Goals as goal

pub returns : goal.returns
returns c = slot_rows_are_cells
