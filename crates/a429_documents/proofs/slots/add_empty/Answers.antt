use Rattle.a429_documents.proofs.slots.add_empty.Goals as goal

pub returns : goal.returns
returns c = rw (c.as_str.ensures, c.number.ensures, c.start_cell.ensures, c.number-2.ensures) at c.add.ensures
