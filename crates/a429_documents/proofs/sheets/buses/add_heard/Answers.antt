use Rattle.a429_documents.proofs.sheets.buses.add_heard.Goals as goal

pub returns : goal.returns
returns c = rw (c.as_str.ensures, c.value.ensures, c.sdi_cell.ensures, c.as_str-2.ensures) at c.add.ensures
