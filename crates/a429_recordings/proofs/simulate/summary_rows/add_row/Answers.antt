use Rattle.a429_recordings.proofs.simulate.summary_rows.add_row.Goals as goal

pub returns : goal.returns
returns c = rw (c.number_cell.ensures, c.number_cell-2.ensures, c.number_cell-3.ensures) at c.add.ensures
