use Rattle.a429_documents.proofs.slots.board.add_sent.Goals as goal

pub returns : goal.returns
returns c =
    rw (← c.output.view_is) (
    rw (
      c.as_str.ensures,
      c.number.ensures,
      c.start_cell.ensures,
      c.value.ensures,
      c.sdi_cell.ensures,
      c.board_word.ensures,
    ) at c.add.ensures
    )
