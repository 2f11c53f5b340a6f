use Rattle.a429_documents.proofs.slots.add_filled.Goals as goal

pub returns : goal.returns
returns c =
    rw (← c.output.view_is) (
    rw (
      c.as_str.ensures,
      c.number.ensures,
      c.start_cell.ensures,
      c.number-2.ensures,
      c.value.ensures,
      c.sdi_cell.ensures,
      c.as_str-2.ensures,
      c.number-3.ensures,
      c.slots.ensures.value,
    ) at c.add.ensures
    )
