use Rattle.a429_documents.proofs.sheets.buses.add_sent.Goals as goal

pub returns : goal.returns
returns c =
    rw (← c.output.view_is) (
    rw (
      c.as_str.ensures,
      c.number.ensures,
      c.number-2.ensures,
      c.value.ensures,
      c.sdi_cell.ensures,
      c.as_str-2.ensures,
      c.slots_us.ensures,
      c.slots.ensures.value,
    ) at c.add.ensures
    )
