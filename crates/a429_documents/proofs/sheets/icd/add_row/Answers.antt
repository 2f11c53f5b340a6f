use Rattle.a429_documents.proofs.sheets.icd.add_row.Goals as goal

pub returns : goal.returns
returns c =
    rw (← c.output.view_is) (
    rw (
      c.as_str.ensures,
      c.number.ensures,
      c.as_str-2.ensures,
      c.receiver_name.ensures,
      c.label_cell.ensures,
      c.sdi_cell.ensures,
      c.number-2.ensures,
      c.number-3.ensures,
      c.number-4.ensures,
      c.slots_us.ensures,
      c.number-5.ensures,
      c.number-6.ensures,
      c.limit_cell.ensures,
      c.number-7.ensures,
      c.latency_us.ensures,
      c.slots-slots.ensures.value,
    ) at c.add.ensures
    )
