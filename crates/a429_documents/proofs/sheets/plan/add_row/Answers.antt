use Rattle.a429_documents.proofs.sheets.plan.add_row.Goals as goal

pub returns : goal.returns
returns c =
    rw (← c.group.view_is, ← c.output.view_is) (
    rw (
      c.number.ensures,
      c.version.ensures.version,
      c.as_str.ensures,
      c.number-2.ensures,
      c.number-3.ensures,
      c.frame.ensures.value,
      c.number-4.ensures,
      c.buses.ensures.value,
      c.number-5.ensures,
      c.demand.ensures,
      c.as_str-2.ensures,
      c.number-6.ensures,
      c.slots.ensures.value,
      c.number-7.ensures,
      c.number-8.ensures,
      c.limit_cell.ensures,
    ) at c.add.ensures
    )
