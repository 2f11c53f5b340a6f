use Rattle.a429_documents.proofs.margin.add_wider.Goals as goal

pub returns : goal.returns
returns c =
    rw (← c.output.view_is) (
    rw (
      c.as_str.ensures,
      c.as_str-2.ensures,
      c.number.ensures,
      c.number-2.ensures,
      c.number-3.ensures,
      c.slots_us.ensures,
      c.yes_or_no.ensures,
      c.slots-from.ensures.value,
    ) at c.add.ensures
    )
