use Rattle.a429_documents.specs.SlotNames.{row_enum}
use Rattle.a429_documents.proofs.Ranges.{three}
use Rattle.a429_documents.proofs.slots.header.names.put_enum.Goals as goal

pub returns : goal.returns
unfolding row_enum
returns g c = three c.args.text.now c.put.new.self c.put_lines.new.text c.put_count_line.new.text _ _ _ c.put.ensures c.put_lines.ensures c.put_count_line.ensures
