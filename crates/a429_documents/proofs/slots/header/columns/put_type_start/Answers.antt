use Rattle.a429_documents.specs.SlotColumns.{type_start}
use Rattle.a429_documents.proofs.Ranges.{three}
use Rattle.a429_documents.proofs.slots.header.columns.put_type_start.Goals as goal

pub returns : goal.returns
unfolding type_start
returns c = three c.args.text.now c.put.new.self c.put_group_array.new.text c.put-2.new.self _ _ _ c.put.ensures c.put_group_array.ensures c.put-2.ensures
