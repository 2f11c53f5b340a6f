use Rattle.a429_documents.specs.SlotHeader.{header_start}
use Rattle.a429_documents.proofs.Ranges.{three}
use Rattle.a429_documents.proofs.slots.header.put_head.Goals as goal

pub returns : goal.returns
unfolding header_start
returns c = three c.args.text.now c.put.new.self c.put-2.new.self c.put-3.new.self _ _ _ c.put.ensures c.put-2.ensures c.put-3.ensures
