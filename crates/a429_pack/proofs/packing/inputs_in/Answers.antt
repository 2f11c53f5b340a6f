use Rattle.a429_pack.proofs.Entries.{inputs_more}
use Rattle.a429_pack.proofs.packing.inputs_in.Goals as goal

pub loop-place-preserved : goal.loop-place-preserved
loop-place-preserved g c = inputs_more g.row.N c.loop-place.inputs c.args.entries.now c.loop-place.place c.loop-place-test.true c.requires c.loop-place.invariant
