use Rattle.a429_judge.proofs.Unsent.{greatest_more}
use Rattle.a429_judge.proofs.recordings.last_source.Goals as goal

pub loop-list-preserved : goal.loop-list-preserved
loop-list-preserved c =
    greatest_more c.args.duties.now c.loop-list.list-index c.list-item.result c.loop-list.greatest c.greatest_source-greatest.result c.deref.result.now c.loop-list-test.true c.list-item.is c.deref.ensures.value
    c.greatest_source-greatest.ensures.least c.greatest_source-greatest.ensures.sources c.loop-list.invariant
