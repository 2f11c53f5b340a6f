use Rattle.std.proofs.Common.{[]}
use Rattle.a429_judge.specs.Figures.{interval_to}
use Rattle.a429_judge.proofs.Firsts.{range_items}
use Rattle.a429_judge.proofs.figures.intervals.Goals as goal

pub loop-place-preserved : goal.loop-place-preserved
loop-place-preserved c =
    range_items (interval_to c.args.sends.now) c.loop-place.place [] c.loop-place.numbers c.add_interval.new.numbers c.loop-place.invariant c.add_interval.ensures
