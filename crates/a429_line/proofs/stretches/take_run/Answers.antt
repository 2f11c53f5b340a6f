use Rattle.std.proofs.Common.{sym}
use Rattle.a429_line.proofs.Passed.{takes_none, run_more}
use Rattle.a429_line.proofs.stretches.take_run.Goals as goal

pub loop-at-init : goal.loop-at-init
loop-at-init c = takes_none _ _ _ c.requires

pub loop-at-preserved : goal.loop-at-preserved
loop-at-preserved c = run_more _ _ _ _ _ _ _ c.loop-at.invariant c.loop-at-test.true c.if-len-lt-BITS.true (sym c.in-Some.ensures)
