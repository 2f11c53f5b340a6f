use Rattle.std.proofs.Common.{◌≡◌, ◌+◌, arith}
use Rattle.std.specs.Prelude.{nat_lt, if◌then◌else◌}
use Rattle.std.proofs.lemmas.Grind.{common_steps}
use Rattle.a429_line.proofs.Passed.{takes_none, gap_more}
use Rattle.a429_line.proofs.stretches.take_gap.Goals as goal

pub loop-at-init : goal.loop-at-init
loop-at-init c = takes_none _ _ _ c.requires

pub loop-at-preserved : goal.loop-at-preserved
loop-at-preserved c =
    let count : c.if-nulls-lt-GAP.nulls ≡ (if nat_lt c.loop-at.nulls 4 then c.loop-at.nulls + 1 else c.loop-at.nulls) = grind (arith, common_steps) in
    gap_more _ _ _ _ _ _ c.loop-at.invariant c.loop-at-test.true c.if-bytes-at-eq46.true count
