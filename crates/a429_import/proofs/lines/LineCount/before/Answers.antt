use Rattle.std.proofs.Common.{arith, refl}
use Rattle.a429_import.specs.LineCounts.{after_return}
use Rattle.a429_import.specs.RowLines.{ends_from}
use Rattle.a429_import.proofs.lines.LineCount.before.Goals as goal

pub loop-count-init : goal.loop-count-init
unfolding after_return ends_from
loop-count-init c = record { counted = record { within = omega arith; ended = refl; after = refl; few = omega arith }; before = omega arith; start = refl }
