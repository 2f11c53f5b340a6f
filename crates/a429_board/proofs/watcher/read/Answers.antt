use Rattle.std.proofs.Common.{refl}
use Rattle.a429_board.proofs.Showing.{turns}
use Rattle.a429_board.proofs.watcher.read.Goals as goal

pub enter_as-requires : goal.enter_as-requires
enter_as-requires c x = turns _ _ x x refl
