use Rattle.a429_board.proofs.Showing.{admits, forks, merges}
use Rattle.a429_board.proofs.planner.Planner.watcher.Goals as goal

pub reader-requires : goal.reader-requires
reader-requires c = admits

pub tell-requires : goal.tell-requires
tell-requires c = forks _ _

pub learn-requires-clause-rule : goal.learn-requires-clause-rule
learn-requires-clause-rule c = merges _ _ _ _
