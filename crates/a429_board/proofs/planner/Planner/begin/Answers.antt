use Rattle.a429_board.proofs.Showing.{starts}
use Rattle.a429_board.proofs.planner.Planner.begin.Goals as goal

pub new-requires-clause-rule : goal.new-requires-clause-rule
new-requires-clause-rule g c = starts record { front = c.copied.result }
