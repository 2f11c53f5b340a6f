use Rattle.a429_core.proofs.InTurn.{each_in_turn, all_in_turn}
use Rattle.a429_core.proofs.laws.cells_are_answered_in_turn.Goals as goal

pub returns-clause-each : goal.returns-clause-each
returns-clause-each c = each_in_turn

pub returns-clause-all : goal.returns-clause-all
returns-clause-all c = all_in_turn
