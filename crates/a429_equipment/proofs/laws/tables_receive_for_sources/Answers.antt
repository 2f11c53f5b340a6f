use Rattle.a429_equipment.proofs.Receiving.{of_source, in_pieces}
use Rattle.a429_equipment.proofs.laws.tables_receive_for_sources.Goals as goal

pub returns-clause-words : goal.returns-clause-words
returns-clause-words c = of_source

pub returns-clause-pieces : goal.returns-clause-pieces
returns-clause-pieces c = in_pieces
