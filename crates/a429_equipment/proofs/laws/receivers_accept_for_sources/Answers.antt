use Rattle.a429_equipment.proofs.Ranges.{one_accepts}
use Rattle.a429_equipment.proofs.Receiving.{of_source, in_pieces}
use Rattle.a429_equipment.proofs.laws.receivers_accept_for_sources.Goals as goal

pub returns-clause-words : goal.returns-clause-words
returns-clause-words c = of_source c.args.equipment.now (one_accepts c.args.equipment.now c.rows_are_sound.ensures)

pub returns-clause-pieces : goal.returns-clause-pieces
returns-clause-pieces c = in_pieces c.args.equipment.now
