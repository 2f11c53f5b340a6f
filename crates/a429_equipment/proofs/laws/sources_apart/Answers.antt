use Rattle.a429_equipment.proofs.Ranges.{one_accepts}
use Rattle.a429_equipment.proofs.laws.sources_apart.Goals as goal

pub returns : goal.returns
returns c = one_accepts c.args.equipment.now c.rows_are_sound.ensures
