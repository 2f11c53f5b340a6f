use Rattle.a429_equipment.proofs.Groups.{group_within, rate_of_group}
use Rattle.a429_equipment.proofs.equipment.Equipment.group_rate.Goals as goal

pub index-requires : goal.index-requires
index-requires c = group_within c.self.inside.rows c.args.self.now c.args.group c.self.view_is c.requires

pub returns : goal.returns
returns c = record { rate = rate_of_group c.self.inside.rows c.args.self.now c.args.group c.self.view_is c.requires c.index.result.now c.index.ensures }
