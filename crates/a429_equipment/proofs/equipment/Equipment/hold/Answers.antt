use Rattle.a429_equipment.proofs.Groups.{hold_of_output, output_within, outputs_within}
use Rattle.a429_equipment.proofs.equipment.Equipment.hold.Goals as goal

pub index-requires : goal.index-requires
index-requires c = outputs_within c.self.inside.rows c.args.self.now c.args.group c.self.view_is c.requires.group c.self.invariant.sound

pub index-requires-2 : goal.index-requires-2
index-requires-2 c = output_within c.self.inside.rows c.args.self.now c.args.group c.self.view_is c.requires.group c.self.invariant.sound c.index.result.now c.index.ensures c.args.output c.requires.output

pub returns : goal.returns
returns c = record { hold = hold_of_output c.self.inside.rows c.args.self.now c.args.group c.self.view_is c.requires.group c.self.invariant.sound c.index.result.now c.index.ensures c.args.output c.index-2.result.now c.requires.output c.index-2.ensures }
