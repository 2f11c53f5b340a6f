use Rattle.std.proofs.Common.{◌∙◌, List, Some, ap, sym}
use Rattle.a429_equipment.specs.declared.rows.OutputRow.{OutputRow}
use Rattle.a429_equipment.proofs.Groups.{outputs_are, outputs_within}
use Rattle.a429_equipment.proofs.equipment.Equipment.outputs.Goals as goal

pub index-requires : goal.index-requires
index-requires c = outputs_within c.self.inside.rows c.args.self.now c.args.group c.self.view_is c.requires c.self.invariant.sound

pub returns : goal.returns
returns c = record { rows = outputs_are c.self.inside.rows c.args.self.now c.args.group c.self.view_is c.requires c.self.invariant.sound c.index.result.now c.index.ensures ∙ ap (λ (os : List OutputRow). Some os) (sym c.as_slice.ensures.value) }
