use Rattle.std.proofs.Common.{◌∙◌, ap, arith, map, refl}
use Rattle.std.proofs.lemmas.List.{take_all}
use Rattle.a429_equipment.specs.declared.rows.OutputRow.{OutputRow}
use Rattle.a429_pack.specs.Kept.{padded}
use Rattle.a429_slots.proofs.Columns.{mapped_more}
use Rattle.a429_slots.proofs.Rows.{blank}
use Rattle.a429_slots.proofs.layout.sources_in.Goals as goal

pub loop-number-preserved : goal.loop-number-preserved
loop-number-preserved g c =
    mapped_more 0 g.row.N (λ (r : OutputRow). r.source) c.loop-number.sources c.args.outputs.now c.loop-number.number _ blank (omega arith) (omega arith) c.loop-number.invariant refl

pub returns : goal.returns
returns g c = c.loop-number.invariant ∙ ap (λ rows. padded 0 g.row.N (map (λ (r : OutputRow). r.source) rows)) (take_all c.loop-number.number c.args.outputs.now (omega arith))
