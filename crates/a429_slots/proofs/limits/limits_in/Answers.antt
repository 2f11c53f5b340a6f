use Rattle.std.proofs.Common.{◌∙◌, ap, arith, map}
use Rattle.std.proofs.lemmas.List.{take_all}
use Rattle.a429_pack.specs.Kept.{padded}
use Rattle.a429_slots.specs.Asked.{limits_at}
use Rattle.a429_slots.specs.Tables.{unlimited}
use Rattle.a429_slots.proofs.Columns.{mapped_more}
use Rattle.a429_slots.proofs.Rows.{blank}
use Rattle.a429_slots.proofs.limits.limits_in.Goals as goal

pub loop-number-preserved : goal.loop-number-preserved
loop-number-preserved g c =
    mapped_more unlimited g.row.N (limits_at c.args.rate) c.loop-number.all c.args.outputs.now c.loop-number.number _ blank
    (omega arith) (omega arith) c.loop-number.invariant c.limits.ensures

pub returns : goal.returns
returns g c = c.loop-number.invariant ∙ ap (λ rows. padded unlimited g.row.N (map (limits_at c.args.rate) rows)) (take_all c.loop-number.number c.args.outputs.now (omega arith))
