use Rattle.std.proofs.Common.{◌∙◌, ap, arith, map}
use Rattle.std.proofs.lemmas.List.{take_all}
use Rattle.a429_pack.specs.Demands.{exponent_of}
use Rattle.a429_pack.specs.Kept.{padded}
use Rattle.a429_slots.proofs.Columns.{mapped_more}
use Rattle.a429_slots.proofs.layout.periods_in.Goals as goal

pub loop-number-preserved : goal.loop-number-preserved
loop-number-preserved g c =
    mapped_more 0 g.row.N exponent_of c.loop-number.periods c.args.demands.now c.loop-number.number c.exponent.result c.index-demands-number.result
    (omega arith) (omega arith) c.loop-number.invariant (c.exponent.ensures ∙ ap exponent_of c.index-demands-number.is)

pub returns : goal.returns
returns g c = c.loop-number.invariant ∙ ap (λ ds. padded 0 g.row.N (map exponent_of ds)) (take_all c.loop-number.number c.args.demands.now (omega arith))
