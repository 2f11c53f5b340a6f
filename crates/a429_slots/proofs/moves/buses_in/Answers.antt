use Rattle.std.proofs.Common.{◌∙◌, ap, arith, map}
use Rattle.std.proofs.lemmas.List.{take_all}
use Rattle.a429_pack.specs.Kept.{padded}
use Rattle.a429_slots.specs.declared.group_plan.SlotPlace.{SlotPlace}
use Rattle.a429_slots.proofs.Columns.{mapped_more}
use Rattle.a429_slots.proofs.moves.buses_in.Goals as goal

pub loop-output-preserved : goal.loop-output-preserved
loop-output-preserved g c =
    mapped_more 0 g.row.N (λ (p : SlotPlace). p.bus) c.loop-output.buses c.args.places.now c.loop-output.output _ c.index-places-output.result
    (omega arith) (omega arith) c.loop-output.invariant (ap (λ (p : SlotPlace). p.bus) c.index-places-output.is)

pub returns : goal.returns
returns g c = c.loop-output.invariant ∙ ap (λ xs. padded 0 g.row.N (map (λ (p : SlotPlace). p.bus) xs)) (take_all c.loop-output.output c.args.places.now (omega arith))
