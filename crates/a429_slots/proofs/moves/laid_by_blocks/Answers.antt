use Rattle.std.proofs.Common.{◌∙◌, ap, arith, map, refl}
use Rattle.std.proofs.lemmas.List.{take_all}
use Rattle.a429_pack.specs.Kept.{padded}
use Rattle.a429_slots.specs.Laid.{laid_by, nothing_laid}
use Rattle.a429_slots.proofs.Columns.{mapped_more}
use Rattle.a429_slots.proofs.moves.laid_by_blocks.Goals as goal

pub loop-place-preserved : goal.loop-place-preserved
loop-place-preserved g c =
    mapped_more nothing_laid g.row.N laid_by c.loop-place.laid c.args.blocks.now c.loop-place.place _ (record { begin = 0; end = 0; output = 0 }) (omega arith) (omega arith) c.loop-place.invariant refl

pub returns : goal.returns
returns g c = c.loop-place.invariant ∙ ap (λ xs. padded nothing_laid g.row.N (map laid_by xs)) (take_all c.loop-place.place c.args.blocks.now (omega arith))
