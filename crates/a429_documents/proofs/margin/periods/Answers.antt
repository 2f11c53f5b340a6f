use Rattle.std.proofs.Common.{◌≡◌, ◌<◌, arith, length, subst, ℕ}
use Rattle.std.specs.Prelude.{Some}
use Rattle.a429_slots.specs.Tables.{outputs_of, place_of}
use Rattle.a429_documents.proofs.Margins.{period_more}
use Rattle.a429_documents.proofs.margin.periods.Goals as goal

pub loop-output-preserved : goal.loop-output-preserved
loop-output-preserved c =
    let below : c.loop-output.output < length (outputs_of c.args.table.now) = omega (arith, c.loop-output-test.true, c.outputs-output-end.ensures.value) in
    period_more c.args.table.now c.loop-output.periods c.push.new.self c.loop-output.output c.place.result below (subst (λ (o : ℕ). place_of c.args.table.now o ≡ Some c.place.result) c.new.ensures c.place.ensures.place) c.loop-output.invariant c.push.ensures
