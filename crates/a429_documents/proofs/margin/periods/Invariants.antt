use Rattle.std.proofs.Common.{◌≡◌, map, take}
use Rattle.a429_slots.specs.Tables.{outputs_of}
use Rattle.a429_documents.proofs.margin.periods.Given as goal

abbrev pub invariant-loop-output : goal.invariant-loop-output
invariant-loop-output l = l.periods ≡ map (λ o. o.place.period) (take l.output (outputs_of l.table))
