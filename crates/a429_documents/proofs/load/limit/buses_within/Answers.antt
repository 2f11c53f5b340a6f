use Rattle.std.proofs.Common.{◌≡◌, ◌∙◌, ap, sym, arith, ℕ, map}
use Rattle.std.specs.Prelude.{max}
use Rattle.std.specs.List.{range_with_len}
use Rattle.a429_pack.specs.Demands.{greatest}
use Rattle.a429_documents.specs.Limits.{buses_from}
use Rattle.a429_documents.specs.Load.{shares_of}
use Rattle.a429_documents.proofs.BusLoads.{greater_is, greatest_of_more}
use Rattle.a429_documents.proofs.Spreading.{buses_within_are}
use Rattle.a429_documents.proofs.load.limit.buses_within.Goals as goal

pub loop-digits-preserved : goal.loop-digits-preserved
loop-digits-preserved c =
    c.max-buses.ensures ∙ greater_is c.loop-digits.buses c.buses_from.result ∙ ap (λ (z : ℕ). max z c.buses_from.result) c.loop-digits.invariant
    ∙ ap (λ (z : ℕ). max (greatest (map (buses_from c.args.capacity (shares_of c.args.table.now)) (range_with_len 0 c.loop-digits.digits))) z) c.buses_from.ensures
    ∙ sym (greatest_of_more (buses_from c.args.capacity (shares_of c.args.table.now)) c.loop-digits.digits)

pub returns : goal.returns
returns c =
    let all : c.loop-digits.digits ≡ 14 = omega (arith, c.loop-digits-test.false) in
    buses_within_are c.args.capacity (shares_of c.args.table.now) c.loop-digits.digits c.loop-digits.buses all c.loop-digits.invariant
