use Rattle.std.proofs.Common.{◌∙◌, ℕ, true, false, sym, subst}
use Rattle.a429_documents.specs.Limits.{AreFewestWithin}
use Rattle.a429_documents.specs.Load.{shares_of}
use Rattle.a429_documents.proofs.Spreading.{answered, fit_from_test}
use Rattle.a429_documents.proofs.load.limit.needed_buses.Goals as goal

pub returns-then-not-fit_each-clause-fewest : goal.returns-then-not-fit_each-clause-fewest
returns-then-not-fit_each-clause-fewest c =
    answered (shares_of c.args.table.now) c.args.capacity false c.requires.shares (sym c.fit_each.ensures ∙ c.if-not-fit_each.true)

pub buses_within-requires : goal.buses_within-requires
buses_within-requires c = record { fit = fit_from_test c.args.capacity (shares_of c.args.table.now) (sym c.fit_each.ensures ∙ c.if-not-fit_each.false) }

pub returns-clause-fewest : goal.returns-clause-fewest
returns-clause-fewest c =
    subst (λ (n : ℕ). AreFewestWithin (shares_of c.args.table.now) c.args.capacity n) (sym c.buses_within.ensures)
    (answered (shares_of c.args.table.now) c.args.capacity true c.requires.shares (sym c.fit_each.ensures ∙ c.if-not-fit_each.false))
