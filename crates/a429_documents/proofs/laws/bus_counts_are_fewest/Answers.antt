use Rattle.a429_documents.specs.Lint.{bus_count}
use Rattle.a429_documents.proofs.BusCounts.{counted}
use Rattle.a429_documents.proofs.laws.bus_counts_are_fewest.Goals as goal

pub returns : goal.returns
returns c = λ exponents some. c.fewest_by_demand.ensures.carried exponents (bus_count exponents) some (counted exponents some)
