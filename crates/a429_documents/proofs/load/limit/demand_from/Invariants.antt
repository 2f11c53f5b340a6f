use Rattle.std.proofs.Common.{◌≡◌, ◌≤◌, ◌*◌, take}
use Rattle.a429_documents.specs.Limits.{demand_from}
use Rattle.a429_documents.specs.Load.{shares_of}
use Rattle.a429_documents.proofs.load.limit.demand_from.Given as goal

abbrev pub invariant-loop-output : goal.invariant-loop-output
invariant-loop-output l = (l.demand ≡ demand_from l.size (take l.output (shares_of l.table))) × (l.demand ≤ l.output * 8192)
