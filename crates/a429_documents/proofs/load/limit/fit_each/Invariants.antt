use Rattle.std.proofs.Common.{◌≡◌, true, take}
use Rattle.std.specs.Prelude.{nat_le}
use Rattle.std.specs.List.{list_all}
use Rattle.a429_documents.specs.Load.{shares_of}
use Rattle.a429_documents.proofs.load.limit.fit_each.Given as goal

abbrev pub invariant-loop-output : goal.invariant-loop-output
invariant-loop-output l = list_all (λ d. nat_le d l.capacity) (take l.output (shares_of l.table)) ≡ true
