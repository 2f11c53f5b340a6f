use Rattle.std.proofs.Common.{◌≡◌, map}
use Rattle.std.specs.List.{range_with_len}
use Rattle.a429_pack.specs.Demands.{greatest}
use Rattle.a429_documents.specs.Limits.{buses_from}
use Rattle.a429_documents.specs.Load.{shares_of}
use Rattle.a429_documents.proofs.load.limit.buses_within.Given as goal

abbrev pub invariant-loop-digits : goal.invariant-loop-digits
invariant-loop-digits l = l.buses ≡ greatest (map (buses_from l.capacity (shares_of l.table)) (range_with_len 0 l.digits))
