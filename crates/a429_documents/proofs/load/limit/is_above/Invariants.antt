use Rattle.std.proofs.Common.{◌≡◌, ◌*◌, false, take}
use Rattle.std.specs.Prelude.{nat_lt}
use Rattle.std.specs.List.{list_any}
use Rattle.a429_documents.proofs.load.limit.is_above.Given as goal

abbrev pub invariant-loop-load : goal.invariant-loop-load
invariant-loop-load l = list_any (λ load. nat_lt (l.limit * l.frame) (100 * load)) (take l.load-index l.loads) ≡ false
