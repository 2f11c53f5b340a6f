use Rattle.a429_judge.specs.Keeping.{AreUnsent}
use Rattle.a429_judge.specs.Recordings.{lists_of}
use Rattle.a429_judge.proofs.recordings.empty_groups.Given as goal

abbrev pub invariant-loop-list : goal.invariant-loop-list
invariant-loop-list l = AreUnsent (lists_of l.yielded) l.groups.items
