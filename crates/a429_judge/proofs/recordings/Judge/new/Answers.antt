use Rattle.std.proofs.Common.{refl, subst, List, ap, length}
use Rattle.a429_judge.specs.declared.duties.Duty.{Duty}
use Rattle.a429_judge.specs.Keeping.{AreAllBelow}
use Rattle.a429_judge.specs.Recordings.{lists_of}
use Rattle.a429_judge.proofs.Unsent.{judge_new, outputs_unsent}
use Rattle.a429_judge.proofs.recordings.Judge.new.Goals as goal

pub invariant_of-result : goal.invariant_of-result
invariant_of-result c =
    rw (c.new.ensures, c.new-2.ensures)
    (judge_new (lists_of c.args.duties.items) c.in_ok-empty_groups.field-0.items c.in_ok-accepted.accepted.items c.requires c.in_ok-empty_groups.ensures c.in_ok-accepted.ensures.empty
    (subst (λ (ds : List (List Duty)). AreAllBelow (length c.in_ok-accepted.accepted.items) ds) (ap lists_of c.deref.ensures.value) c.in_ok-accepted.ensures.below))

pub returns : goal.returns
returns c = rw (outputs_unsent (lists_of c.args.duties.items) c.in_ok-empty_groups.field-0.items c.in_ok-empty_groups.ensures, c.new.ensures, c.new-2.ensures) refl
