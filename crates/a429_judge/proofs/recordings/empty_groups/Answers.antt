use Rattle.std.proofs.Common.{subst, sym, List, [], ◌∷◌, ◌++◌}
use Rattle.a429_judge.specs.declared.duties.Duty.{Duty}
use Rattle.a429_judge.specs.Keeping.{AreUnsent, Grouped}
use Rattle.a429_judge.specs.Recordings.{lists_of}
use Rattle.a429_judge.proofs.Unsent.{AreUnsent-push, lists_of-push}
use Rattle.a429_judge.proofs.recordings.empty_groups.Goals as goal

pub loop-list-preserved : goal.loop-list-preserved
loop-list-preserved c =
    subst (λ (ds : List (List Duty)). AreUnsent ds c.push.new.self.items) (sym (lists_of-push c.loop-list.yielded c.in-Some.list))
    (subst (λ (bs : List Grouped). AreUnsent (lists_of c.loop-list.yielded ++ c.in-Some.list.items ∷ []) bs) (sym c.in_ok-push.ensures.items)
    (AreUnsent-push (lists_of c.loop-list.yielded) c.loop-list.groups.items c.in-Some.list.items c.in_ok-new.field-0 c.in_ok-new.ensures c.loop-list.invariant))
