use Rattle.a429_keep.specs.Following.{rest_lines}
use Rattle.a429_keep.proofs.FollowedGroups.{AreFollowedTo}
use Rattle.a429_keep.proofs.following.follow_groups.Given as goal

abbrev pub invariant-loop-group : goal.invariant-loop-group
invariant-loop-group l = AreFollowedTo l.fn.proposal l.proposal (rest_lines l.initial.lines) (rest_lines l.lines) l.group
