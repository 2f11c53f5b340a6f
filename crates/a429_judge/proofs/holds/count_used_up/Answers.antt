use Rattle.std.proofs.Common.{rules}
use Rattle.std.proofs.lemmas.List.Sorted.{IsPartitionPoint-from_clause}
use Rattle.a429_judge.specs.Judging.{may_be_used_up}
use Rattle.a429_judge.proofs.Scanning.{parted_used}
use Rattle.a429_judge.proofs.holds.count_used_up.Goals as goal

pub returns-clause-point : goal.returns-clause-point
returns-clause-point c =
    IsPartitionPoint-from_clause (may_be_used_up c.args.facts.now c.args.span.now c.args.sends.now c.args.count c.args.hold) _ _ c.partition_point.ensures.partitioned
    (parted_used c.args.facts.now c.args.span.now c.args.sends.now c.args.count c.args.hold c.args.accepted.now c.requires.times) (λ a r q k. search rules)
