use Rattle.std.proofs.Common.{rules}
use Rattle.std.proofs.lemmas.List.Sorted.{IsPartitionPoint-from_clause}
use Rattle.a429_judge.specs.Judging.{is_by}
use Rattle.a429_judge.proofs.Scanning.{parted_by}
use Rattle.a429_judge.proofs.windows.count_by.Goals as goal

pub returns-clause-point : goal.returns-clause-point
returns-clause-point c =
    IsPartitionPoint-from_clause (is_by c.args.facts.now c.args.time) _ _ c.partition_point.ensures.partitioned
    (parted_by c.args.facts.now c.args.time c.args.accepted.now c.requires) (λ a r q k. search rules)
