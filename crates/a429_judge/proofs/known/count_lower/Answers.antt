use Rattle.std.proofs.Common.{◌*◌, ◌^◌, nat_lt, rules}
use Rattle.std.proofs.lemmas.List.Sorted.{IsPartitionPoint-from_clause, IsPartitionedBy-ltb}
use Rattle.a429_judge.specs.Known.{word_key}
use Rattle.a429_judge.proofs.known.count_lower.Goals as goal

pub returns-clause-point : goal.returns-clause-point
returns-clause-point c =
    IsPartitionPoint-from_clause (λ a. nat_lt (word_key a) (c.args.raw * 2 ^ 66)) _ _ c.partition_point.ensures.partitioned
    (IsPartitionedBy-ltb word_key c.args.words.now (c.args.raw * 2 ^ 66) c.requires) (λ a r q k. search rules)
