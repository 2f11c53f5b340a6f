use Rattle.std.proofs.Common.{false}
use Rattle.std.proofs.lemmas.List.{get_or-replicate}
use Rattle.a429_filter.proofs.passing.Passing.each.Goals as goal

pub returns : goal.returns
returns c = λ label below. get_or-replicate 256 label c.args.passes false below
