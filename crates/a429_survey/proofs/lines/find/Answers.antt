use Rattle.std.proofs.Common.{rules}
use Rattle.std.proofs.lemmas.List.Sorted.{answers_always}
use Rattle.a429_survey.proofs.Pairs.{searched}
use Rattle.a429_survey.proofs.lines.find.Goals as goal

pub returns : goal.returns
returns c =
    let facts = c.binary_search_by_key.ensures in
    let by_key = facts.position (λ pair. pair.place) (answers_always _ _ _ (λ f a r g called. search rules)) in
    searched c.args.pairs.now c.args.place _ c.requires facts.bound by_key
