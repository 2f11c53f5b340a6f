use Rattle.std.proofs.Common.{rules, subst, sym, ap, ◌∙◌, ◌<◌, ◌≤◌, length}
use Rattle.a429_judge.specs.Keeping.{Grouped, IsGroup}
use Rattle.a429_judge.proofs.Kept.{groups_more, groups_past, outputs_same}
use Rattle.a429_judge.proofs.recordings.add_sent.Goals as goal

pub returns-then-word-len-clause-outputs : goal.returns-then-word-len-clause-outputs
returns-then-word-len-clause-outputs c =
    outputs_same c.args.groups.now.items c.args.word.now.group c.add_word.new.self _ (c.add_word.ensures.outputs ∙ ap (λ (b : Grouped). b.outputs) c.index_mut.ensures.value)

pub returns-then-word-len-clause-words : goal.returns-then-word-len-clause-words
returns-then-word-len-clause-words c = λ sent k.
    let lt : c.args.word.now.group < length c.args.groups.now.items = search rules in
    groups_more c.args.word.now sent c.args.groups.now.items c.add_word.new.self lt
    (c.add_word.ensures.words sent (subst (λ (b : Grouped). IsGroup c.args.word.now.group sent b) (sym c.index_mut.ensures.value) (k c.args.word.now.group _ lt)))
    k

pub returns-else-word-len-clause-words : goal.returns-else-word-len-clause-words
returns-else-word-len-clause-words c = λ sent k.
    let past : length c.args.groups.now.items ≤ c.args.word.now.group = search rules in
    groups_past c.args.word.now sent c.args.groups.now.items past k
