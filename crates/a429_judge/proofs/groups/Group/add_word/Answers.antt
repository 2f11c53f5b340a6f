use Rattle.std.proofs.Common.{sym, subst}
use Rattle.a429_judge.specs.Keeping.{Grouped, IsGroup}
use Rattle.a429_judge.proofs.Kept.{group_more}
use Rattle.a429_judge.proofs.groups.Group.add_word.Goals as goal

pub returns-clause-words : goal.returns-clause-words
returns-clause-words c = λ sent k.
    group_more c.args.word.now sent (record { outputs = c.self.inside.outputs; sends = c.self.inside.sends.items; foreign = c.self.inside.foreign; first = c.self.inside.first })
    c.add_word-own.new.sends.items c.add_foreign.new.foreign c.or-self-inside.result c.add_word-own.result
    c.add_word-own.ensures.sends c.add_word-own.ensures.own c.add_foreign.ensures c.or-self-inside.ensures
    (subst (λ (b : Grouped). IsGroup c.args.word.now.group sent b) (sym c.self.view_is) k)
