use Rattle.std.proofs.Common.{rules, sym}
use Rattle.a429_judge.proofs.Labels.{none_fit}
use Rattle.a429_judge.proofs.outputs.Outputs.add_word.Goals as goal

pub returns-in_default-clause-own : goal.returns-in_default-clause-own
returns-in_default-clause-own c = sym (none_fit c.args.self.now c.args.word.now (search rules))
