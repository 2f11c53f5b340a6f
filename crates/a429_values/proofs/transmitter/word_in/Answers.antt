use Rattle.std.proofs.Common.{rules}
use Rattle.a429_values.proofs.Decoding.{decoded}
use Rattle.a429_values.proofs.transmitter.word_in.Goals as goal

pub returns-else-count-eq0 : goal.returns-else-count-eq0
returns-else-count-eq0 c = λ s l h. decoded s c.args.label c.args.number c.of_label.result c.if-count-eq0.false (search rules) (search rules) c.word_is_determined.ensures l h
