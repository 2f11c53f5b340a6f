use Rattle.std.proofs.Common.{[]}
use Rattle.a429_judge.specs.Figures.{delay_of}
use Rattle.a429_judge.proofs.Firsts.{answer_stays, range_items}
use Rattle.a429_judge.proofs.figures.delays.Goals as goal

pub loop-word-preserved : goal.loop-word-preserved
loop-word-preserved c = record {
  numbers = range_items (delay_of c.args.facts.now c.args.accepted.now c.args.sends.now) c.loop-word.word [] c.loop-word.numbers c.add_delay.new.numbers c.loop-word.invariant.numbers c.add_delay.ensures;
  first = answer_stays c.args.facts.now c.args.accepted.now c.args.sends.now c.loop-word.word c.first_right-answer.result c.first_right-answer.ensures;
}
