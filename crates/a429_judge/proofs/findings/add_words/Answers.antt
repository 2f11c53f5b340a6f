use Rattle.a429_judge.specs.Judging.{word_findings}
use Rattle.a429_judge.proofs.Firsts.{answer_stays, range_items}
use Rattle.a429_judge.proofs.findings.add_words.Goals as goal

pub loop-word-preserved : goal.loop-word-preserved
loop-word-preserved c = record {
  found = range_items (word_findings c.args.facts.now c.args.span.now c.args.accepted.now c.args.sends.now) c.loop-word.word c.args.found.now c.loop-word.found c.add_missed.new.found c.loop-word.invariant.found c.add_missed.ensures;
  first = answer_stays c.args.facts.now c.args.accepted.now c.args.sends.now c.loop-word.word c.first_right-answer.result c.first_right-answer.ensures;
}
