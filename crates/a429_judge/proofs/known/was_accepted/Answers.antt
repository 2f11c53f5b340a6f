use Rattle.std.proofs.Common.{◌∙◌}
use Rattle.a429_judge.proofs.ByBits.{first_decides_word, no_such_word}
use Rattle.a429_judge.proofs.known.was_accepted.Goals as goal

pub returns-then-place-words : goal.returns-then-place-words
returns-then-place-words c =
    no_such_word c.args.facts.now c.args.words.now c.args.send.now c.count_lower-place.result c.count_lower-place.ensures.point c.if-place-words.true

pub returns : goal.returns
returns c =
    c.is_equal.ensures
    ∙ first_decides_word c.args.facts.now c.args.words.now c.args.send.now c.count_lower-place.result c.requires c.word_key-first.ensures.few c.window_end-end.ensures.few
    c.count_lower-place.ensures.point c.if-place-words.false
