use Rattle.a429_logs.proofs.PartsWords.{bits_small}
use Rattle.a429_logs.specs.LogRows.{word_bits}
use Rattle.a429_logs.proofs.parts.written_word.Goals as goal

pub returns : goal.returns
returns c =
    c.with_written.ensures (word_bits c.args.label c.args.sdi c.args.value c.args.ssm)
    (bits_small c.args.label c.args.sdi c.args.value c.args.ssm c.requires.sdi c.requires.value c.requires.ssm) c.word_of.ensures
