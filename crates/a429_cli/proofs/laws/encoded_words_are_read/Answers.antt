use Rattle.a429_cli.proofs.HexRead.{encoded_read}
use Rattle.a429_cli.proofs.laws.encoded_words_are_read.Goals as goal

pub returns : goal.returns
returns c = encoded_read
