use Rattle.a429_documents.proofs.BoardWords.{board_words_have_no_data}
use Rattle.a429_documents.proofs.laws.board_words_have_no_data.Goals as goal

pub returns : goal.returns
returns c = board_words_have_no_data
