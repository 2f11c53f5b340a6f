use Rattle.a429_documents.proofs.Losses.{no_loss_is_served}
use Rattle.a429_documents.proofs.laws.no_loss_is_all_served.Goals as goal

pub returns : goal.returns
returns c = λ e asked sound all. no_loss_is_served e sound asked all
