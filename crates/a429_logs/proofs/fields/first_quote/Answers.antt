use Rattle.a429_logs.specs.LogFields.{is_quote}
use Rattle.a429_logs.proofs.FirstSeparators.{first_is}
use Rattle.a429_logs.proofs.fields.first_quote.Goals as goal

pub returns : goal.returns
returns c = first_is is_quote c.args.line.now c.memchr.result c.memchr.ensures
