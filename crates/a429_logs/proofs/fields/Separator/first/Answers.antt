use Rattle.std.proofs.Common.{◌∙◌, ap, sym}
use Rattle.std.specs.Prelude.{position}
use Rattle.a429_logs.specs.LogFields.{is_separator}
use Rattle.a429_logs.specs.declared.fields.Separator.{Separator}
use Rattle.a429_logs.specs.declared.fields.Separator.TheVariants.{LineFeed}
use Rattle.a429_logs.proofs.FirstSeparators.{first_is}
use Rattle.a429_logs.proofs.fields.Separator.first.Goals as goal

pub returns-in-LineFeed : goal.returns-in-LineFeed
returns-in-LineFeed c =
    first_is (is_separator LineFeed) c.args.text.now c.memchr.result c.memchr.ensures ∙ ap (λ (m : Separator). position (is_separator m) c.args.text.now) (sym c.in-LineFeed.is)
