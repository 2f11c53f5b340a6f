use Rattle.std.proofs.Common.{◌∙◌, ◌++◌, ap, sym}
use Rattle.a429_text.proofs.PlainFields.{shown_as_it_is}
use Rattle.a429_text.proofs.aligned.put_shown.Goals as goal

pub returns-else-has_control : goal.returns-else-has_control
returns-else-has_control c =
    c.put_bytes.ensures ∙ ap (λ field. c.args.text.now ++ field) (sym (shown_as_it_is c.args.field.now (sym c.if-has_control.ensures)))
