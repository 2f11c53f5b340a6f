use Rattle.std.proofs.Common.{◌≤◌, length, subst, sym}
use Rattle.a429_import.proofs.ImportForms.{len_few, len_is}
use Rattle.a429_import.proofs.forms.len_before.Goals as goal

pub returns-clause-len : goal.returns-clause-len
returns-clause-len c = cc (c.unwrap_or.ensures, c.field_end.ensures, len_is c.args.separator c.args.text.now)

pub returns-clause-few : goal.returns-clause-few
returns-clause-few c =
    subst (λ n. n ≤ length c.args.text.now) (sym (cc (c.unwrap_or.ensures, c.field_end.ensures, len_is c.args.separator c.args.text.now))) (len_few c.args.separator c.args.text.now)
