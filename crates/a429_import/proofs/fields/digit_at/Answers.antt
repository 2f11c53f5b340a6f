use Rattle.std.proofs.Common.{◌∙◌, lit<}
use Rattle.a429_word.proofs.Lists.{read_is}
use Rattle.a429_import.proofs.Lookups.{digit_is}
use Rattle.a429_import.proofs.fields.digit_at.Goals as goal

pub returns-in-Some-clause-digit : goal.returns-in-Some-clause-digit
returns-in-Some-clause-digit c =
    c.from.ensures
    ∙ digit_is _ c.in-Some.digit.now _ (read_is c.args.digits.now c.args.place c.in-Some.digit.now c.in-Some.ensures.lookup.3.0 c.in-Some.ensures.lookup.1) c.if-is_ascii_digit.ensures.value

pub returns-in_default-clause-digit : goal.returns-in_default-clause-digit
returns-in_default-clause-digit c =
    digit_is _ c.in-Some.digit.now _ (read_is c.args.digits.now c.args.place c.in-Some.digit.now c.in-Some.ensures.lookup.3.0 c.in-Some.ensures.lookup.1) c.if-is_ascii_digit.ensures.value

pub returns-in_default-clause-small : goal.returns-in_default-clause-small
returns-in_default-clause-small c = lit< tt

pub returns-in_default-2-clause-small : goal.returns-in_default-2-clause-small
returns-in_default-2-clause-small c = lit< tt
