use Rattle.std.proofs.Common.{◌∙◌, ap, arith, sym}
use Rattle.std.specs.Prelude.{Some}
use Rattle.a429_arguments.proofs.Decimals.{none_up_to, numeral_up_to}
use Rattle.a429_arguments.proofs.values.number_up_to.Goals as goal

pub returns-then-number-most-clause-number : goal.returns-then-number-most-clause-number
returns-then-number-most-clause-number c =
    let read = c.in-Ok.ensures.value.0 in
    ap Some read.1 ∙ sym (numeral_up_to c.args.most c.args.text.now read.0.0 read.0.1 (omega (arith, read.1, c.if-number-most.true)))

pub returns-else-number-most-clause-number : goal.returns-else-number-most-clause-number
returns-else-number-most-clause-number c =
    let read = c.in-Ok.ensures.value.0 in
    sym (none_up_to c.args.most c.args.text.now (λ numeral small few. omega (arith, read.1, few, c.if-number-most.false)))

pub returns-in-Err-clause-number : goal.returns-in-Err-clause-number
returns-in-Err-clause-number c = sym (none_up_to c.args.most c.args.text.now (λ numeral small few. c.in-Err.ensures.value.0 (numeral, small)))
