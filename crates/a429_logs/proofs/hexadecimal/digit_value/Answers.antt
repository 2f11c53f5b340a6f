use Rattle.std.proofs.Common.{◌≡◌, arith, rules, get_or}
use Rattle.a429_logs.proofs.DigitValues.{digit_at, none_at}
use Rattle.a429_logs.specs.declared.hexadecimal.TheConstants.{VALUES}
use Rattle.a429_logs.proofs.hexadecimal.digit_value.Goals as goal

pub returns-then-value-lt16-clause-value : goal.returns-then-value-lt16-clause-value
returns-then-value-lt16-clause-value c =
    let is : c.from.result ≡ get_or VALUES c.args.byte 0 = search rules in
    digit_at c.args.byte c.from.result (omega arith) is (omega arith)

pub returns-else-value-lt16-clause-value : goal.returns-else-value-lt16-clause-value
returns-else-value-lt16-clause-value c = none_at c.args.byte c.value_at-value.result (omega arith) c.value_at-value.ensures (omega arith)
