use Rattle.std.proofs.Common.{rules, ◌≡◌, arith}
use Rattle.std.specs.Prelude.{Some}
use Rattle.a429_word.specs.Decimal.{decimal_number}
use Rattle.a429_replay.proofs.ShortNumbers.{decimal_short}
use Rattle.a429_replay.proofs.script.publish.Goals as goal

pub returns-clause-fits : goal.returns-clause-fits
returns-clause-fits c =
    let is : decimal_number c.args.number.now ≡ Some c.in_ok-number.number = search rules in
    ((omega arith, omega arith), decimal_short c.args.number.now c.in_ok-number.number is)
