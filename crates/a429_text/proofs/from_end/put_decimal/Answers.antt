use Rattle.std.proofs.Common.{rules, arith, ◌≤◌, length}
use Rattle.std.specs.Fmt.{decimal}
use Rattle.std.proofs.lemmas.Fmt.{length-decimal-le}
use Rattle.a429_text.proofs.from_end.put_decimal.Goals as goal

pub write_digits-requires : goal.write_digits-requires
write_digits-requires c = search (rules, length-decimal-le 20)

pub returns-clause-few : goal.returns-clause-few
returns-clause-few c =
    let short : length (decimal c.args.number) ≤ 20 = search (rules, length-decimal-le 20) in
    omega (arith, c.write_digits.ensures.start)
