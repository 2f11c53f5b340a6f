use Rattle.std.proofs.Common.{arith}
use Rattle.a429_cli.proofs.BnrData.{fits_data}
use Rattle.a429_cli.proofs.encode.in_place.Goals as goal

pub returns-clause-value : goal.returns-clause-value
returns-clause-value c = omega (arith, fits_data c.args.bits c.args.number c.requires.bits c.requires.number)

pub returns-clause-small : goal.returns-clause-small
returns-clause-small c = omega (arith, fits_data c.args.bits c.args.number c.requires.bits c.requires.number)
