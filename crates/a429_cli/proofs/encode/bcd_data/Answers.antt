use Rattle.std.proofs.Common.{arith}
use Rattle.a429_cli.proofs.BcdData.{bcd_data_is}
use Rattle.a429_cli.proofs.encode.bcd_data.Goals as goal

pub returns-in-48-to-55 : goal.returns-in-48-to-55
returns-in-48-to-55 c =
    bcd_data_is c.args.text.now _ (omega arith) (omega arith) (omega arith)
    (record { low = omega arith; high = omega arith }) (record { low = omega arith; high = omega arith })
    (record { low = omega arith; high = omega arith }) (record { low = omega arith; high = omega arith }) (omega arith)
