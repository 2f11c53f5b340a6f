use mir.Val.{bool_byte}
use Rattle.std.proofs.Common.{◌≤◌, arith}
use Rattle.a429_documents.specs.Load.{is_open}
use Rattle.a429_documents.proofs.BusLoads.{byte_small, test_more}
use Rattle.a429_documents.proofs.load.cells.room_on.Goals as goal

pub loop-offset-preserved : goal.loop-offset-preserved
loop-offset-preserved c =
    let small : bool_byte c.is_open.result ≤ 1 = byte_small c.is_open.result in (
      test_more (is_open c.args.table.now c.args.bus c.args.period) c.loop-offset.offset c.loop-offset.room c.from-room.result c.is_open.result c.is_open.ensures c.from-room.ensures c.loop-offset.invariant.0,
      omega (arith, c.loop-offset.invariant.1, c.from-room.ensures),
    )
