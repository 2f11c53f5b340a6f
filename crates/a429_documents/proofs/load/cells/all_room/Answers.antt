use Rattle.std.proofs.Common.{◌≡◌, ◌+◌, ◌∙◌, ap₂, arith, sym}
use Rattle.a429_documents.specs.Load.{room_on}
use Rattle.a429_documents.proofs.BusLoads.{range_sum_more}
use Rattle.a429_documents.proofs.load.cells.all_room.Goals as goal

pub loop-bus-preserved : goal.loop-bus-preserved
loop-bus-preserved c =
    let more = range_sum_more (λ bus. room_on c.args.table.now bus c.args.period) c.loop-bus.bus in
    let one : c.from-room.result ≡ room_on c.args.table.now c.loop-bus.bus c.args.period = c.from-room.ensures ∙ c.room_on.ensures in (
      ap₂ (λ x y. x + y) c.loop-bus.invariant.0 one ∙ sym more,
      omega (arith, c.loop-bus.invariant.1, c.from-room.ensures),
    )
