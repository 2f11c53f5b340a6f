use mir.Val.{bool_byte}
use Rattle.std.proofs.Common.{◌≤◌, ◌∙◌, ap, arith}
use Rattle.a429_documents.proofs.BusLoads.{byte_small, cell_more}
use Rattle.a429_documents.proofs.load.cells.cells_on.Goals as goal

pub loop-slot-preserved : goal.loop-slot-preserved
loop-slot-preserved c =
    let small : bool_byte c.is_some.result ≤ 1 = byte_small c.is_some.result in (
      cell_more c.args.table.now c.args.bus c.loop-slot.slot c.from.result c.loop-slot.cells c.from-cells.result c.at.result c.at.ensures.cell c.from.ensures (c.from-cells.ensures ∙ ap (λ b. bool_byte b) c.is_some.ensures) c.loop-slot.invariant.0,
      omega (arith, c.loop-slot.invariant.1, c.from-cells.ensures),
    )
