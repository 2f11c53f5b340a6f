use Rattle.std.proofs.Common.{◌<◌, ◌∷◌, [], ℕ, ap, arith}
use Rattle.a429_slots.specs.Tables.{buses_of}
use Rattle.a429_documents.specs.Load.{cells_on}
use Rattle.a429_documents.specs.PlannedGroups.{PlannedGroup}
use Rattle.a429_documents.proofs.BusLoads.{bus_known, bus_load}
use Rattle.a429_documents.proofs.load.row.add_buses.Goals as goal

pub bounds-loads-bus : goal.bounds-loads-bus
bounds-loads-bus c =
    let same = ap (λ (g : PlannedGroup). buses_of g.table) c.group.view_is in
    let below : c.loop-bus.bus < buses_of c.args.group.now.table = omega (arith, c.loop-bus-test.true, c.buses-bus-end.ensures.value, same) in
    bus_known (cells_on c.args.group.now.table) _ c.loop-bus.bus c.args.loads.now c.requires below

pub add_rows-requires-clause-loads : goal.add_rows-requires-clause-loads
add_rows-requires-clause-loads c =
    let same = ap (λ (g : PlannedGroup). buses_of g.table) c.group.view_is in
    let below : c.loop-bus.bus < buses_of c.args.group.now.table = omega (arith, c.loop-bus-test.true, c.buses-bus-end.ensures.value, same) in
    ap (λ (l : ℕ). l ∷ []) (bus_load (cells_on c.args.group.now.table) _ c.loop-bus.bus c.args.loads.now c.requires below)
