use Rattle.std.proofs.Common.{◌≤◌, ◌++◌, ◌∙◌, ap, arith, take, ℕ}
use Rattle.a429_text.specs.Fields.{Field}
use Rattle.a429_slots.specs.Tables.{buses_of}
use Rattle.a429_documents.specs.Load.{bus_rows_of, cells_on, loads_of, needed_field}
use Rattle.a429_documents.specs.PlannedGroups.{PlannedGroup}
use Rattle.a429_documents.specs.declared.load.row.Buses.TheVariants.{All}
use Rattle.a429_documents.proofs.BusLoads.{bus_count, group_is}
use Rattle.a429_documents.proofs.SharesOfPlans.{are_shares, some_bus}
use Rattle.a429_documents.proofs.load.add_group.Goals as goal

pub add_buses-requires : goal.add_buses-requires
add_buses-requires c =
    ap (λ (n : ℕ). take n c.loads-all.result) c.buses.ensures.value ∙ c.loads-all.ensures ∙ ap (λ (g : PlannedGroup). loads_of g.table) c.group.view_is

pub needed_cell-needed-requires-clause-shares : goal.needed_cell-needed-requires-clause-shares
needed_cell-needed-requires-clause-shares c = are_shares _ _ _ _ c.group.invariant.planned

pub needed_cell-needed-requires-clause-loads : goal.needed_cell-needed-requires-clause-loads
needed_cell-needed-requires-clause-loads c = ap (λ (n : ℕ). take n c.loads-all.result) c.buses.ensures.value ∙ c.loads-all.ensures

pub add_rows-requires-clause-loads : goal.add_rows-requires-clause-loads
add_rows-requires-clause-loads c =
    ap (λ (n : ℕ). take n c.loads-all.result) c.buses.ensures.value ∙ c.loads-all.ensures ∙ ap (λ (g : PlannedGroup). loads_of g.table) c.group.view_is

pub add_rows-requires-clause-some : goal.add_rows-requires-clause-some
add_rows-requires-clause-some c =
    let t = c.group.inside.table.now in
    let some : 1 ≤ buses_of t =
    some_bus c.fewest_by_demand.ensures.only _ t (record { rate = _; rows = _; planned = c.group.invariant.planned; some = c.group.invariant.some }) in
    omega (arith, some, bus_count (cells_on t) (buses_of t) _ (ap (λ (n : ℕ). take n c.loads-all.result) c.buses.ensures.value ∙ c.loads-all.ensures))

pub add_rows-requires-clause-few : goal.add_rows-requires-clause-few
add_rows-requires-clause-few c =
    let t = c.group.inside.table.now in
    omega (arith, c.buses.ensures.value, c.buses.ensures.few, bus_count (cells_on t) (buses_of t) _ (ap (λ (n : ℕ). take n c.loads-all.result) c.buses.ensures.value ∙ c.loads-all.ensures))

pub returns : goal.returns
returns c =
    let needed = c.needed_cell-needed.ensures ∙ ap (λ (g : PlannedGroup). needed_field c.args.limit g.table) c.group.view_is in
    group_is c.args.limit c.args.group.now c.args.rows.now c.add_buses.new.rows c.add_rows.new.rows c.add_buses.ensures
    (c.add_rows.ensures ∙ ap (λ (f : Field). c.add_buses.new.rows ++ bus_rows_of c.args.group.now All f) needed)
