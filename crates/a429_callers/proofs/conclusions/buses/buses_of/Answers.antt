use Rattle.std.proofs.Common.{ℕ, sym, subst}
use Rattle.a429_equipment.specs.TableRecord.{TableRecord}
use Rattle.a429_slots.specs.Tables.{SlotTable, buses_of, groups_of}
use Rattle.a429_slots.specs.Planned.{IsPlannedAt, rated_outputs}
use Rattle.a429_callers.specs.Serving.{NoneHasFewer}
use Rattle.a429_callers.proofs.Served.{Beside, IsRated, beside, none_fewer, rated_at}
use Rattle.a429_callers.proofs.conclusions.buses.buses_of.Goals as goal

pub returns : goal.returns
returns c =
    let e : TableRecord = c.args.equipment.now in
    let t : SlotTable = c.group.result.now in
    let p : Beside (IsPlannedAt e.sources) (rated_outputs e) c.args.group t =
    beside (IsPlannedAt e.sources) (rated_outputs e) (groups_of c.in-Ok.plan) c.args.group t c.in-Ok.ensures.planned.groups c.group.ensures in
    let r : IsRated e.groups e.outputs c.args.group p.x = rated_at e.groups e.outputs c.args.group p.x p.there in
    let none : NoneHasFewer r.row.rate p.x.1 (buses_of t) =
    subst (λ (rate : ℕ). NoneHasFewer rate p.x.1 (buses_of t)) r.rate (none_fewer p.x.0 p.x.1 (buses_of t) p.pair.fewest) in
    (r.row, p.x.1, record { group = r.here; outputs = r.there }, subst (λ (n : ℕ). NoneHasFewer r.row.rate p.x.1 n) (sym c.buses.ensures.value) none)
