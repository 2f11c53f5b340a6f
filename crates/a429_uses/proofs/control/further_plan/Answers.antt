use Rattle.std.proofs.Common.{rules, ◌≡◌, true, List, length, ap, refl}
use Rattle.a429_equipment.specs.SameStation.{same_station}
use Rattle.a429_equipment.specs.declared.rows.SourceRow.{SourceRow}
use Rattle.a429_workers.proofs.Known.{plan_known}
use Rattle.a429_station.specs.Resubmitting.{IsPlanned}
use Rattle.a429_uses.proofs.control.further_plan.Goals as goal

pub returns-clause-known : goal.returns-clause-known
returns-clause-known c =
    let t = c.args.station.now in
    let same : same_station t c.in_ok-next.next ≡ true = search rules in
    let sources = ((c.one_station_is_equality.ensures t c.in_ok-next.next).0 same).1 in
    plan_known t c.in_ok-next.next c.in_ok-plan.field-0 (ap (λ (s : List SourceRow). length s) sources) c.rows_are_sound.ensures c.in_ok-plan.ensures.planned

pub returns-clause-planned : goal.returns-clause-planned
returns-clause-planned c =
    let next = c.in_ok-next.next in
    let plan = c.in_ok-plan.field-0 in
    let of : IsPlanned c.args.table.now = record { record_of = next; plan = plan; reads = c.in_ok-next.ensures; sound = c.rows_are_sound.ensures; planned = c.in_ok-plan.ensures.planned; own = c.in_ok-plan.ensures.own } in
    let same : same_station c.args.station.now next ≡ true = search rules in
    (of, same, refl)
