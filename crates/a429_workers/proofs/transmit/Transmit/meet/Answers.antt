use Rattle.std.proofs.Common.{◌∷◌, [], ◌++◌, sym, ap, subst}
use Rattle.std.specs.List.{AllByRecursion}
use Rattle.a429_equipment.specs.Agreement.{loads_of_all}
use Rattle.a429_values.specs.Ends.{Place, TransmitterEnd}
use Rattle.a429_workers.specs.Calls.{Meets}
use Rattle.a429_workers.specs.Transmitting.{Transmitting, HasMade, IsKnownPlan, StandsForCalls, loads_since}
use Rattle.a429_workers.proofs.Changing.{meet_more, loads_known}
use Rattle.a429_workers.proofs.transmit.Transmit.meet.Goals as goal

pub returns-clause-stands : goal.returns-clause-stands
returns-clause-stands c = λ b made S known.
    let inside = c.self.inside in
    let v : Transmitting = record { transmitter = inside.transmitter; watcher = inside.watcher; frame = inside.sender; number = inside.number; sends = inside.sends } in
    let t = c.meet.new.self in
    let told = subst (λ (at : Place). AllByRecursion (IsKnownPlan at.station) v.watcher.list) (ap (λ (x : TransmitterEnd). x.at) c.meet.ensures.loads) known in
    let M = subst (StandsForCalls b made) (sym c.self.view_is) S told in
    subst (λ (x : Transmitting). HasMade b (made ++ Meets (loads_since x (record v { transmitter = t })) ∷ []) (record v { transmitter = t })) c.self.view_is
    (meet_more b made v t (loads_of_all v.transmitter.at.station c.args.other.now.number c.args.other.now.accepted) c.meet.ensures.loads
    (loads_known v.transmitter.at.station c.args.other.now.number c.args.other.now.accepted) M)
