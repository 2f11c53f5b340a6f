use Rattle.std.proofs.Common.{rules, sym, subst, List, ◌≡◌, ◌++◌}
use Rattle.a429_equipment.specs.declared.loads.Load.{Load}
use Rattle.a429_equipment.specs.Agreement.{loads_of_all, AgreesTo}
use Rattle.a429_values.specs.Later.{StaysWhole}
use Rattle.a429_values.proofs.Staying.{stays_whole, meets_others}
use Rattle.a429_values.proofs.transmitter.Transmitter.meet.Goals as goal

pub returns-clause-later : goal.returns-clause-later
returns-clause-later c =
    let t = c.args.self.now.at.station in
    let r = c.args.other.now.number in
    let A = c.args.other.now.accepted in
    let is : c.part_step.new.seat.me.0.loads ≡ c.args.self.now.loads ++ loads_of_all t r A = search rules in
    subst (λ (ls : List Load). StaysWhole t r A ls) (sym is) (stays_whole t r A c.args.self.now.loads (search rules))

pub returns-clause-others : goal.returns-clause-others
returns-clause-others c = λ q last B ne h.
    let t = c.args.self.now.at.station in
    let r = c.args.other.now.number in
    let A = c.args.other.now.accepted in
    let is : c.part_step.new.seat.me.0.loads ≡ c.args.self.now.loads ++ loads_of_all t r A = search rules in
    subst (λ (ls : List Load). AgreesTo t q B ls last) (sym is) (meets_others t r A c.args.self.now.loads q last B ne h)
