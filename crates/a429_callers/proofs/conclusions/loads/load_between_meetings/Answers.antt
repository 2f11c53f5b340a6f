use Rattle.std.proofs.Common.{◌≡◌, ◌∙◌, ◌++◌, ◌∷◌, [], ℕ, List, ap, subst}
use Rattle.a429_equipment.specs.declared.loads.Load.{Load}
use Rattle.a429_equipment.specs.TableRecord.{TableRecord}
use Rattle.a429_equipment.specs.Agreement.{AgreesTo, AgreesToTheEnd, loads_of_all}
use Rattle.a429_values.specs.Ends.{Place, TransmitterEnd}
use Rattle.a429_callers.proofs.Between.{between}
use Rattle.a429_callers.proofs.conclusions.loads.load_between_meetings.Goals as goal

pub returns-clause-latest : goal.returns-clause-latest
returns-clause-latest c =
    let first : TransmitterEnd = c.args.transmitter.now in
    let one : TransmitterEnd = c.meet.new.self in
    let two : TransmitterEnd = c.load-word.new.self in
    let three : TransmitterEnd = c.meet-2.new.self in
    let t : TableRecord = first.at.station in
    let r : ℕ = c.args.receiver.now.number in
    let A = c.args.receiver.now.accepted in
    let at_one : one.at ≡ first.at = ap (λ (s : TransmitterEnd). s.at) c.meet.ensures.loads in
    let at_two : two.at ≡ first.at = ap (λ (s : TransmitterEnd). s.at) c.load-word.ensures.load.1 ∙ at_one in
    let l : Load = record { source = c.args.source; count = c.load-word.ensures.load.0; word = c.load-word.result } in
    let rest : List Load = loads_of_all two.at.station c.meet.new.other.number c.meet.new.other.accepted in
    let more : three.loads ≡ (one.loads ++ l ∷ []) ++ rest =
    ap (λ (s : TransmitterEnd). s.loads) c.meet-2.ensures.loads ∙ ap (λ (s : TransmitterEnd). s.loads ++ rest) c.load-word.ensures.load.1 in
    let ends : AgreesToTheEnd t r A three.loads =
    subst (λ (p : Place). AgreesToTheEnd p.station r A three.loads) at_two (subst (λ x. AgreesToTheEnd two.at.station x.number x.accepted three.loads) c.meet.ensures.receiver c.meet-2.ensures.agrees) in
    between t r c.args.source c.load-word.ensures.load.0 ends.0 A one.loads rest c.load-word.result c.requires.own c.meet.ensures.later
    (subst (λ (ls : List Load). AgreesTo t r A ls ends.0) more ends.1)
