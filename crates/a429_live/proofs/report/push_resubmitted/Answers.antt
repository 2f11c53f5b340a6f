use Rattle.std.proofs.Common.{arith, subst}
use Rattle.std.proofs.lemmas.Result.{on_ok_weaker}
use Rattle.a429_live.specs.Resubmitted.{IsAnswer}
use Rattle.a429_live.specs.declared.control.SubmitAnswer.TheVariants as answer
use Rattle.a429_live.proofs.Resubmits.{of_another, published, refused}
use Rattle.a429_live.proofs.report.push_resubmitted.Goals as goal

pub returns-in-Published : goal.returns-in-Published
returns-in-Published c = λ v w table A room.
    let P : IsAnswer v table (answer.Published c.in-Published.number) w = subst (λ a. IsAnswer v table a w) c.in-Published.is A in
    on_ok_weaker c.writeln.result (λ put. published v w table c.in-Published.number c.args.text.now.items c.writeln.new.self.items P put) c.writeln.ensures.bytes

pub returns-in-Refused : goal.returns-in-Refused
returns-in-Refused c = λ v w table A room.
    let R : IsAnswer v table (answer.Refused c.in-Refused.refusal) w = subst (λ a. IsAnswer v table a w) c.in-Refused.is A in
    on_ok_weaker c.push_refused.result (λ put. refused v w table c.in-Refused.refusal c.args.text.now.items c.push_refused.new.text.items R.0 R.1 put) c.push_refused.ensures

pub returns-in-OtherStation : goal.returns-in-OtherStation
returns-in-OtherStation c = λ v w table A room.
    let O : IsAnswer v table answer.OtherStation w = subst (λ a. IsAnswer v table a w) c.in-OtherStation.is A in
    on_ok_weaker c.writeln-in-OtherStation.result (λ put. of_another v w table O.0.0 c.args.text.now.items c.writeln-in-OtherStation.new.self.items O.0.1 O.0.2 O.1 put) c.writeln-in-OtherStation.ensures.bytes

pub returns-in-NumbersSpent : goal.returns-in-NumbersSpent
returns-in-NumbersSpent c = λ v w table A room.
    let S : IsAnswer v table answer.NumbersSpent w = subst (λ a. IsAnswer v table a w) c.in-NumbersSpent.is A in
    absurd (omega (arith, room, S.0))
