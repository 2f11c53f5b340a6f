use Rattle.std.proofs.Common.{◌∙◌, [], ◌∷◌, ◌++◌, ap, refl, sym, subst}
use Rattle.std.specs.List.{AllByRecursion}
use Rattle.a429_word.proofs.Lists.{all_push}
use Rattle.a429_slots.specs.Tables.{PlanTable}
use Rattle.a429_board.specs.Lists.{numbered}
use Rattle.a429_workers.specs.Transmitting.{IsKnownPlan}
use Rattle.a429_uses.proofs.control.publish.Goals as goal

pub returns-clause-plans : goal.returns-clause-plans
returns-clause-plans g c =
    let known = IsKnownPlan c.args.station.now in
    subst (AllByRecursion known) (sym c.in_ok-publish.ensures.list) (all_push known c.args.planner.now.list (numbered c.in_ok-plan.plan c.in_ok-publish.field-0) c.requires.plans c.in_ok-plan.ensures.known)

pub returns-clause-published : goal.returns-clause-published
returns-clause-published g c =
    let P = c.in_ok-plan.ensures.planned in
    let number = c.in_ok-publish.field-0 in
    record {
      of = P.0;
      same = P.1;
      next = c.in_ok-publish.ensures.next;
      list = c.in_ok-publish.ensures.list ∙ ap (λ (p : PlanTable). c.args.planner.now.list ++ numbered p number ∷ []) P.2;
      last = c.in_ok-publish.ensures.last ∙ ap (λ (p : PlanTable). numbered p number) P.2;
      book = c.publish.ensures.book;
      station = refl;
    }
