use Rattle.std.proofs.Common.{◌≡◌, ◌∙◌, ap, sym, subst, arith, List, ◌∷◌, [], ◌++◌, append_assoc, map}
use Rattle.std.proofs.lemmas.Grind.{common_steps}
use Rattle.std.proofs.lemmas.List.{map-append}
use Rattle.a429_slots.specs.Events.{Event}
use Rattle.a429_slots.specs.declared.answers.Answer.{Answer}
use Rattle.a429_core.specs.declared.events.Event as code
use Rattle.a429_slots.specs.Answers.{answers}
use Rattle.a429_core.specs.Happened.{event_of}
use Rattle.a429_core.specs.MachineStates.{StandsForHistory}
use Rattle.a429_core.proofs.Steps.{step_is, answers_push}
use Rattle.a429_core.proofs.state.State.run.Goals as goal

pub loop-event-preserved : goal.loop-event-preserved
loop-event-preserved g c =
    let so_far : List Event = map event_of c.loop-event.yielded in
    let e : Event = event_of c.in-Some.event in
    let more : map event_of (c.loop-event.yielded ++ c.in-Some.event ∷ []) ≡ so_far ++ e ∷ [] = map-append event_of c.loop-event.yielded (c.in-Some.event ∷ []) in
    record {
      told = λ o E S.
          let step = step_is (record { none = c.sends_are_recalled.ensures.none; decides = c.sends_are_recalled.ensures.decides; sent = c.sends_are_recalled.ensures.sent; other = c.sends_are_recalled.ensures.other }) g.row.C o (E ++ so_far) e c.loop-event.self c.take.ensures.whole (c.loop-event.invariant.stands o E S) in
          c.in_ok-push.ensures.items
          ∙ (ap (λ (xs : List Answer). xs ++ c.take.result ∷ []) (c.loop-event.invariant.told o E S)
          ∙ (ap (λ (a : Answer). answers g.row.C o E so_far ++ a ∷ []) (c.take.ensures.answer ∙ step.answer)
          ∙ (sym (answers_push g.row.C o E so_far e) ∙ ap (answers g.row.C o E) (sym more))));
      stands = λ o E S.
          let step = step_is (record { none = c.sends_are_recalled.ensures.none; decides = c.sends_are_recalled.ensures.decides; sent = c.sends_are_recalled.ensures.sent; other = c.sends_are_recalled.ensures.other }) g.row.C o (E ++ so_far) e c.loop-event.self c.take.ensures.whole (c.loop-event.invariant.stands o E S) in
          let after = subst (StandsForHistory g.row.C o (E ++ so_far ++ e ∷ [])) (sym c.take.ensures.after) step.after in
          subst (λ (F : List Event). StandsForHistory g.row.C o F c.take.new.self) (append_assoc E so_far (e ∷ []) ∙ ap (λ (F : List Event). E ++ F) (sym more)) after;
      whole = c.loop-event.invariant.whole ∙ (ap (λ (xs : List code.Event). c.loop-event.yielded ++ xs) c.in-Some.ensures.steps.0 ∙ sym (append_assoc c.loop-event.yielded (c.in-Some.event ∷ []) _));
      so_far = grind (arith, common_steps);
      room = grind (arith, common_steps);
    }

pub returns-clause-stands : goal.returns-clause-stands
returns-clause-stands g c o E S =
    let all : c.loop-event.yielded ≡ c.args.events.items = grind (arith, common_steps) in
    subst (λ (F : List code.Event). StandsForHistory g.row.C o (E ++ map event_of F) c.loop-event.self) all (c.loop-event.invariant.stands o E S)
