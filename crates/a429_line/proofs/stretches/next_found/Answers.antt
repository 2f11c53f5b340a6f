use Rattle.std.proofs.Common.{◌≡◌, ◌∙◌, ap, rules}
use Rattle.std.specs.Prelude.{Option, None}
use Rattle.std.specs.Option.{option_to_list}
use Rattle.a429_line.specs.declared.found.Found.{Found}
use Rattle.a429_line.proofs.Passed.{takes_byte, takes_then}
use Rattle.a429_line.proofs.stretches.next_found.Goals as goal

pub loop-at-init : goal.loop-at-init
loop-at-init c = c.pass-at.ensures

pub returns-then-is_some-clause-takes : goal.returns-then-is_some-clause-takes
returns-then-is_some-clause-takes c =
    takes_then _ _ _ _ _ _ _ _ _ c.loop-at.invariant (takes_byte _ _ _ _ _ c.loop-at-test.true c.take_byte-found.ensures.due c.take_byte-found.ensures.after)

pub loop-at-preserved : goal.loop-at-preserved
loop-at-preserved c =
    let none : c.take_byte-found.result ≡ None = search rules in
    let due = c.take_byte-found.ensures.due ∙ ap (λ (o : Option Found). option_to_list o) none in
    takes_then _ _ _ _ _ _ _ _ _ (takes_then _ _ _ _ _ _ _ _ _ c.loop-at.invariant (takes_byte _ _ _ _ _ c.loop-at-test.true due c.take_byte-found.ensures.after)) c.pass-reached.ensures
