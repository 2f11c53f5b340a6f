use Rattle.std.proofs.Common.{rules, ◌≡◌, Bool, true, subst, arith}
use Rattle.std.specs.Prelude.{Ok}
use Rattle.a429_uses.specs.Listening.{HasHeard, heard_at}
use Rattle.a429_uses.proofs.Listened.{more_is_listened}
use Rattle.a429_uses.proofs.listening.listen.Goals as goal

pub returns-in_err-pass-clause-listened : goal.returns-in_err-pass-clause-listened
returns-in_err-pass-clause-listened g c =
    let old = heard_at c.loop-place.line c.loop-place.receiver c.loop-place.heard in
    let new = heard_at c.hear.new.line c.hear.new.receiver c.hear.new.heard in
    let gave : c.in_ok-hear.field-0 ≡ true = search rules in
    more_is_listened g.L.LineSource c.args.line.now c.args.receiver.now old new c.loop-place.place c.loop-place.invariant.heard (omega (arith, c.loop-place-test.true))
    (subst (λ (b : Bool). HasHeard g.L.LineSource old new (Ok b)) gave c.in_ok-hear.ensures.heard)
