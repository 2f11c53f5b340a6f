use Rattle.std.proofs.Common.{rules, ◌≡◌, ◌+◌, ◌-◌, tests, arith, take, drop, length, length-drop}
use Rattle.std.specs.Prelude.{◌==◌, None, Some, position}
use Rattle.std.proofs.lemmas.List.{take_all}
use Rattle.std.proofs.lemmas.Iterator.Search.{position_from_yields_List}
use Rattle.std.proofs.lemmas.Iterator.{YieldsList-from_slice}
use Rattle.a429_text.specs.CutText.{cut}
use Rattle.a429_text.proofs.cut.cut_at.Goals as goal

pub returns-in_err-at-clause-cut : goal.returns-in_err-at-clause-cut
unfolding cut
returns-in_err-at-clause-cut c =
    let at : c.position.result ≡ position (λ x. x == c.args.byte) c.args.text.now =
    position_from_yields_List (λ x. x == c.args.byte) _ _ c.position.result c.position.ensures.ran (YieldsList-from_slice c.args.text.now cc) (λ x b q k. search (rules, tests)) in
    let none : c.position.result ≡ None = c.in_err-at.was in
    rw (c.from_residual.ensures, ← at, none)

pub returns-clause-cut : goal.returns-clause-cut
unfolding cut
returns-clause-cut c =
    let at : c.position.result ≡ position (λ x. x == c.args.byte) c.args.text.now =
    position_from_yields_List (λ x. x == c.args.byte) _ _ c.position.result c.position.ensures.ran (YieldsList-from_slice c.args.text.now cc) (λ x b q k. search (rules, tests)) in
    let found : c.position.result ≡ Some c.in_ok-at.at = c.in_ok-at.was in
    let whole : take (length c.args.text.now - (c.in_ok-at.at + 1)) (drop (c.in_ok-at.at + 1) c.args.text.now) ≡ drop (c.in_ok-at.at + 1) c.args.text.now =
    take_all _ _ (omega (arith, length-drop (c.in_ok-at.at + 1) c.args.text.now)) in
    rw (← at, found, whole)
