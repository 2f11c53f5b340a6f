use Rattle.std.proofs.Common.{◌≡◌, ◌∙◌, ◌<◌, ℕ, ap, get_or, length, refl, rules, sym, subst}
use Rattle.std.specs.Prelude.{IfSome, Option}
use Rattle.a429_logs.specs.LateDates.{end_or, last_end}
use Rattle.a429_logs.proofs.DateEnds.{end_next, end_within}
use Rattle.a429_logs.proofs.dates.last_end.Goals as goal

pub loop-place-init : goal.loop-place-init
unfolding last_end
loop-place-init c = record { last = refl; within = tt }

pub loop-place-preserved : goal.loop-place-preserved
loop-place-preserved c =
    let text = c.args.text.now in
    let place : ℕ = c.loop-place.place in
    let inside : place < length text = search rules in
    let next : c.end_or-last.result ≡ end_or (get_or text place 0) place c.loop-place.last = search rules in
    record {
      last = next ∙ ap (λ (before : Option ℕ). end_or (get_or text place 0) place before) c.loop-place.invariant.last ∙ sym (end_next text place);
      within =
          subst (λ (r : Option ℕ). IfSome r (λ k. k < length text)) (sym next)
          (end_within (get_or text place 0) place (length text) c.loop-place.last inside c.loop-place.invariant.within);
    }
