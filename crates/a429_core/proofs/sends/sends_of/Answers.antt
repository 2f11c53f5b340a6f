use Rattle.std.proofs.Common.{◌≡◌, ◌∙◌, ◌+◌, ℕ, List, [], ◌∷◌, ◌++◌, ap, arith, replicate}
use Rattle.std.proofs.lemmas.List.{replicate_more}
use Rattle.a429_slots.specs.Recalling.{Recent, never}
use Rattle.a429_core.proofs.sends.sends_of.Goals as goal

one_more : (xs ys : List (List Recent)) (x y : List Recent) (n : ℕ) → xs ≡ replicate n y → ys ≡ xs ++ x ∷ [] → x ≡ y → ys ≡ replicate (n + 1) y
one_more xs ys x y n so_far more is = more ∙ ap (λ (zs : List (List Recent)). zs ++ x ∷ []) so_far ∙ ap (λ (z : List Recent). replicate n y ++ z ∷ []) is ∙ replicate_more n y

pub loop-init : goal.loop-init
loop-init c = c.new-sends.ensures.items

pub loop-preserved : goal.loop-preserved
loop-preserved c = one_more c.loop.sends.items c.push.new.self.items c.in_ok-open.field-0 (replicate c.args.sources never) c.loop.counter c.loop.invariant c.in_ok-push.ensures.items c.in_ok-open.ensures

pub returns : goal.returns
returns c = let n : c.loop.counter ≡ c.args.groups = omega arith in c.loop.invariant ∙ ap (λ (n : ℕ). replicate n (replicate c.args.sources never)) n
