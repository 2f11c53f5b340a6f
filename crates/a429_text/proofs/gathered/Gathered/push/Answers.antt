use Rattle.std.proofs.Common.{◌∷◌, [], ◌++◌, ap}
use Rattle.a429_text.proofs.gathered.Gathered.push.Goals as goal

pub returns-then-is_ok : goal.returns-then-is_ok
returns-then-is_ok g c = rw (c.in-None.is, c.push.ensures.items, ← c.is_ok.ensures.value, c.if-is_ok.true) (ap (λ xs. xs ++ c.args.item ∷ []) (rw c.in-None.is at c.self.view_is))

pub returns-in-None : goal.returns-in-None
returns-in-None g c = rw (c.of-in-None.ensures, c.of.ensures, c.of-last.ensures) (ap (λ xs. xs ++ c.args.item ∷ []) (rw c.in-None.is at c.self.view_is))

pub returns : goal.returns
returns g c = rw (c.of-before.ensures, c.of-last.ensures) (ap (λ xs. xs ++ c.args.item ∷ []) (rw c.in-Some.is at c.self.view_is))
