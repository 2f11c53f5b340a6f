use Rattle.std.proofs.Common.{ℕ, IsUtf8, subst, sym, take}
use Rattle.std.proofs.lemmas.Grind.{not_there}
use Rattle.a429_equipment.proofs.names.Name.as_str.Goals as goal

pub returns-in-Err : goal.returns-in-Err
returns-in-Err c =
    absurd (not_there (subst (λ (n : ℕ). ∥ IsUtf8 (take n c.self.inside.bytes) ∥₁) (sym c.from.ensures) c.self.invariant.text) c.in-Err.ensures.cases.0)
