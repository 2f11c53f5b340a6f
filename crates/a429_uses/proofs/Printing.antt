-- What a bus printed at first.
use Rattle.std.proofs.Common.{◌≡◌, ℕ, List, [], ap}
use Rattle.std.specs.Prelude.{Option, None, Some, IfSome}
use Rattle.std.proofs.lemmas.Option.{none-some}

-- a writer that took nothing yet
pub nothing_printed : (x : Option (List ℕ)) → (text : List ℕ) × (x ≡ Some text) → IfSome x (λ text. text ≡ []) → x ≡ Some []
nothing_printed None told h = absurd (none-some told.0 told.1)
nothing_printed (Some xs) told h = ap (λ (zs : List ℕ). Some zs) h
