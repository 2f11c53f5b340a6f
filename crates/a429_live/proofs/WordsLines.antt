-- Lists that are made number by number.
use Rattle.std.proofs.Common.{◌≡◌, ◌+◌, ◌-◌, ◌<◌, ℕ, suc, ap, arith, map, ◌∷◌}
use Rattle.std.specs.List.{range_with_len}

-- of n numbers those from i on
pub numbers_left : {X : Type 0} (f : ℕ → X) (i n : ℕ) → i < n → map f (range_with_len i (n - i)) ≡ f i ∷ map f (range_with_len (i + 1) (n - (i + 1)))
numbers_left f i n below = let more : n - i ≡ suc (n - (i + 1)) = omega (arith, below) in ap (λ k. map f (range_with_len i k)) more
