-- The tolerance that a group has if none is given is at most half of each of its periods.
use Rattle.std.proofs.Common.{◌≡◌, ◌*◌, ◌≤◌, ℕ, false, List, [], ◌∷◌, map, refl, arith}
use Rattle.std.specs.Prelude.{min, nat_lt}
use Rattle.std.specs.List.{fold, list_any}
use Rattle.std.proofs.lemmas.Bool.{le-ltb}
use Rattle.std.proofs.lemmas.Nat.{mul-le}
use Rattle.std.proofs.Math.Nat.{div-mul-le_self}
use Rattle.a429_judge.specs.Tolerance.{default_tolerance, half_period}
use Rattle.a429_slots.specs.Proposed.{Proposed}
use Rattle.a429_slots.specs.Tables.{frame_of}
use Rattle.a429_recordings.specs.JudgedPlans.{duty_of, groups_at, is_any_wide, is_wide, is_wide_in, outputs_at, period_at, shortest_period}
use Rattle.a429_recordings.specs.Timeline.{rate_of, table_of}

within_half : (rate shortest period : ℕ) → shortest ≤ period → 2 * (default_tolerance rate shortest * rate) ≤ 36000000 * period
within_half rate shortest period less =
    let least : default_tolerance rate shortest ≤ half_period rate shortest = omega arith in
    omega (arith, less, mul-le (default_tolerance rate shortest) rate (half_period rate shortest) rate least (omega arith), div-mul-le_self (18000000 * shortest) rate)

not_wide : (rate shortest period : ℕ) → shortest ≤ period → nat_lt (36000000 * period) (2 * (default_tolerance rate shortest * rate)) ≡ false
not_wide rate shortest period less =
    le-ltb (36000000 * period) (2 * (default_tolerance rate shortest * rate)) (within_half rate shortest period less)

-- what is folded is the least
least_of : (p : ℕ → ℕ) (a : ℕ) (xs : List ℕ) → fold (λ n o. min n (p o)) a xs ≤ a
least_of p a [] = omega arith
least_of p a (x ∷ xs) = omega (arith, least_of p (min a (p x)) xs)

own_wide : (q : Proposed) (g o : ℕ) → shortest_period q g ≤ period_at q g o → is_wide (duty_of q [] g o) ≡ false
unfolding duty_of
own_wide q g o less = not_wide (rate_of q g) (shortest_period q g) (period_at q g o) less

none_of : (q : Proposed) (g a : ℕ) (xs : List ℕ) → shortest_period q g ≤ fold (λ n o. min n (period_at q g o)) a xs
    → list_any is_wide (map (duty_of q [] g) xs) ≡ false
none_of q g a [] less = refl
none_of q g a (x ∷ xs) less =
    let here : is_wide (duty_of q [] g x) ≡ false = own_wide q g x (omega (arith, less, least_of (period_at q g) (min a (period_at q g x)) xs)) in
    let later = none_of q g (min a (period_at q g x)) xs less in
    rw (here, later) refl

none_in : (q : Proposed) (g : ℕ) → is_wide_in q [] g ≡ false
none_in q g = none_of q g (frame_of (table_of q g)) (outputs_at q g) (omega arith)

none_at : (q : Proposed) (gs : List ℕ) → list_any (is_wide_in q []) gs ≡ false
none_at q [] = refl
none_at q (g ∷ gs) = rw (none_in q g, none_at q gs) refl

pub none_wide : (q : Proposed) → is_any_wide q [] ≡ false
none_wide q = none_at q (groups_at q)
