-- Values that have no fault lie in their ranges.
use Rattle.std.proofs.Common.{◌≡◌, ℕ, ◌^◌, ◌<◌, ◌≤◌, ◌⊎◌, inl, inr, ⊎_elim, ℤ, pos, negsuc, not, ◌&&◌, true, false, Option, Some, None, option_map, ◌∙◌, arith}
use Rattle.std.proofs.lemmas.Bool.{or_cases, and_parts, not-false, leb-true, lt-ltb}
use Rattle.std.specs.Prelude.{int_le, IfSome}
use Rattle.a429_equipment.specs.Sound.{IsRate}
use Rattle.a429_table.specs.Faults.{is_within, is_rate, is_interval, is_hold}
use Rattle.a429_table.specs.Stated.{natural}

pub natural-pos : (limit n : ℕ) → n < limit → natural limit (pos n) ≡ n
natural-pos limit n h = rw (lt-ltb n limit h)

pub within : (low high n : ℕ) → is_within low high (pos n) ≡ true → (low ≤ n) × (n ≤ high)
within low high n h = let p = and_parts _ _ h in (leb-true low n p.0, leb-true n high p.1)

rate_from : (n : ℕ) → ((100000 ≤ n) × (n ≤ 100000)) ⊎ ((12000 ≤ n) × (n ≤ 14500)) → IsRate (natural (2 ^ 32) (pos n))
rate_from n (inl h) = inl (natural-pos (2 ^ 32) n (omega arith) ∙ omega arith)
rate_from n (inr h) = rw (natural-pos (2 ^ 32) n (omega arith)) (inr h)

pub rate_within : (z : ℤ) → not (is_rate z) ≡ false → IsRate (natural (2 ^ 32) z)
rate_within (negsuc n) h = cc
rate_within (pos n) h =
    rate_from n (⊎_elim (λ e. inl (within 100000 100000 n e)) (λ e. inr (within 12000 14500 n e)) (or_cases _ _ (not-false _ h)))

pub hold_within : (o : Option ℤ) → not (is_hold o) ≡ false → IfSome (option_map (natural (2 ^ 32)) o) (λ hold. (1 ≤ hold) × (hold ≤ 1000000))
hold_within None h = tt
hold_within (Some (negsuc n)) h = cc
hold_within (Some (pos n)) h =
    let (low, high) = within 1 1000000 n (not-false _ h) in
    rw (natural-pos (2 ^ 32) n (omega arith)) (low, high)

abbrev microseconds : ℤ → ℕ
microseconds z = natural (2 ^ 32) z

pub is_interval_within : (least most : ℤ) → not (is_interval least most) ≡ false
    → (1 ≤ microseconds least) × (microseconds least ≤ microseconds most) × (microseconds most ≤ 30000000)
is_interval_within (negsuc m) most h = cc
is_interval_within (pos m) (negsuc n) h =
    let both = and_parts (is_within 1 30000000 (pos m) && false) (int_le (pos m) (negsuc n)) (not-false _ h) in
    let no = and_parts (is_within 1 30000000 (pos m)) false both.0 in
    cc
is_interval_within (pos m) (pos n) h =
    let both = and_parts (is_within 1 30000000 (pos m) && is_within 1 30000000 (pos n)) (int_le (pos m) (pos n)) (not-false _ h) in
    let ends = and_parts (is_within 1 30000000 (pos m)) (is_within 1 30000000 (pos n)) both.0 in
    let (one, most) = within 1 30000000 m ends.0 in
    let (low, high) = within 1 30000000 n ends.1 in
    let a = natural-pos (2 ^ 32) m (omega arith) in
    let b = natural-pos (2 ^ 32) n (omega arith) in
    let order : m ≤ n = leb-true m n both.1 in
    rw (a, b) (one, order, high)
