-- Outputs are spread over the fewest buses within a capacity.
use Rattle.std.proofs.Common.{◌≡◌, ℕ, zero, suc, ◌+◌, ◌-◌, ◌*◌, ◌/◌, ◌%◌, ◌^◌, ◌<◌, ◌≤◌, List, [], ◌∷◌, ◌++◌, length, map, take, drop, sum, refl, sym, ap, ◌∙◌, subst, arith, inl, inr, length-append}
use Rattle.std.specs.Prelude.{◌==◌, ◌⊎◌, Bool, true, false, Some, None, if◌then◌else◌, nat_le, min}
use Rattle.std.specs.Int.{div_ceil}
use Rattle.std.specs.List.{AllByRecursion, list_all, range_with_len}
use Rattle.std.proofs.lemmas.Bool.{cases_lt, cases_eq}
use Rattle.std.proofs.lemmas.Bool.Decides.{nat_tests}
use Rattle.std.proofs.lemmas.Grind.{div_ceil_times}
use Rattle.std.proofs.lemmas.List.{length-take-le, map-append, take-append-drop}
use Rattle.std.proofs.lemmas.List.Sums.{sum_by-cons, sum_by-append}
use Rattle.std.proofs.lemmas.Nat.{pow_pos, pow-add}
use Rattle.std.proofs.Math.Nat.{div-mul-le_self, lt-div-mul-add, lt_of_mul-lt-mul_right, mul-le-mul_right, zero-div, zero-mod}
use Rattle.std.proofs.Math.Pow.{pow-lt}
use Rattle.a429_documents.specs.Limits.{AreFewestWithin, AreNeeded, AreShares, FitEach, IsSpread, buses_from, buses_within, demand_from, if_from, load_on}
use Rattle.a429_pack.specs.Demands.{greatest}
use Rattle.a429_word.proofs.Lists.{all_parts, clash}
use Rattle.a429_documents.proofs.Loads.{total, total-load, total_most, total_least, load-append, load_from_le, load_multiple, if_from_is}

-- ---- what a bus can have at most

-- of multiples of s
whole_below : (s q capacity : ℕ) → 0 < s → q * s ≤ capacity → q * s ≤ capacity / s * s
whole_below s q capacity some within =
    let near : capacity < capacity / s * s + s = lt-div-mul-add {a = capacity} {b = s} some in
    elim (cases_lt (capacity / s) q) [
      | inl more ↦
          let next : (capacity / s + 1) * s ≤ q * s = mul-le-mul_right {m = capacity / s + 1} {n = q} s (omega arith) in
          let parts : (capacity / s + 1) * s ≡ capacity / s * s + s = omega arith in
          absurd (omega arith)
      | inr fine ↦ mul-le-mul_right {m = q} {n = capacity / s} s fine
    ]

-- a bus without room for one more of s is full of them
whole_above : (s q capacity : ℕ) → 0 < s → capacity < q * s + s → capacity / s * s ≤ q * s
whole_above s q capacity some full =
    let within : capacity / s * s ≤ capacity = div-mul-le_self capacity s in
    let parts : (q + 1) * s ≡ q * s + s = omega arith in
    let less : capacity / s * s < (q + 1) * s = omega arith in
    let fewer : capacity / s < q + 1 = lt_of_mul-lt-mul_right s {m = capacity / s} {n = q + 1} less in
    mul-le-mul_right {m = capacity / s} {n = q} s (omega arith)

-- ---- no spread has fewer

-- a demand of at least 2^k is a multiple of it
power_multiple : (k e : ℕ) → 2 ^ k ≤ 2 ^ e → (q : ℕ) × (2 ^ e ≡ q * 2 ^ k)
power_multiple k e most = elim (cases_lt e k) [
  | inl less ↦ let above : 2 ^ e < 2 ^ k = pow-lt {i = e} {j = k} less in absurd (omega arith)
  | inr more ↦
      let digits : e ≡ (e - k) + k = omega arith in
      (2 ^ (e - k), ap (λ z. 2 ^ z) digits ∙ pow-add 2 (e - k) k)
]

multiples_from : (k : ℕ) (demands : List ℕ) → AreShares demands → AllByRecursion (λ d. (q : ℕ) × (d ≡ q * 2 ^ k)) (map (if_from (2 ^ k)) demands)
multiples_from k [] shares = tt
multiples_from k (d ∷ demands) shares =
    let (e, small, is) = shares.0 in (
      elim (if_from_is (2 ^ k) d) [
        | inl whole ↦
            let (q, times) = power_multiple k e (subst (λ (z : ℕ). 2 ^ k ≤ z) is whole.0) in
            (q, whole.1 ∙ is ∙ times)
        | inr none ↦ (0, omega (arith, none.1))
      ],
      multiples_from k demands shares.1,
    )

length-map-is : (size : ℕ) (demands : List ℕ) → length (map (if_from size) demands) ≡ length demands
length-map-is size [] = refl
length-map-is size (d ∷ demands) = let rest : length (map (if_from size) demands) ≡ length demands = length-map-is size demands in omega arith

from_fits : (demands : List ℕ) (capacity buses k : ℕ) (places : List ℕ) → AreShares demands → IsSpread demands capacity buses places
    → demand_from (2 ^ k) demands ≤ buses * (capacity / 2 ^ k * 2 ^ k)
from_fits demands capacity buses k places shares spread =
    let large : List ℕ = map (if_from (2 ^ k)) demands in
    let all : total buses (λ bus. load_on bus large places) ≡ sum large = total-load buses large places (omega (arith, spread.each, length-map-is (2 ^ k) demands)) spread.known in
    let most : total buses (λ bus. load_on bus large places) ≤ buses * (capacity / 2 ^ k * 2 ^ k) =
    total_most buses (capacity / 2 ^ k * 2 ^ k) (λ bus. load_on bus large places) (λ bus below.
    let (q, is) = load_multiple (2 ^ k) bus large places (multiples_from k demands shares) in
    let fits : q * 2 ^ k ≤ capacity = omega (arith, is, load_from_le (2 ^ k) bus demands places, spread.within bus) in
    omega (arith, is, whole_below (2 ^ k) q capacity (pow_pos k) fits))
    in
    omega arith

-- a quotient, rounded up, is at most what suffices
ceiling_most : (a b m : ℕ) → a ≤ m * b → div_ceil a b ≤ m
ceiling_most a zero m low =
    let none : a ≡ 0 = omega arith in
    subst (λ (z : ℕ). z / 0 + min 1 (z % 0) ≤ m) (sym none) (omega (arith, zero-div 0, zero-mod 0))
ceiling_most a (suc b) m low =
    let some : 0 < suc b = omega arith in
    let q : ℕ = div_ceil a (suc b) in
    let tight = (div_ceil_times a (suc b) some).1 in
    elim (cases_lt m q) [
      | inl less ↦
          let more : (m + 1) * suc b ≤ q * suc b = mul-le-mul_right {m = m + 1} {n = q} (suc b) (omega arith) in
          let parts : (m + 1) * suc b ≡ m * suc b + suc b = omega arith in
          absurd (omega arith)
      | inr fine ↦ fine
    ]

ceiling_fits : (a b m : ℕ) → 0 < b → div_ceil a b ≤ m → a ≤ m * b
ceiling_fits a b m some low =
    let above = (div_ceil_times a b some).0 in
    let more : div_ceil a b * b ≤ m * b = mul-le-mul_right {m = div_ceil a b} {n = m} b low in
    omega arith

-- ---- the greatest

greatest_most : (f : ℕ → ℕ) (s n m : ℕ) → ((k : ℕ) → f k ≤ m) → greatest (map f (range_with_len s n)) ≤ m
greatest_most f s zero m most = omega arith
greatest_most f s (suc n) m most =
    let rest : greatest (map f (range_with_len (s + 1) n)) ≤ m = greatest_most f (s + 1) n m most in
    let first : f s ≤ m = most s in
    omega arith

greatest_has : (f : ℕ → ℕ) (s n k : ℕ) → s ≤ k → k < s + n → f k ≤ greatest (map f (range_with_len s n))
greatest_has f s zero k from below = absurd (omega arith)
greatest_has f s (suc n) k from below = elim (cases_eq k s) [
  | inl same ↦ omega (arith, ap f same)
  | inr other ↦
      let rest : f k ≤ greatest (map f (range_with_len (s + 1) n)) = greatest_has f (s + 1) n k (omega arith) (omega arith) in
      omega arith
]

-- ---- a spread over this number of buses

-- a bus has room, or none has
room : (n d capacity : ℕ) (load : ℕ → ℕ) → ((bus : ℕ) × (bus < n) × (load bus + d ≤ capacity)) ⊎ ((bus : ℕ) → bus < n → capacity < load bus + d)
room zero d capacity load = inr (λ bus below. absurd (omega arith))
room (suc n) d capacity load = elim (cases_lt capacity (load n + d)) [
  | inl full ↦ elim (room n d capacity load) [
    | inl some ↦ inl (some.0, omega (arith, some.1), some.2)
    | inr none ↦ inr (λ bus below. elim (cases_eq bus n) [
      | inl same ↦ omega (arith, ap load same)
      | inr other ↦ none bus (omega arith)
    ])
  ]
  | inr fits ↦ inl (n, omega arith, fits)
]

-- a least demand, and the others
record Split (demands : List ℕ) : Type 0 where
  front : List ℕ
  d : ℕ
  rest : List ℕ
  is : demands ≡ front ++ d ∷ rest
  least : AllByRecursion (λ x. d ≤ x) demands

lower : (a b : ℕ) (xs : List ℕ) → a ≤ b → AllByRecursion (λ x. b ≤ x) xs → AllByRecursion (λ x. a ≤ x) xs
lower a b [] less all = tt
lower a b (x ∷ xs) less all = (omega (arith, all.0), lower a b xs less all.1)

split : (x : ℕ) (xs : List ℕ) → Split (x ∷ xs)
split x [] = record { front = []; d = x; rest = []; is = refl; least = (omega arith, tt) }
split x (y ∷ ys) =
    let s : Split (y ∷ ys) = split y ys in
    elim (cases_lt s.d x) [
      | inl less ↦ record { front = x ∷ s.front; d = s.d; rest = s.rest; is = ap (λ (l : List ℕ). x ∷ l) s.is; least = (omega arith, s.least) }
      | inr most ↦ record { front = []; d = x; rest = y ∷ ys; is = refl; least = (omega arith, lower x s.d (y ∷ ys) most s.least) }
    ]

-- ---- one more output, whose demand is the least

multiples_of : (k : ℕ) (demands : List ℕ) → AreShares demands → AllByRecursion (λ d. 2 ^ k ≤ d) demands → AllByRecursion (λ d. (q : ℕ) × (d ≡ q * 2 ^ k)) demands
multiples_of k [] shares least = tt
multiples_of k (d ∷ demands) shares least =
    let (e, small, is) = shares.0 in
    let (q, times) = power_multiple k e (subst (λ (z : ℕ). 2 ^ k ≤ z) is least.0) in
    ((q, is ∙ times), multiples_of k demands shares.1 least.1)

all_from : (size : ℕ) (demands : List ℕ) → AllByRecursion (λ d. size ≤ d) demands → sum demands ≤ demand_from size demands
all_from size [] least = omega arith
all_from size (d ∷ demands) least =
    let rest : sum demands ≤ demand_from size demands = all_from size demands least.1 in
    let first : d ≤ if_from size d = elim (if_from_is size d) [ inl whole ↦ omega (arith, whole.1) | inr none ↦ absurd (omega (arith, none.0, least.0)) ] in
    omega (arith, sum_by-cons (λ x. x) d demands, sum_by-cons (λ x. x) (if_from size d) (map (if_from size) demands))

sum_split : (d : ℕ) (front rest : List ℕ) → sum (front ++ d ∷ rest) ≡ d + sum (front ++ rest)
sum_split d front rest =
    omega (arith, sum_by-append (λ x. x) front (d ∷ rest), sum_by-append (λ x. x) front rest, sum_by-cons (λ x. x) d rest)

fewer_from : (size d : ℕ) (front rest : List ℕ) → demand_from size (front ++ rest) ≤ demand_from size (front ++ d ∷ rest)
fewer_from size d front rest =
    let f : ℕ → ℕ = if_from size in
    omega (
      arith,
      ap sum (map-append f front rest),
      ap sum (map-append f front (d ∷ rest)),
      sum_split (f d) (map f front) (map f rest),
    )

all_both : {X : Type 0} (P : X → Type 0) (xs ys : List X) → AllByRecursion P xs → AllByRecursion P ys → AllByRecursion P (xs ++ ys)
all_both P [] ys all more = more
all_both P (x ∷ xs) ys all more = (all.0, all_both P xs ys all.1 more)

chosen_load : (place bus d : ℕ) → ((place ≡ bus) × ((if place == bus then d else 0) ≡ d)) ⊎ ((if place == bus then d else 0) ≡ 0)
chosen_load place bus d = elim (cases_eq place bus) [
  | inl same ↦ inl (same, grind (arith, nat_tests))
  | inr other ↦ inr (grind (arith, nat_tests))
]

-- on a bus that has room
add_to : (capacity buses d place : ℕ) (front rest before after : List ℕ) → length before ≡ length front → IsSpread (front ++ rest) capacity buses (before ++ after) → place < buses
    → load_on place (front ++ rest) (before ++ after) + d ≤ capacity → IsSpread (front ++ d ∷ rest) capacity buses (before ++ place ∷ after)
add_to capacity buses d place front rest before after each spread below fits =
    let parts = all_parts (λ p. p < buses) before after spread.known in
    record {
      each = omega (arith, spread.each, length-append before after, length-append front rest, length-append before (place ∷ after), length-append front (d ∷ rest));
      known = all_both (λ p. p < buses) before (place ∷ after) parts.0 (below, parts.1);
      within = λ bus.
          let old : load_on bus (front ++ rest) (before ++ after) ≡ load_on bus front before + load_on bus rest after = load-append bus front rest before after each in
          let new : load_on bus (front ++ d ∷ rest) (before ++ place ∷ after) ≡ load_on bus front before + ((if place == bus then d else 0) + load_on bus rest after) =
          load-append bus front (d ∷ rest) before (place ∷ after) each in
          elim (chosen_load place bus d) [
            | inl here ↦ omega (arith, here.1, ap (λ b. load_on b (front ++ rest) (before ++ after)) here.0)
            | inr none ↦ omega (arith, none, spread.within bus)
          ];
    }

-- some bus has room
no_full : (capacity buses k d : ℕ) (front rest places : List ℕ) → d ≡ 2 ^ k → AreShares (front ++ rest) → AllByRecursion (λ x. 2 ^ k ≤ x) (front ++ rest) → AllByRecursion (λ x. 2 ^ k ≤ x) (front ++ d ∷ rest)
    → demand_from (2 ^ k) (front ++ d ∷ rest) ≤ buses * (capacity / 2 ^ k * 2 ^ k) → IsSpread (front ++ rest) capacity buses places
    → ((bus : ℕ) → bus < buses → capacity < load_on bus (front ++ rest) places + d) → ⊥
no_full capacity buses k d front rest places is shares others least fits spread full =
    let whole : ℕ = capacity / 2 ^ k * 2 ^ k in
    let some : 0 < 2 ^ k = pow_pos k in
    let all : total buses (λ bus. load_on bus (front ++ rest) places) ≡ sum (front ++ rest) = total-load buses (front ++ rest) places spread.each spread.known in
    let most : buses * whole ≤ total buses (λ bus. load_on bus (front ++ rest) places) =
    total_least buses whole (λ bus. load_on bus (front ++ rest) places) (λ bus below.
    let (q, times) = load_multiple (2 ^ k) bus (front ++ rest) places (multiples_of k (front ++ rest) shares others) in
    let above : capacity < q * 2 ^ k + 2 ^ k = omega (arith, full bus below) in
    omega (arith, times, whole_above (2 ^ k) q capacity some above))
    in
    omega (arith, all_from (2 ^ k) (front ++ d ∷ rest) least, sum_split d front rest)

add_least : (capacity buses d : ℕ) (front rest places : List ℕ) → AreShares (front ++ d ∷ rest) → AllByRecursion (λ x. d ≤ x) (front ++ d ∷ rest)
    → ((k : ℕ) → k ≤ 13 → demand_from (2 ^ k) (front ++ d ∷ rest) ≤ buses * (capacity / 2 ^ k * 2 ^ k)) → IsSpread (front ++ rest) capacity buses places
    → (all : List ℕ) × IsSpread (front ++ d ∷ rest) capacity buses all
add_least capacity buses d front rest places shares least fits spread =
    let before : List ℕ = take (length front) places in
    let after : List ℕ = drop (length front) places in
    let joined : before ++ after ≡ places = take-append-drop (length front) places in
    let each : length before ≡ length front = length-take-le (length front) places (omega (arith, spread.each, length-append front rest)) in
    elim (room buses d capacity (λ bus. load_on bus (front ++ rest) places)) [
      | inl found ↦ (
        before ++ found.0 ∷ after,
        add_to capacity buses d found.0 front rest before after each (subst (λ (ps : List ℕ). IsSpread (front ++ rest) capacity buses ps) (sym joined) spread) found.1
            (subst (λ (ps : List ℕ). load_on found.0 (front ++ rest) ps + d ≤ capacity) (sym joined) found.2),
      )
      | inr full ↦
          let parts = all_parts (λ x. (k : ℕ) × (k ≤ 13) × (x ≡ 2 ^ k)) front (d ∷ rest) shares in
          let (k, small, is) = parts.1.0 in
          let lows : AllByRecursion (λ x. 2 ^ k ≤ x) (front ++ d ∷ rest) = subst (λ (z : ℕ). AllByRecursion (λ x. z ≤ x) (front ++ d ∷ rest)) is least in
          let low = all_parts (λ x. 2 ^ k ≤ x) front (d ∷ rest) lows in
          absurd (no_full capacity buses k d front rest places is (all_both (λ x. (k : ℕ) × (k ≤ 13) × (x ≡ 2 ^ k)) front rest parts.0 parts.1.1) (all_both (λ x. 2 ^ k ≤ x) front rest low.0 low.1.1) lows (fits k small) spread full)
    ]

spread_over : (capacity buses n : ℕ) (demands : List ℕ) → length demands ≡ n → AreShares demands
    → ((k : ℕ) → k ≤ 13 → demand_from (2 ^ k) demands ≤ buses * (capacity / 2 ^ k * 2 ^ k)) → (places : List ℕ) × IsSpread demands capacity buses places
spread_over capacity buses zero [] many shares fits = ([], record { each = refl; known = tt; within = λ bus. omega arith })
spread_over capacity buses zero (x ∷ xs) many shares fits = absurd (omega arith)
spread_over capacity buses (suc n) [] many shares fits = absurd (omega arith)
spread_over capacity buses (suc n) (x ∷ xs) many shares fits =
    let s : Split (x ∷ xs) = split x xs in
    let here : AreShares (s.front ++ s.d ∷ s.rest) = subst AreShares s.is shares in
    let within : (k : ℕ) → k ≤ 13 → demand_from (2 ^ k) (s.front ++ s.d ∷ s.rest) ≤ buses * (capacity / 2 ^ k * 2 ^ k) = λ k small.
    subst (λ (l : List ℕ). demand_from (2 ^ k) l ≤ buses * (capacity / 2 ^ k * 2 ^ k)) s.is (fits k small)
    in
    let parts = all_parts (λ x. (k : ℕ) × (k ≤ 13) × (x ≡ 2 ^ k)) s.front (s.d ∷ s.rest) here in
    let few : length (s.front ++ s.rest) ≡ n = omega (arith, many, ap length s.is, length-append s.front (s.d ∷ s.rest), length-append s.front s.rest) in
    let others : (places : List ℕ) × IsSpread (s.front ++ s.rest) capacity buses places =
    spread_over capacity buses n (s.front ++ s.rest) few (all_both (λ x. (k : ℕ) × (k ≤ 13) × (x ≡ 2 ^ k)) s.front s.rest parts.0 parts.1.1)
    (λ k small. omega (arith, within k small, fewer_from (2 ^ k) s.d s.front s.rest))
    in
    subst (λ (l : List ℕ). (places : List ℕ) × IsSpread l capacity buses places) (sym s.is)
    (add_least capacity buses s.d s.front s.rest others.0 here (subst (λ (l : List ℕ). AllByRecursion (λ x. s.d ≤ x) l) s.is s.least) within others.1)

-- ---- the fewest

pub buses_within_are : (capacity : ℕ) (demands : List ℕ) (n buses : ℕ) → n ≡ 14 → buses ≡ greatest (map (buses_from capacity demands) (range_with_len 0 n)) → buses ≡ buses_within capacity demands
unfolding buses_within
buses_within_are capacity demands n buses all is = is ∙ ap (λ (z : ℕ). greatest (map (buses_from capacity demands) (range_with_len 0 z))) all

-- if an output has at least 2^k cells, a bus has room for 2^k; if none has, there is nothing to carry
pub none_from : (capacity size : ℕ) (demands : List ℕ) → FitEach capacity demands → capacity < size → demand_from size demands ≡ 0
none_from capacity size [] fit above = refl
none_from capacity size (d ∷ demands) fit above =
    let rest : demand_from size demands ≡ 0 = none_from capacity size demands fit.1 above in
    let first : if_from size d ≡ 0 = elim (if_from_is size d) [ inl whole ↦ absurd (omega (arith, whole.0, fit.0)) | inr none ↦ none.1 ] in
    omega (arith, sum_by-cons (λ x. x) (if_from size d) (map (if_from size) demands))

pub whole_some : (s capacity : ℕ) → 0 < s → s ≤ capacity → 0 < capacity / s * s
whole_some s capacity some fits =
    let one : 1 * s ≤ capacity / s * s = whole_below s 1 capacity some (omega arith) in
    omega arith

-- if some output has at least this size, a bus has room for one
pub whole_there : (capacity size demand : ℕ) (demands : List ℕ) → FitEach capacity demands → 0 < size → demand ≡ demand_from size demands → (demand ≡ 0 → ⊥) → 0 < capacity / size * size
whole_there capacity size demand demands fit some is there = elim (cases_lt capacity size) [
  | inl none ↦ absurd (there (is ∙ none_from capacity size demands fit none))
  | inr fits ↦ whole_some size capacity some fits
]

each_fits : (capacity k : ℕ) (demands : List ℕ) → FitEach capacity demands → k < 14 → demand_from (2 ^ k) demands ≤ buses_within capacity demands * (capacity / 2 ^ k * 2 ^ k)
unfolding buses_within
each_fits capacity k demands fit small =
    let m : ℕ = greatest (map (buses_from capacity demands) (range_with_len 0 14)) in
    elim (cases_lt capacity (2 ^ k)) [
      | inl none ↦ omega (arith, none_from capacity (2 ^ k) demands fit none)
      | inr some ↦ ceiling_fits (demand_from (2 ^ k) demands) (capacity / 2 ^ k * 2 ^ k) m (whole_some (2 ^ k) capacity (pow_pos k) some) (greatest_has (buses_from capacity demands) 0 14 k (omega arith) (omega arith))
    ]

none_fewer : (demands : List ℕ) (capacity others : ℕ) (places : List ℕ) → AreShares demands → IsSpread demands capacity others places → buses_within capacity demands ≤ others
unfolding buses_within
none_fewer demands capacity others places shares spread =
    greatest_most (buses_from capacity demands) 0 14 others
    (λ k. ceiling_most (demand_from (2 ^ k) demands) (capacity / 2 ^ k * 2 ^ k) others (from_fits demands capacity others k places shares spread))

fewest_within : (demands : List ℕ) (capacity : ℕ) → AreShares demands → FitEach capacity demands → AreFewestWithin demands capacity (buses_within capacity demands)
fewest_within demands capacity shares fit = record {
  enough = spread_over capacity (buses_within capacity demands) (length demands) demands refl shares (λ k small. each_fits capacity k demands fit (omega arith));
  least = λ others places spread. none_fewer demands capacity others places shares spread;
}

-- ---- one output alone

-- each output of a spread fits
spread_fits : (demands places : List ℕ) (capacity : ℕ) → length places ≡ length demands → ((bus : ℕ) → load_on bus demands places ≤ capacity) → FitEach capacity demands
spread_fits [] places capacity each within = tt
spread_fits (d ∷ demands) [] capacity each within = absurd (omega arith)
spread_fits (d ∷ demands) (place ∷ places) capacity each within = (
  elim (chosen_load place place d) [
    | inl here ↦ omega (arith, here.1, within place)
    | inr none ↦ let all : (if place == place then d else 0) ≡ d = grind (arith, nat_tests) in omega (arith, all, within place)
  ],
  spread_fits demands places capacity (omega arith) (λ bus. omega (arith, within bus)),
)

pub fit_from_test : (capacity : ℕ) (demands : List ℕ) → list_all (λ d. nat_le d capacity) demands ≡ true → FitEach capacity demands
fit_from_test capacity [] is = tt
fit_from_test capacity (d ∷ demands) is =
    elim (cases_lt capacity d) [
      | inl above ↦ let no : nat_le d capacity ≡ false = grind (arith, nat_tests) in absurd (grind (arith, no))
      | inr fits ↦ let yes : nat_le d capacity ≡ true = grind (arith, nat_tests) in (fits, fit_from_test capacity demands (rw yes at is))
    ]

test_from_fit : (capacity : ℕ) (demands : List ℕ) → FitEach capacity demands → list_all (λ d. nat_le d capacity) demands ≡ true
test_from_fit capacity [] fit = refl
test_from_fit capacity (d ∷ demands) fit =
    let low : d ≤ capacity = fit.0 in
    let yes : nat_le d capacity ≡ true = grind (arith, nat_tests) in
    rw yes (test_from_fit capacity demands fit.1)

pub answered : (demands : List ℕ) (capacity : ℕ) (fits : Bool) → AreShares demands → list_all (λ d. nat_le d capacity) demands ≡ fits
    → AreNeeded demands capacity (if fits then Some (buses_within capacity demands) else None)
answered demands capacity true shares is = fewest_within demands capacity shares (fit_from_test capacity demands is)
answered demands capacity false shares is = λ buses places spread.
    let yes : list_all (λ d. nat_le d capacity) demands ≡ true = test_from_fit capacity demands (spread_fits demands places capacity spread.each spread.within) in
    clash (sym is ∙ yes)
