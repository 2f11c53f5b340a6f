-- The fewest buses of a group are those that carry its demand.
use Rattle.std.proofs.Common.{◌≡◌, ℕ, zero, suc, ◌+◌, ◌-◌, ◌*◌, ◌/◌, ◌^◌, ◌<◌, ◌≤◌, Some, None, List, [], ◌∷◌, length, get_or, map, sum, refl, sym, ap, ◌∙◌, subst, arith, inl, inr}
use Rattle.std.specs.Int.{div_ceil}
use Rattle.std.specs.List.{range_with_len}
use Rattle.std.proofs.lemmas.Bool.{cases_lt}
use Rattle.std.proofs.lemmas.List.{length-map, map-id}
use Rattle.std.proofs.lemmas.List.Sorted.{IsPermutation-map, sum_by-IsPermutation}
use Rattle.std.proofs.lemmas.List.Sums.{sum_by-cons}
use Rattle.std.proofs.lemmas.Nat.{pow_pos}
use Rattle.std.proofs.lemmas.Simd.{map-map}
use Rattle.std.proofs.Math.Nat.{le-max_left, le-max_right, mul-le-mul_right}
use Rattle.a429_grid.specs.Blocks.{HasPeriodicBlocks}
use Rattle.a429_pack.specs.declared.demands.Demand.{Demand}
use Rattle.a429_pack.specs.Demanded.{demand_of, IsBusCount}
use Rattle.a429_pack.specs.Demands.{demand_at, exponent_of, exponents_of, frame_of, greatest}
use Rattle.a429_pack.specs.Schedules.{IsFewest}
use Rattle.a429_pack.proofs.Arranging.{Arranged, arranged}
use Rattle.a429_pack.proofs.Packings.{Packing, all_but_last, asked, ceil_fits, demand_over, fewest, packing_by}

-- an output of a period, as it is laid out
abbrev output_of : ℕ → Demand
output_of k = record { period = Some k; label = 0; sdi = None }

abbrev outputs_of : List ℕ → List Demand
outputs_of exponents = map output_of exponents

exponents_are : (exponents : List ℕ) → exponents_of (outputs_of exponents) ≡ exponents
exponents_are exponents = map-map exponent_of output_of exponents ∙ map-id exponents

frame_is : (exponents : List ℕ) → frame_of (outputs_of exponents) ≡ greatest exponents
frame_is exponents = ap greatest (exponents_are exponents)

-- what the outputs ask for, one after another
asked_from : (h s : ℕ) (before exponents : List ℕ) → ((k : ℕ) → exponent_of (demand_at (outputs_of before) (s + k)) ≡ get_or exponents k 0)
    → greatest exponents ≤ h → map (asked h (outputs_of before)) (range_with_len s (length exponents)) ≡ map (λ k. 2 ^ h / 2 ^ k) exponents
asked_from h s before [] at most = refl
asked_from h s before (k ∷ exponents) at most =
    let here : s + 0 ≡ s = omega arith in
    let first : exponent_of (demand_at (outputs_of before) s) ≡ k = ap (λ z. exponent_of (demand_at (outputs_of before) z)) (sym here) ∙ at 0 in
    let few : k ≤ h = omega (arith, le-max_left k (greatest exponents)) in
    let one : asked h (outputs_of before) s ≡ 2 ^ h / 2 ^ k = ap (λ z. 2 ^ (h - z)) first ∙ sym (demand_over h k few) in
    let rest : map (asked h (outputs_of before)) (range_with_len (s + 1) (length exponents)) ≡ map (λ k. 2 ^ h / 2 ^ k) exponents =
    asked_from h (s + 1) before exponents
    (λ j. let next : s + 1 + j ≡ s + suc j = omega arith in ap (λ z. exponent_of (demand_at (outputs_of before) z)) next ∙ at (suc j))
    (omega (arith, le-max_right k (greatest exponents))) in
    ap (λ x. x ∷ map (asked h (outputs_of before)) (range_with_len (s + 1) (length exponents))) one ∙ ap (λ xs. 2 ^ h / 2 ^ k ∷ xs) rest

exponent_at : (exponents : List ℕ) (k : ℕ) → exponent_of (demand_at (outputs_of exponents) k) ≡ get_or exponents k 0
exponent_at [] k = refl
exponent_at (x ∷ xs) zero = refl
exponent_at (x ∷ xs) (suc k) = exponent_at xs k

-- the outputs in an order in which the periods do not fall
abbrev order_of : (exponents : List ℕ) → Arranged (λ i. exponent_of (demand_at (outputs_of exponents) i)) (range_with_len 0 (length (outputs_of exponents)))
order_of exponents = arranged (λ i. exponent_of (demand_at (outputs_of exponents) i)) (range_with_len 0 (length (outputs_of exponents)))

total_is : (exponents : List ℕ) → sum (map (asked (greatest exponents) (outputs_of exponents)) (order_of exponents).order) ≡ demand_of exponents
total_is exponents =
    let h : ℕ = greatest exponents in
    let f : ℕ → ℕ = asked h (outputs_of exponents) in
    let range : List ℕ = range_with_len 0 (length (outputs_of exponents)) in
    let moved = IsPermutation-map f range (order_of exponents).order (order_of exponents).moved in
    let start : (k : ℕ) → exponent_of (demand_at (outputs_of exponents) (0 + k)) ≡ get_or exponents k 0 = λ k.
    let same : 0 + k ≡ k = omega arith in ap (λ z. exponent_of (demand_at (outputs_of exponents) z)) same ∙ exponent_at exponents k in
    sum_by-IsPermutation (λ x. x) (map f range) (map f (order_of exponents).order) moved
    ∙ ap (λ n. sum (map f (range_with_len 0 n))) (length-map exponents output_of)
    ∙ ap sum (asked_from h 0 exponents exponents start (omega arith))

-- the demand by the frame, rounded up, is the fewest
ceiling_is_fewest : ((h : ℕ) → HasPeriodicBlocks h) → (exponents : List ℕ) (buses : ℕ) → buses ≡ div_ceil (demand_of exponents) (2 ^ greatest exponents)
    → IsFewest (2 ^ greatest exponents) (map (λ k. 2 ^ k) exponents) buses
ceiling_is_fewest blocks exponents buses is =
    let h : ℕ = greatest exponents in
    let ds : List Demand = outputs_of exponents in
    let order : List ℕ = (order_of exponents).order in
    let demands : List ℕ = map (asked h ds) order in
    let packing : Packing h (length ds) ds order demands =
    packing_by h ds order demands (blocks h) (sym (frame_is exponents)) (order_of exponents).moved
    (λ i below. (order_of exponents).rising i (i + 1) 0 (omega arith) below) refl in
    subst (λ (ks : List ℕ). IsFewest (2 ^ h) (map (λ k. 2 ^ k) ks) buses) (exponents_are exponents)
    (fewest h (length ds) ds order demands buses packing (is ∙ ap (λ t. div_ceil t (2 ^ h)) (sym (total_is exponents))))

-- this number of buses is the quotient, rounded up
ceiling_is : (x total buses : ℕ) → total ≤ buses * x → (buses - 1) * x < total → (m : ℕ) → total ≤ m * x → m * x < total + x → buses ≡ m
ceiling_is x total buses within above m fits tight =
    elim (cases_lt buses m) [
      | inl fewer ↦
          let more : (buses + 1) * x ≤ m * x = mul-le-mul_right {m = buses + 1} {n = m} x (omega arith) in
          absurd (omega arith)
      | inr least ↦ elim (cases_lt m buses) [
        | inl more ↦
            let fewer : m * x ≤ (buses - 1) * x = mul-le-mul_right {m = m} {n = buses - 1} x (omega arith) in
            absurd (omega arith)
        | inr same ↦ omega arith
      ]
    ]

pub carried : ((h : ℕ) → HasPeriodicBlocks h) → (exponents : List ℕ) (buses : ℕ) → 1 ≤ length exponents → IsBusCount exponents buses
    → IsFewest (2 ^ greatest exponents) (map (λ k. 2 ^ k) exponents) buses
carried blocks exponents buses some count =
    let x : ℕ = 2 ^ greatest exponents in
    let total : ℕ = demand_of exponents in
    let fits : (total ≤ div_ceil total x * x) × (div_ceil total x * x < total + x) = ceil_fits (greatest exponents) total x (div_ceil total x) refl refl in
    ceiling_is_fewest blocks exponents buses (ceiling_is x total buses count.within count.above (div_ceil total x) fits.0 fits.1)

-- no two numbers are the fewest
one_fewest : (frame : ℕ) (periods : List ℕ) (m n : ℕ) → IsFewest frame periods m → IsFewest frame periods n → m ≡ n
one_fewest frame periods m n first second =
    let (s, rows, serves) = first.enough in
    let (t, others, works) = second.enough in
    omega (arith, first.least t works, second.least s serves)

-- an output has a cell
some_demand : (exponents : List ℕ) → 1 ≤ length exponents → 1 ≤ demand_of exponents
some_demand [] some = absurd (omega arith)
some_demand (k ∷ exponents) some =
    let h : ℕ = greatest (k ∷ exponents) in
    omega (arith, sum_by-cons (λ x. x) (2 ^ h / 2 ^ k) (map (λ j. 2 ^ h / 2 ^ j) exponents), demand_over h k (le-max_left k (greatest exponents)), pow_pos (h - k))

pub only : ((h : ℕ) → HasPeriodicBlocks h) → (exponents : List ℕ) (buses : ℕ) → 1 ≤ length exponents
    → IsFewest (2 ^ greatest exponents) (map (λ k. 2 ^ k) exponents) buses → IsBusCount exponents buses
only blocks exponents buses some least =
    let x : ℕ = 2 ^ greatest exponents in
    let total : ℕ = demand_of exponents in
    let ceiling : ℕ = div_ceil total x in
    let fits : (total ≤ ceiling * x) × (ceiling * x < total + x) = ceil_fits (greatest exponents) total x ceiling refl refl in
    let same : ceiling ≡ buses = one_fewest x (map (λ k. 2 ^ k) exponents) ceiling buses (ceiling_is_fewest blocks exponents ceiling refl) least in
    subst (IsBusCount exponents) same (record {
      within = fits.0;
      above = all_but_last ceiling x total fits.1 (some_demand exponents some);
    })
