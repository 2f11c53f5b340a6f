-- The stretches of a table: each is a block with the free places before it.
use Rattle.std.proofs.Common.{◌≡◌, ℕ, zero, suc, ◌+◌, ◌-◌, ◌*◌, ◌%◌, ◌<◌, ◌≤◌, List, [], ◌∷◌, length, take, get_or, map, refl, sym, ap, ◌∙◌, subst, arith}
use Rattle.std.proofs.lemmas.List.{length-map, get_or-map}
use Rattle.std.proofs.lemmas.List.Sums.{sum_by-cons}
use Rattle.a429_grid.specs.Reversal.{reversed}
use Rattle.a429_pack.specs.Sums.{start_of, Holds}
use Rattle.a429_pack.proofs.Tables.{start_more}
use Rattle.a429_slots.specs.Tables.{SlotTable, frame_of}
use Rattle.a429_slots.specs.Kept.{BlocksFollow, HoldsCell, begin_of, end_of, steps_from, stretches_of}

pub length-steps : (s : ℕ) (ends : List ℕ) → length (steps_from s ends) ≡ length ends
length-steps s [] = refl
length-steps s (e ∷ ends) = ap suc (length-steps e ends)

-- one value is not above the next
abbrev pub Rises : List ℕ → Type 0
Rises xs = (k : ℕ) → k + 1 < length xs → get_or xs k 0 ≤ get_or xs (k + 1) 0

rest_rises : (x : ℕ) (xs : List ℕ) → Rises (x ∷ xs) → Rises xs
rest_rises x xs rise k below =
    let next : suc k + 1 ≡ suc (k + 1) = omega arith in
    omega (arith, rise (suc k) (omega (arith, below)), ap (λ z. get_or (x ∷ xs) z 0) next)

first_least : (x : ℕ) (xs : List ℕ) → Rises (x ∷ xs) → (k : ℕ) → k < length xs → x ≤ get_or xs k 0
first_least x [] rise k below = absurd (omega arith)
first_least x (y ∷ xs) rise zero below = rise 0 (omega arith)
first_least x (y ∷ xs) rise (suc k) below =
    let here : x ≤ y = rise 0 (omega arith) in
    omega (arith, here, first_least y xs (rest_rises x (y ∷ xs) rise) k (omega arith))

-- the steps up to one of the ends lead to it, if none is below the one before
pub steps_lead : (s : ℕ) (ends : List ℕ) → ((k : ℕ) → k < length ends → s ≤ get_or ends k 0) → Rises ends
    → (k : ℕ) → k < length ends → s + start_of (steps_from s ends) (k + 1) ≡ get_or ends k 0
steps_lead s [] low rise k below = absurd (omega arith)
steps_lead s (e ∷ ends) low rise zero below = omega (arith, low 0 (omega arith))
steps_lead s (e ∷ ends) low rise (suc k) below =
    let first : s ≤ e = low 0 (omega arith) in
    let next : suc k + 1 ≡ suc (k + 1) = omega arith in
    let more : start_of ((e - s) ∷ steps_from e ends) (suc (k + 1)) ≡ (e - s) + start_of (steps_from e ends) (k + 1) =
    sum_by-cons (λ x. x) (e - s) (take (k + 1) (steps_from e ends)) in
    let rest : e + start_of (steps_from e ends) (k + 1) ≡ get_or ends k 0 =
    steps_lead e ends (first_least e ends rise) (rest_rises e ends rise) k (omega arith) in
    omega (arith, rest, more, first, ap (λ z. start_of ((e - s) ∷ steps_from e ends) z) next)

-- ends of demands that follow one another
pub steps_are : (s : ℕ) (ends demands : List ℕ) → length ends ≡ length demands → ((k : ℕ) → k < length demands → get_or ends k 0 ≡ s + start_of demands k + get_or demands k 0)
    → steps_from s ends ≡ demands
steps_are s [] [] same at = refl
steps_are s [] (d ∷ demands) same at = absurd (omega arith)
steps_are s (e ∷ ends) [] same at = absurd (omega arith)
steps_are s (e ∷ ends) (d ∷ demands) same at =
    let first : e ≡ s + d = omega (arith, at 0 (omega arith)) in
    let step : e - s ≡ d = omega (arith, first) in
    let more : (j : ℕ) → start_of (d ∷ demands) (suc j) ≡ d + start_of demands j = λ j. sum_by-cons (λ x. x) d (take j demands) in
    ap (λ z. z ∷ steps_from e ends) step
    ∙ ap (λ zs. d ∷ zs) (steps_are e ends demands (omega arith) (λ k below. omega (arith, at (suc k) (omega (arith, below)), more k, first)))

-- ---- the stretches of a table

pub length-stretches : (t : SlotTable) → length (stretches_of t) ≡ length t.order
length-stretches t = length-steps 0 (map (end_of t) t.order) ∙ length-map t.order (end_of t)

-- the stretch at a place of the order ends with the block, and has it
module _ (t : SlotTable) (follow : BlocksFollow t) (long : length t.order ≡ length t.outputs) where
  abbrev ends : List ℕ
  ends = map (end_of t) t.order

  count : length ends ≡ length t.outputs
  count = length-map t.order (end_of t) ∙ long

  at : (k : ℕ) → k < length t.outputs → get_or ends k 0 ≡ end_of t (get_or t.order k 0)
  at k below = get_or-map (end_of t) t.order k 0 0 (omega (arith, below, long))

  rise : Rises ends
  rise k below = omega (arith, at k (omega (arith, below, count)), at (k + 1) (omega (arith, below, count)), follow k (omega (arith, below, count)))

  lead : (k : ℕ) → k < length t.outputs → start_of (stretches_of t) (k + 1) ≡ end_of t (get_or t.order k 0)
  lead k below = omega (arith, steps_lead 0 ends (λ j inside. omega arith) rise k (omega (arith, below, count)), at k below)

  pub stretch_end : (k : ℕ) → k < length t.outputs → start_of (stretches_of t) k + get_or (stretches_of t) k 0 ≡ end_of t (get_or t.order k 0)
  stretch_end k below = omega (arith, lead k below, start_more (stretches_of t) k (omega (arith, below, length-stretches t, long)))

  pub stretch_begin : (k : ℕ) → k < length t.outputs → start_of (stretches_of t) k ≤ begin_of t (get_or t.order k 0)
  stretch_begin zero below = omega arith
  stretch_begin (suc k) below =
      let same : suc k ≡ k + 1 = omega arith in
      subst (λ (j : ℕ). start_of (stretches_of t) j ≤ begin_of t (get_or t.order j 0)) (sym same) (omega (arith, lead k (omega arith), follow k (omega arith)))

  pub stretch_holds : (k bus slot : ℕ) → k < length t.outputs → HoldsCell t (get_or t.order k 0) bus slot
      → Holds (stretches_of t) (bus * frame_of t + reversed t.frame (slot % frame_of t)) k
  stretch_holds k bus slot below holds =
      (omega (arith, below, length-stretches t, long), omega (arith, stretch_begin k below, holds.0), omega (arith, stretch_end k below, holds.1))
