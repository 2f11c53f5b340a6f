-- A group has one layout order.
use Rattle.std.proofs.Common.{◌≡◌, ℕ, zero, suc, ◌+◌, ◌-◌, ◌<◌, ◌≤◌, List, [], ◌∷◌, length, get_or, Less, refl, sym, ap, ap₂, ◌∙◌, subst, arith, inl, inr}
use Rattle.std.specs.Ordering.{ordering_reverse}
use Rattle.std.specs.Cmp.{IsTotalOrder}
use Rattle.std.specs.Cmp.Lexicographic.{options_total}
use Rattle.std.proofs.lemmas.Bool.{cases_lt}
use Rattle.std.proofs.lemmas.Cmp.{nat_cmp_total, on_total, then_total}
use Rattle.a429_pack.specs.declared.demands.Demand.{Demand}
use Rattle.a429_pack.specs.Demands.{IsLayoutOrder, demand_at, exponent_of, layout_cmp}
use Rattle.a429_pack.specs.Orders.{NamesEachOnce}
use Rattle.a429_pack.proofs.Orders.{names_each_once}

total : (ds : List Demand) → IsTotalOrder (layout_cmp ds)
total ds =
    then_total (on_total (λ i. exponent_of (demand_at ds i)) nat_cmp_total)
    (then_total (on_total (λ i. (demand_at ds i).label) nat_cmp_total)
    (then_total (on_total (λ i. (demand_at ds i).sdi) (options_total nat_cmp_total)) nat_cmp_total))

-- a later output comes after
far : (ds : List Demand) (xs : List ℕ) → IsLayoutOrder ds xs → (i d : ℕ) → i + 1 + d < length xs → layout_cmp ds (get_or xs i 0) (get_or xs (i + 1 + d) 0) ≡ Less
far ds xs o i zero below =
    let next : i + 1 ≡ i + 1 + 0 = omega arith in
    subst (λ (k : ℕ). layout_cmp ds (get_or xs i 0) (get_or xs k 0) ≡ Less) next (o.rising i (omega arith))
far ds xs o i (suc d) below =
    let next : i + 1 + d + 1 ≡ i + 1 + suc d = omega arith in
    (total ds).trans (get_or xs i 0) (get_or xs (i + 1 + d) 0) (get_or xs (i + 1 + suc d) 0) (far ds xs o i d (omega arith))
    (subst (λ (k : ℕ). layout_cmp ds (get_or xs (i + 1 + d) 0) (get_or xs k 0) ≡ Less) next (o.rising (i + 1 + d) (omega arith)))

behind : (ds : List Demand) (xs : List ℕ) → IsLayoutOrder ds xs → (i j : ℕ) → i < j → j < length xs → layout_cmp ds (get_or xs i 0) (get_or xs j 0) ≡ Less
behind ds xs o i j less below =
    let split : i + 1 + (j - i - 1) ≡ j = omega arith in
    subst (λ (k : ℕ). layout_cmp ds (get_or xs i 0) (get_or xs k 0) ≡ Less) split (far ds xs o i (j - i - 1) (omega (arith, split)))

-- no two outputs come after each other
not_both : (ds : List Demand) (a b : ℕ) → layout_cmp ds a b ≡ Less → layout_cmp ds b a ≡ Less → a ≡ b
not_both ds a b one other =
    let turned : Less ≡ ordering_reverse Less = sym one ∙ (total ds).antisymm a b ∙ ap ordering_reverse other in
    absurd cc

-- if two orders have been the same, the next output is the same
next_same : (ds : List Demand) (xs ys : List ℕ) → IsLayoutOrder ds xs → IsLayoutOrder ds ys → NamesEachOnce (length ds) xs → NamesEachOnce (length ds) ys
    → (k : ℕ) → k < length ds → ((i : ℕ) → i < k → get_or xs i 0 ≡ get_or ys i 0) → get_or xs k 0 ≡ get_or ys k 0
next_same ds xs ys o p X Y k below before =
    let (j, low-j, at-j) = Y.place (get_or xs k 0) (X.below k below) in
    let (i, low-i, at-i) = X.place (get_or ys k 0) (Y.below k below) in
    elim (cases_lt j k) [
      | inl early ↦ let twice : j ≡ k = X.once j k low-j below (before j early ∙ at-j) in absurd (omega (arith, twice, early))
      | inr late ↦ elim (cases_lt k j) [
        | inr equal ↦ let here : j ≡ k = omega (arith, late, equal) in sym at-j ∙ ap (λ z. get_or ys z 0) here
        | inl more ↦ elim (cases_lt i k) [
          | inl early ↦ let twice : i ≡ k = Y.once i k low-i below (sym (before i early) ∙ at-i) in absurd (omega (arith, twice, early))
          | inr later ↦ elim (cases_lt k i) [
            | inr equal ↦ let here : i ≡ k = omega (arith, later, equal) in sym (ap (λ z. get_or xs z 0) here) ∙ at-i
            | inl further ↦
                let first : layout_cmp ds (get_or xs k 0) (get_or ys k 0) ≡ Less =
                subst (λ z. layout_cmp ds (get_or xs k 0) z ≡ Less) at-i (behind ds xs o k i further (omega (arith, low-i, X.length))) in
                let second : layout_cmp ds (get_or ys k 0) (get_or xs k 0) ≡ Less =
                subst (λ z. layout_cmp ds (get_or ys k 0) z ≡ Less) at-j (behind ds ys p k j more (omega (arith, low-j, Y.length))) in
                not_both ds (get_or xs k 0) (get_or ys k 0) first second
          ]
        ]
      ]
    ]

same_before : (ds : List Demand) (xs ys : List ℕ) → IsLayoutOrder ds xs → IsLayoutOrder ds ys → NamesEachOnce (length ds) xs → NamesEachOnce (length ds) ys
    → (k : ℕ) → k ≤ length ds → (i : ℕ) → i < k → get_or xs i 0 ≡ get_or ys i 0
same_before ds xs ys o p X Y zero most i below = absurd (omega arith)
same_before ds xs ys o p X Y (suc k) most i below = elim (cases_lt i k) [
  | inl less ↦ same_before ds xs ys o p X Y k (omega arith) i less
  | inr rest ↦
      let last : k ≡ i = omega (arith, rest, below) in
      subst (λ z. get_or xs z 0 ≡ get_or ys z 0) last (next_same ds xs ys o p X Y k (omega arith) (λ j low. same_before ds xs ys o p X Y k (omega arith) j low))
]

same_lists : (xs ys : List ℕ) → length xs ≡ length ys → ((i : ℕ) → i < length xs → get_or xs i 0 ≡ get_or ys i 0) → xs ≡ ys
same_lists [] [] many same = refl
same_lists [] (y ∷ ys) many same = absurd (omega arith)
same_lists (x ∷ xs) [] many same = absurd (omega arith)
same_lists (x ∷ xs) (y ∷ ys) many same = ap₂ (λ z zs. z ∷ zs) (same 0 (omega arith)) (same_lists xs ys (omega arith) (λ i below. same (suc i) (omega arith)))

pub one_order : (ds : List Demand) (xs ys : List ℕ) → IsLayoutOrder ds xs → IsLayoutOrder ds ys → xs ≡ ys
one_order ds xs ys o p =
    let X : NamesEachOnce (length ds) xs = names_each_once (length ds) xs o.all in
    let Y : NamesEachOnce (length ds) ys = names_each_once (length ds) ys p.all in
    same_lists xs ys (X.length ∙ sym Y.length) (λ i below. same_before ds xs ys o p X Y (length ds) (omega arith) i (omega (arith, X.length)))
