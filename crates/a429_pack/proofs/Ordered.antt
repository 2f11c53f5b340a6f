-- Sorted entries are the outputs in layout order.
use Rattle.std.proofs.Common.{◌≡◌, ℕ, zero, suc, ◌+◌, ◌<◌, ◌≤◌, None, List, [], ◌∷◌, length, get_or, map, Ordering, Less, Equal, Greater, false, refl, sym, ap, ◌∙◌, subst, arith, inl, inr}
use Rattle.std.specs.List.{All, range_with_len}
use Rattle.std.specs.List.Sorted.{IsPermutation, IsSorted}
use Rattle.std.specs.Option.{option_cmp}
use Rattle.std.specs.Ordering.{nat_cmp, is_lt, ordering_then, ordering_reverse}
use Rattle.std.specs.Cmp.{nat_cmp_is, then_flip}
use Rattle.std.specs.Cmp.Lexicographic.{options_total}
use Rattle.std.proofs.lemmas.Bool.{cases_lt}
use Rattle.std.proofs.lemmas.Cmp.{nat_cmp_total}
use Rattle.std.proofs.lemmas.List.{length-map, get_or-map}
use Rattle.std.proofs.lemmas.List.Sorted.{All-permutation, IsPermutation-map, length_permutation}
use Rattle.a429_pack.specs.contracts.entry.EntryOrd.TheImpl.{ghosts}
use Rattle.a429_pack.specs.declared.demands.Demand.{Demand}
use Rattle.a429_pack.specs.declared.entry.Entry.{Entry}
use Rattle.a429_pack.specs.Demands.{AreFit, demand_at}
use Rattle.a429_pack.specs.Entries.{AreInOrder, entry_of, entries_from, inputs_of}
use Rattle.a429_pack.proofs.Counting.{Orders, orders_apart}
use Rattle.a429_pack.proofs.Entries.{blank}
use Rattle.a429_pack.proofs.Orders.{orders_of}

-- ---- comparisons

-- the first of four answers that is not `Equal`
abbrev chain : Ordering → Ordering → Ordering → Ordering → Ordering
chain a b c d = ordering_then a (ordering_then b (ordering_then c d))

abbrev entry_cmp : Entry → Entry → Ordering
entry_cmp x y = chain (nat_cmp x.exponent y.exponent) (nat_cmp x.label y.label) (option_cmp nat_cmp x.sdi y.sdi) (nat_cmp x.input y.input)

chain_turned : (a b c d : Ordering) → chain (ordering_reverse a) (ordering_reverse b) (ordering_reverse c) (ordering_reverse d) ≡ ordering_reverse (chain a b c d)
chain_turned a b c d =
    ap (λ z. ordering_then (ordering_reverse a) (ordering_then (ordering_reverse b) z)) (then_flip c d)
    ∙ ap (λ z. ordering_then (ordering_reverse a) z) (then_flip b (ordering_then c d))
    ∙ then_flip a (ordering_then b (ordering_then c d))

entry_cmp_turned : (x y : Entry) → entry_cmp x y ≡ ordering_reverse (entry_cmp y x)
entry_cmp_turned x y =
    ap (λ z. chain z (nat_cmp x.label y.label) (option_cmp nat_cmp x.sdi y.sdi) (nat_cmp x.input y.input)) (nat_cmp_total.antisymm x.exponent y.exponent)
    ∙ ap (λ z. chain (ordering_reverse (nat_cmp y.exponent x.exponent)) z (option_cmp nat_cmp x.sdi y.sdi) (nat_cmp x.input y.input)) (nat_cmp_total.antisymm x.label y.label)
    ∙ ap (λ z. chain (ordering_reverse (nat_cmp y.exponent x.exponent)) (ordering_reverse (nat_cmp y.label x.label)) z (nat_cmp x.input y.input)) ((options_total nat_cmp_total).antisymm x.sdi y.sdi)
    ∙ ap (λ z. chain (ordering_reverse (nat_cmp y.exponent x.exponent)) (ordering_reverse (nat_cmp y.label x.label)) (ordering_reverse (option_cmp nat_cmp y.sdi x.sdi)) z) (nat_cmp_total.antisymm x.input y.input)
    ∙ chain_turned (nat_cmp y.exponent x.exponent) (nat_cmp y.label x.label) (option_cmp nat_cmp y.sdi x.sdi) (nat_cmp y.input x.input)

less_turned : (o : Ordering) → is_lt o ≡ false → (o ≡ Equal → ⊥) → ordering_reverse o ≡ Less
less_turned Less below other = cc
less_turned Equal below other = absurd (other refl)
less_turned Greater below other = refl

then_equal : (a b : Ordering) → ordering_then a b ≡ Equal → b ≡ Equal
then_equal Less b is = cc
then_equal Equal b is = is
then_equal Greater b is = cc

nat_equal : (i j : ℕ) → nat_cmp i j ≡ Equal → i ≡ j
nat_equal i j is = elim (cases_lt i j) [
  | inl less ↦ let cmp : Less ≡ nat_cmp i j = nat_cmp_is i j Less less in cc
  | inr most ↦ elim (cases_lt j i) [
    | inl greater ↦ let cmp : Greater ≡ nat_cmp i j = nat_cmp_is i j Greater greater in cc
    | inr same ↦ omega arith
  ]
]

same_input : (x y : Entry) → entry_cmp x y ≡ Equal → x.input ≡ y.input
same_input x y is =
    nat_equal x.input y.input (then_equal (option_cmp nat_cmp x.sdi y.sdi) (nat_cmp x.input y.input)
    (then_equal (nat_cmp x.label y.label) (ordering_then (option_cmp nat_cmp x.sdi y.sdi) (nat_cmp x.input y.input))
    (then_equal (nat_cmp x.exponent y.exponent) (ordering_then (nat_cmp x.label y.label) (ordering_then (option_cmp nat_cmp x.sdi y.sdi) (nat_cmp x.input y.input))) is)))

-- if the first keys decide
pub first_least : (a b : ℕ) (o : Ordering) → ordering_then (nat_cmp a b) o ≡ Less → a ≤ b
first_least a b o is = elim (cases_lt b a) [
  | inl greater ↦
      let cmp : Greater ≡ nat_cmp a b = nat_cmp_is a b Greater greater in
      let turned : ordering_then Greater o ≡ Less = ap (λ r. ordering_then r o) cmp ∙ is in
      cc
  | inr most ↦ most
]

-- ---- entries as they come

length-entries : (i : ℕ) (ds : List Demand) → length (entries_from i ds) ≡ length ds
length-entries i [] = refl
length-entries i (d ∷ ds) = ap suc (length-entries (i + 1) ds)

inputs_range : (i : ℕ) (ds : List Demand) → inputs_of (entries_from i ds) ≡ range_with_len i (length ds)
inputs_range i [] = refl
inputs_range i (d ∷ ds) = ap (λ xs. i ∷ xs) (inputs_range (i + 1) ds)

get_or-entries : (i : ℕ) (ds : List Demand) (k : ℕ) (e : Entry) (d : Demand) → k < length ds → get_or (entries_from i ds) k e ≡ entry_of (i + k) (get_or ds k d)
get_or-entries i [] k e d below = absurd (omega arith)
get_or-entries i (x ∷ xs) zero e d below = let same : i ≡ i + 0 = omega arith in ap (λ n. entry_of n x) same
get_or-entries i (x ∷ xs) (suc k) e d below =
    let same : i + 1 + k ≡ i + suc k = omega arith in
    get_or-entries (i + 1) xs k e d (omega arith) ∙ ap (λ n. entry_of n (get_or xs k d)) same

entries_listed : (ds : List Demand) → All (λ e. e ≡ entry_of e.input (demand_at ds e.input)) (entries_from 0 ds)
entries_listed ds k e below =
    let inside : k < length ds = omega (arith, length-entries 0 ds) in
    let zeros : Demand = record { period = None; label = 0; sdi = None } in
    let here : 0 + k ≡ k = omega arith in
    let at : get_or (entries_from 0 ds) k e ≡ entry_of k (demand_at ds k) = get_or-entries 0 ds k e zeros inside ∙ ap (λ n. entry_of n (get_or ds k zeros)) here in
    subst (λ (x : Entry). x ≡ entry_of x.input (demand_at ds x.input)) (sym at) refl

listed : (f : ℕ → Entry) (es : List Entry) → All (λ e. e ≡ f e.input) es → es ≡ map f (inputs_of es)
listed f [] all = refl
listed f (e ∷ es) all =
    ap (λ x. x ∷ es) (all 0 e (omega arith)) ∙ ap (λ xs. f e.input ∷ xs) (listed f es (λ k d below. all (suc k) d (omega arith)))

-- ---- sorted

pub in_order : (ds : List Demand) (es : List Entry) → AreFit ds → IsPermutation (entries_from 0 ds) es → IsSorted ghosts.cmp es → AreInOrder ds es
in_order ds es fit moved sorted =
    let is : List ℕ = inputs_of es in
    let n : ℕ = length ds in
    let all : IsPermutation (range_with_len 0 n) is =
    subst (λ (xs : List ℕ). IsPermutation xs is) (inputs_range 0 ds) (IsPermutation-map (λ e. e.input) (entries_from 0 ds) es moved) in
    let long : length es ≡ n = length_permutation (entries_from 0 ds) es moved ∙ length-entries 0 ds in
    let wide : length is ≡ length es = length-map es (λ e. e.input) in
    let orders : Orders n (λ i. get_or is i 0) = orders_of n is (wide ∙ long) all in
    let each : All (λ e. e ≡ entry_of e.input (demand_at ds e.input)) es =
    All-permutation (λ e. e ≡ entry_of e.input (demand_at ds e.input)) (entries_from 0 ds) es moved (entries_listed ds) in
    let input : (k : ℕ) → k < length es → (get_or es k blank).input ≡ get_or is k 0 = λ k below. sym (get_or-map (λ (e : Entry). e.input) es k blank 0 below) in
    let at : (k : ℕ) → k < length es → get_or es k blank ≡ entry_of (get_or is k 0) (demand_at ds (get_or is k 0)) = λ k below.
    each k blank below ∙ ap (λ i. entry_of i (demand_at ds i)) (input k below) in
    record {
      fit = fit;
      order = record {
        all = all;
        rising = λ k below.
            let x : Entry = get_or es k blank in
            let y : Entry = get_or es (k + 1) blank in
            let here : k < length es = omega arith in
            let there : k + 1 < length es = omega arith in
            let after : is_lt (entry_cmp y x) ≡ false = sorted k blank (omega arith) there in
            let apart : entry_cmp y x ≡ Equal → ⊥ = λ equal.
            let same : get_or is (k + 1) 0 ≡ get_or is k 0 = sym (input (k + 1) there) ∙ same_input y x equal ∙ input k here in
            let twice : k + 1 ≡ k = orders_apart n (λ i. get_or is i 0) orders (k + 1) k (omega arith) (omega arith) same in
            omega arith
            in
            let less : entry_cmp x y ≡ Less = entry_cmp_turned x y ∙ less_turned (entry_cmp y x) after apart in
            subst (λ (a : Entry). entry_cmp a (entry_of (get_or is (k + 1) 0) (demand_at ds (get_or is (k + 1) 0))) ≡ Less) (at k here)
            (subst (λ (b : Entry). entry_cmp x b ≡ Less) (at (k + 1) there) less);
      };
      each = listed (λ i. entry_of i (demand_at ds i)) es each;
    }
