-- A table has no fault if none of its stops has a kind of fault.
use Rattle.std.proofs.Common.{◌≡◌, ◌∙◌, ℕ, zero, suc, ◌+◌, ◌<◌, cond, Bool, true, false, List, [], ◌∷◌, ◌++◌, map, take, codes, Some, ap, ap₂, subst, refl, arith}
use Rattle.std.specs.Prelude.{filter, is_none, slice_get}
use Rattle.std.specs.List.{AllByRecursion, enumerate_from, flat_map, list_any, position_from}
use Rattle.std.proofs.lemmas.Option.{none-some, same_Some}
use Rattle.toml.specs.Data.{Data}
use Rattle.a429_table.specs.declared.fault.FaultKind.{FaultKind}
use Rattle.a429_table.specs.declared.fault.TablePlace.{TablePlace}
use Rattle.a429_table.specs.declared.fault.TablePlace.TheVariants.{Root, Group, Output, Receiver, Source}
use Rattle.a429_table.specs.declared.walk.Rows.{Rows}
use Rattle.a429_table.specs.declared.walk.Rows.TheVariants.{Outputs, Receivers, Sources}
use Rattle.a429_table.specs.Faults.{faults, faults_of, kinds, stands}
use Rattle.a429_table.specs.Tree.{rows_at}
use Rattle.a429_callers.proofs.Icd.Rows.{all_joined}
use Rattle.a429_table.specs.Walk.{Stop, group_stops, numbered, numbered_from, row_place, stops_of_groups, walk}

-- ---- lists

none_kept : {X : Type 0} (p : X → Bool) (xs : List X) → AllByRecursion (λ x. p x ≡ false) xs → filter p xs ≡ []
none_kept p [] all = refl
none_kept p (x ∷ xs) all = rw all.0 (none_kept p xs all.1)

-- no earlier element passes
pub none_earlier : {X : Type 0} (p : X → Bool) (xs : List X) (i : ℕ) → ((j : ℕ) (y : X) → j < i → slice_get xs j ≡ Some y → p y ≡ false) → list_any p (take i xs) ≡ false
none_earlier p [] zero each = refl
none_earlier p [] (suc i) each = refl
none_earlier p (x ∷ xs) zero each = refl
none_earlier p (x ∷ xs) (suc i) each =
    rw (each 0 x (omega arith) refl) (none_earlier p xs i (λ j y below at. each (suc j) y (omega (arith, below)) at))

-- a search finds an element that passes
pub some_found : {X : Type 0} (p : X → Bool) (n : ℕ) (xs : List X) (i : ℕ) (x : X) → slice_get xs i ≡ Some x → p x ≡ true → is_none (position_from p n xs) ≡ false
some_found p n [] i x at passes = absurd (none-some x at)
some_found p n (z ∷ xs) zero x at passes = let here : p z ≡ true = ap p (same_Some z x at) ∙ passes in rw here refl
some_found {X} p n (z ∷ xs) (suc i) x at passes = either (p z) (some_found p (n + 1) xs i x at passes)
  where
    either : (b : Bool) → is_none (position_from p (n + 1) xs) ≡ false → is_none (cond b (Some n) (position_from p (n + 1) xs)) ≡ false
    either true h = refl
    either false h = h

-- ---- the stops

rows_stop : (P : Stop → Type 0) (array : Rows) (n : ℕ) (ds : List Data) → ((i : ℕ) (d : Data) → slice_get ds i ≡ Some d → P (row_place array (n + i), d)) → AllByRecursion P (numbered_from array n ds)
rows_stop P array n [] each = tt
rows_stop P array n (d ∷ ds) each = (
  subst (λ (m : ℕ). P (row_place array m, d)) (let same : n + 0 ≡ n = omega arith in same) (each 0 d refl),
  rows_stop P array (n + 1) ds (λ i c at. subst (λ (m : ℕ). P (row_place array m, c)) (let same : n + suc i ≡ n + 1 + i = omega arith in same) (each (suc i) c at)),
)

groups_stop : (P : Stop → Type 0) (n : ℕ) (gs : List Data) → ((i : ℕ) (g : Data) → slice_get gs i ≡ Some g → P (Group (n + i), g) × AllByRecursion P (numbered (Outputs (n + i)) (rows_at (codes "output") g)))
    → AllByRecursion P (flat_map group_stops (enumerate_from n gs))
groups_stop P n [] each = tt
groups_stop P n (g ∷ gs) each =
    let Q : ℕ → Data → Type 0 = λ m x. P (Group m, x) × AllByRecursion P (numbered (Outputs m) (rows_at (codes "output") x)) in
    let here : Q n g = subst (λ (m : ℕ). Q m g) (let same : n + 0 ≡ n = omega arith in same) (each 0 g refl) in
    all_joined P (group_stops (n, g)) (flat_map group_stops (enumerate_from (n + 1) gs)) (here.0, here.1)
    (groups_stop P (n + 1) gs (λ i x at. subst (λ (m : ℕ). Q m x) (let same : n + suc i ≡ n + 1 + i = omega arith in same) (each (suc i) x at)))

-- what holds at each stop
pub record HoldsAtStops (P : Stop → Type 0) (root : Data) : Type 0 where
  pub at_root : P (Root, root)
  pub at_receivers : (i : ℕ) (d : Data) → slice_get (rows_at (codes "receiver") root) i ≡ Some d → P (Receiver i, d)
  pub at_sources : (i : ℕ) (d : Data) → slice_get (rows_at (codes "source") root) i ≡ Some d → P (Source i, d)
  pub at_groups : (i : ℕ) (d : Data) → slice_get (rows_at (codes "group") root) i ≡ Some d → P (Group i, d)
  pub at_outputs : (i j : ℕ) (g d : Data) → slice_get (rows_at (codes "group") root) i ≡ Some g → slice_get (rows_at (codes "output") g) j ≡ Some d → P (Output i j, d)

from_zero : (P : ℕ → Type 0) (i : ℕ) → P i → P (0 + i)
from_zero P i h = subst P (let same : i ≡ 0 + i = omega arith in same) h

all_stops : (P : Stop → Type 0) (root : Data) → HoldsAtStops P root → AllByRecursion P (walk root)
unfolding walk
all_stops P root H =
    let rs = numbered Receivers (rows_at (codes "receiver") root) in
    let ss = numbered Sources (rows_at (codes "source") root) in
    let gs = stops_of_groups (rows_at (codes "group") root) in
    let receivers : AllByRecursion P rs = rows_stop P Receivers 0 (rows_at (codes "receiver") root) (λ i d at. from_zero (λ m. P (Receiver m, d)) i (H.at_receivers i d at)) in
    let sources : AllByRecursion P ss = rows_stop P Sources 0 (rows_at (codes "source") root) (λ i d at. from_zero (λ m. P (Source m, d)) i (H.at_sources i d at)) in
    let groups : AllByRecursion P gs =
    groups_stop P 0 (rows_at (codes "group") root)
    (λ i g at.
    let outputs : AllByRecursion P (numbered (Outputs i) (rows_at (codes "output") g)) =
    rows_stop P (Outputs i) 0 (rows_at (codes "output") g) (λ j d there. from_zero (λ m. P (Output i m, d)) j (H.at_outputs i j g d at there)) in
    from_zero (λ m. P (Group m, g) × AllByRecursion P (numbered (Outputs m) (rows_at (codes "output") g))) i (H.at_groups i g at, outputs)) in
    (H.at_root, all_joined P (rs ++ ss) gs (all_joined P rs ss receivers sources) groups)

-- ---- the faults

-- no kind of fault is there
abbrev pub IsFine : Data → Stop → Type 0
IsFine root s = (kind : FaultKind) → stands root kind s ≡ false

of_kind : (root : Data) (kind : FaultKind) (stops : List Stop) → AllByRecursion (IsFine root) stops → AllByRecursion (λ s. stands root kind s ≡ false) stops
of_kind root kind [] all = tt
of_kind root kind (s ∷ stops) all = (all.0 kind, of_kind root kind stops all.1)

none_of : (root : Data) → AllByRecursion (IsFine root) (walk root) → (ks : List FaultKind) → flat_map (faults_of root) ks ≡ []
none_of root fine [] = refl
none_of root fine (kind ∷ ks) =
    ap₂ (λ (xs ys : List (FaultKind × TablePlace)). xs ++ ys) (ap (map (λ (s : Stop). (kind, s.0))) (none_kept (stands root kind) (walk root) (of_kind root kind (walk root) fine))) (none_of root fine ks)

pub no_faults : (root : Data) → HoldsAtStops (IsFine root) root → faults root ≡ []
unfolding faults
no_faults root H = none_of root (all_stops (IsFine root) root H) kinds
