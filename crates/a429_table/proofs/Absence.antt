-- What holds at each place of a table without faults.
use Rattle.std.proofs.Common.{◌≡◌, ℕ, zero, suc, ◌+◌, ◌<◌, false, length, get_or, List, [], ◌∷◌, ◌++◌, map, codes, Option, Some, None, refl, sym, subst, ◌∙◌, arith}
use Rattle.std.specs.List.{find, flat_map, enumerate_from, AllByRecursion, slice_get}
use Rattle.toml.specs.Data.{Data}
use Rattle.a429_word.proofs.Lists.{all_parts}
use Rattle.a429_table.specs.declared.fault.FaultKind.{FaultKind}
use Rattle.a429_table.specs.declared.fault.FaultKind.TheVariants.{Version, MissingKey, WrongKind, Rate, TooMany, Name, DuplicateName, Label, Sdi, Interval, UnknownName, DuplicateSource, DuplicateOutput, EmptyGroup, Hold}
use Rattle.a429_table.specs.declared.fault.TablePlace.TheVariants.{Root, Group}
use Rattle.a429_table.specs.declared.walk.Rows.{Rows}
use Rattle.a429_table.specs.declared.walk.Rows.TheVariants.{Receivers, Sources, Outputs}
use Rattle.a429_table.specs.Tree.{rows_at}
use Rattle.a429_table.specs.Walk.{Stop, walk, row_place, numbered, numbered_from, group_stops}
use Rattle.a429_table.specs.Faults.{first, faults, faults_of, kinds, stands}
use Rattle.a429_table.specs.Least.{StandsAtNone}
use Rattle.a429_table.proofs.Firsts.{first_of_two}
use Rattle.a429_table.proofs.Leastness.{all_fail}

nowhere_at : (root : Data) (kind : FaultKind) (later : List FaultKind) (o : Option Stop) → find (stands root kind) (walk root) ≡ o → first (flat_map (faults_of root) (kind ∷ later)) ≡ None
    → StandsAtNone root (walk root) kind × (first (flat_map (faults_of root) later) ≡ None)
nowhere_at root kind later None e h = (all_fail (stands root kind) (walk root) e, sym (first_of_two (stands root) (walk root) kind later None (rw e)) ∙ h)
nowhere_at root kind later (Some s) e h =
    let t : first (flat_map (faults_of root) (kind ∷ later)) ≡ Some (kind, s.0) = first_of_two (stands root) (walk root) kind later (Some (s.0)) (rw e) in
    cc

pub none_stand : (root : Data) (ks : List FaultKind) → first (flat_map (faults_of root) ks) ≡ None → AllByRecursion (StandsAtNone root (walk root)) ks
none_stand root [] h = tt
none_stand root (k ∷ ks) h = let n = nowhere_at root k ks (find (stands root k) (walk root)) refl h in (n.0, none_stand root ks n.1)

-- of a table without faults, the kinds that its record rests on
pub record IsFaultless (root : Data) : Type 0 where
  pub version : StandsAtNone root (walk root) Version
  pub missing_key : StandsAtNone root (walk root) MissingKey
  pub wrong_kind : StandsAtNone root (walk root) WrongKind
  pub rate : StandsAtNone root (walk root) Rate
  pub too_many : StandsAtNone root (walk root) TooMany
  pub name : StandsAtNone root (walk root) Name
  pub duplicate_name : StandsAtNone root (walk root) DuplicateName
  pub label : StandsAtNone root (walk root) Label
  pub sdi : StandsAtNone root (walk root) Sdi
  pub interval : StandsAtNone root (walk root) Interval
  pub unknown_name : StandsAtNone root (walk root) UnknownName
  pub duplicate_source : StandsAtNone root (walk root) DuplicateSource
  pub duplicate_output : StandsAtNone root (walk root) DuplicateOutput
  pub empty_group : StandsAtNone root (walk root) EmptyGroup
  pub hold : StandsAtNone root (walk root) Hold

pub is_faultless : (root : Data) → first (faults root) ≡ None → IsFaultless root
unfolding faults kinds
is_faultless root h =
    let n = none_stand root kinds h in
    record {
      version = n.0;
      missing_key = n.1.1.0;
      wrong_kind = n.1.1.1.0;
      rate = n.1.1.1.1.0;
      too_many = n.1.1.1.1.1.0;
      name = n.1.1.1.1.1.1.0;
      duplicate_name = n.1.1.1.1.1.1.1.0;
      label = n.1.1.1.1.1.1.1.1.0;
      sdi = n.1.1.1.1.1.1.1.1.1.0;
      interval = n.1.1.1.1.1.1.1.1.1.1.0;
      unknown_name = n.1.1.1.1.1.1.1.1.1.1.1.0;
      duplicate_source = n.1.1.1.1.1.1.1.1.1.1.1.1.0;
      duplicate_output = n.1.1.1.1.1.1.1.1.1.1.1.1.1.0;
      empty_group = n.1.1.1.1.1.1.1.1.1.1.1.1.1.1.0;
      hold = n.1.1.1.1.1.1.1.1.1.1.1.1.1.1.1.0;
    }

-- what a kind that is nowhere says of the parts of the walk
pub record IsAbsent (root : Data) (kind : FaultKind) : Type 0 where
  pub at_root : stands root kind (Root, root) ≡ false
  pub at_receivers : StandsAtNone root (numbered Receivers (rows_at (codes "receiver") root)) kind
  pub at_sources : StandsAtNone root (numbered Sources (rows_at (codes "source") root)) kind
  pub at_groups : StandsAtNone root (flat_map group_stops (enumerate_from 0 (rows_at (codes "group") root))) kind

pub is_absent : (root : Data) (kind : FaultKind) → StandsAtNone root (walk root) kind → IsAbsent root kind
unfolding walk
is_absent root kind h =
    let P : Stop → Type 0 = λ s. stands root kind s ≡ false in
    let rs = numbered Receivers (rows_at (codes "receiver") root) in
    let ss = numbered Sources (rows_at (codes "source") root) in
    let gs = flat_map group_stops (enumerate_from 0 (rows_at (codes "group") root)) in
    let split = all_parts P (rs ++ ss) gs h.1 in
    let rows = all_parts P rs ss split.0 in
    record { at_root = h.0; at_receivers = rows.0; at_sources = rows.1; at_groups = split.1 }

-- ---- from the places of an array to its rows

pub rows_hold : (array : Rows) (P : Stop → Type 0) (Q : Data → Type 0) → ((n : ℕ) (d : Data) → P (row_place array n, d) → Q d)
    → (n : ℕ) (ds : List Data) → AllByRecursion P (numbered_from array n ds) → AllByRecursion Q ds
rows_hold array P Q each n [] h = tt
rows_hold array P Q each n (d ∷ ds) h = (each n d h.0, rows_hold array P Q each (n + 1) ds h.1)

pub groups_hold : (P : Stop → Type 0) (Q : Data → Type 0)
    → ((n : ℕ) (g : Data) → P (Group n, g) → AllByRecursion P (numbered (Outputs n) (rows_at (codes "output") g)) → Q g)
    → (n : ℕ) (gs : List Data) → AllByRecursion P (flat_map group_stops (enumerate_from n gs)) → AllByRecursion Q gs
groups_hold P Q each n [] h = tt
groups_hold P Q each n (g ∷ gs) h =
    let parts = all_parts P (numbered (Outputs n) (rows_at (codes "output") g)) (flat_map group_stops (enumerate_from (n + 1) gs)) h.1 in
    (each n g h.0 parts.0, groups_hold P Q each (n + 1) gs parts.1)

pub row_holds : (array : Rows) (P : Stop → Type 0) (n i k : ℕ) (ds : List Data) (d : Data) → k ≡ n + i → AllByRecursion P (numbered_from array n ds) → slice_get ds i ≡ Some d → P (row_place array k, d)
row_holds array P n i k [] d at_k h e = cc
row_holds array P n zero k (c ∷ ds) d at_k h e =
    let same : c ≡ d = cc in
    subst (λ x. P (row_place array k, x)) same (subst (λ m. P (row_place array m, c)) (omega arith) h.0)
row_holds array P n (suc i) k (c ∷ ds) d at_k h e = row_holds array P (n + 1) i k ds d (omega arith) h.1 e

-- a group's place, and those of its outputs
pub group_holds : (P : Stop → Type 0) (n i k : ℕ) (gs : List Data) (g : Data) → k ≡ n + i → AllByRecursion P (flat_map group_stops (enumerate_from n gs)) → slice_get gs i ≡ Some g
    → P (Group k, g) × AllByRecursion P (numbered (Outputs k) (rows_at (codes "output") g))
group_holds P n i k [] g at_k h e = cc
group_holds P n zero k (c ∷ gs) g at_k h e =
    let same : c ≡ g = cc in
    let own = all_parts P (numbered (Outputs n) (rows_at (codes "output") c)) (flat_map group_stops (enumerate_from (n + 1) gs)) h.1 in
    let Q : ℕ → Data → Type 0 = λ m x. P (Group m, x) × AllByRecursion P (numbered (Outputs m) (rows_at (codes "output") x)) in
    subst (λ x. Q k x) same (subst (λ m. Q m c) (omega arith) (h.0, own.0))
group_holds P n (suc i) k (c ∷ gs) g at_k h e =
    let later = all_parts P (numbered (Outputs n) (rows_at (codes "output") c)) (flat_map group_stops (enumerate_from (n + 1) gs)) h.1 in
    group_holds P (n + 1) i k gs g (omega arith) later.1 e

pub all_from : {X : Type 0} (P : X → Type 0) (xs : List X) → ((i : ℕ) (x : X) → slice_get xs i ≡ Some x → P x) → AllByRecursion P xs
all_from P [] h = tt
all_from P (x ∷ xs) h = (h 0 x refl, all_from P xs (λ i y e. h (suc i) y e))

-- what is true of each row is true of each value of the code that stands for one
pub all_views : {X Y : Type 0} (P : Y → Type 0) (v : X → Y) (xs : List X) → AllByRecursion P (map v xs) → (k : ℕ) (d : X) → k < length xs → P (v (get_or xs k d))
all_views P v [] h k d below = absurd (omega arith)
all_views P v (x ∷ xs) h zero d below = h.0
all_views P v (x ∷ xs) h (suc k) d below = all_views P v xs h.1 k d (omega arith)
