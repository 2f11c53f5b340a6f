-- The outputs of a planned group are those that are due for it.
use Rattle.std.proofs.Common.{◌≡◌, ◌≢◌, ℕ, zero, suc, ◌/◌, ◌^◌, ◌<◌, ◌≤◌, max, Bool, true, false, List, [], ◌∷◌, length, get_or, map, Option, Some, None, refl, sym, ap, subst, ◌∙◌, arith, inl, inr}
use Rattle.std.specs.Prelude.{slice_get, option_map, option_and_then, sum}
use Rattle.std.specs.List.{AllZip, find, fold, sum_by}
use Rattle.std.specs.Option.{option_map_or}
use Rattle.std.specs.Str.{bytes_eq}
use Rattle.std.proofs.Math.Nat.{pow-le-pow_right}
use Rattle.std.proofs.lemmas.Bool.{cases_lt}
use Rattle.std.proofs.lemmas.List.Folds.{fold-map}
use Rattle.std.proofs.lemmas.List.Sums.{sum-map}
use Rattle.std.proofs.lemmas.Option.{get_or_from_slice_get, slice_get-get_or, slice_get_within}
use Rattle.std.proofs.lemmas.Simd.{map-map}
use Rattle.std.proofs.lemmas.Slice.Zip.{AllZip-long}
use Rattle.a429_word.proofs.Lists.{zipped_at}
use Rattle.a429_equipment.specs.TableRecord.{TableRecord}
use Rattle.a429_equipment.specs.declared.rows.OutputRow.{OutputRow}
use Rattle.a429_equipment.specs.declared.rows.SourceRow.{SourceRow}
use Rattle.a429_equipment.specs.Sound.{HaveOwn, HaveOwnSources}
use Rattle.a429_grid.specs.Grid.{IsGridPeriod}
use Rattle.a429_slots.specs.Tables.{Placed, SlotTable, placed_at, outputs_of, unplaced}
use Rattle.a429_slots.specs.Planned.{IsServed}
use Rattle.a429_pack.specs.Demanded.{demand_of}
use Rattle.a429_pack.specs.Demands.{greatest}
use Rattle.a429_cert.specs.declared.due.DueGroup.{DueGroup}
use Rattle.a429_cert.specs.declared.due.DueOutput.{DueOutput}
use Rattle.a429_cert.specs.Due.{IsDueOutput}
use Rattle.a429_cert.specs.Faults.{frame, demand, output_of, period_of, hold_of}
use Rattle.a429_cert.specs.PlanText.{source_name}
use Rattle.a429_cert.proofs.Again.{same_again}
use Rattle.a429_cert.proofs.CheckedPlans.{same_bytes}
use Rattle.a429_slots.proofs.Rows.{blank}

abbrev pub row_at : List OutputRow → ℕ → OutputRow
row_at rows i = get_or rows i blank

abbrev pub nothing_due : DueOutput
nothing_due = record { source = []; period = 0; hold = None }

abbrev pub due_at : DueGroup → ℕ → DueOutput
due_at g i = get_or g.outputs.items i nothing_due

-- the periods of a table's outputs, as exponents, by their numbers
abbrev pub exponents_of : SlotTable → List ℕ
exponents_of t = map (λ p. p.place.period) (outputs_of t)

-- ---- the periods

pub grid_same : (a b r p q : ℕ) → IsGridPeriod a b r p → IsGridPeriod a b r q → p ≡ q
grid_same a b r p q h k = omega (arith, h.2 q k.0 k.1, k.2 p h.0 h.1)

pub periods_same : (e : TableRecord) (rate : ℕ) (rows : List OutputRow) (ps : List Placed) (os : List DueOutput) → AllZip (IsServed rate) rows ps → AllZip (IsDueOutput e rate) rows os
    → map (λ o. o.period) os ≡ map (λ k. 2 ^ k) (map (λ p. p.place.period) ps)
periods_same e rate [] [] [] served due = refl
periods_same e rate [] [] (o ∷ os) served due = absurd due
periods_same e rate [] (p ∷ ps) os served due = absurd served
periods_same e rate (r ∷ rows) [] os served due = absurd served
periods_same e rate (r ∷ rows) (p ∷ ps) [] served due = absurd due
periods_same e rate (r ∷ rows) (p ∷ ps) (o ∷ os) served due =
    let same : o.period ≡ 2 ^ p.place.period = grid_same r.min_us r.max_us rate o.period (2 ^ p.place.period) due.0.period served.0.1 in
    rw (same, periods_same e rate rows ps os served.1 due.1) refl

pow_max : (a b : ℕ) → 2 ^ max a b ≡ max (2 ^ a) (2 ^ b)
pow_max a b =
    let one : 0 < 2 = omega arith in
    elim (cases_lt a b) [
      | inl lt ↦
          let m : max a b ≡ b = omega arith in
          let le : 2 ^ a ≤ 2 ^ b = pow-le-pow_right {n = 2} one {i = a} {j = b} (omega arith) in
          ap (λ (k : ℕ). 2 ^ k) m ∙ omega arith
      | inr ge ↦
          let m : max a b ≡ a = omega arith in
          let le : 2 ^ b ≤ 2 ^ a = pow-le-pow_right {n = 2} one {i = b} {j = a} ge in
          ap (λ (k : ℕ). 2 ^ k) m ∙ omega arith
    ]

fold_powers : (ks : List ℕ) (a : ℕ) → 1 ≤ length ks → fold max a (map (λ k. 2 ^ k) ks) ≡ max a (2 ^ greatest ks)
fold_powers [] a some = absurd (omega arith)
fold_powers (k ∷ []) a some =
    let m : max k 0 ≡ k = omega arith in
    ap (λ (n : ℕ). max a (2 ^ n)) (sym m)
fold_powers (k ∷ l ∷ ks) a some =
    let rest = fold_powers (l ∷ ks) (max a (2 ^ k)) (omega arith) in
    let both = pow_max k (greatest (l ∷ ks)) in
    rest ∙ omega (arith, both)

-- the frame that is due is the greatest period
pub frame_is : (g : DueGroup) (ks : List ℕ) → 1 ≤ length ks → map (λ o. o.period) g.outputs.items ≡ map (λ k. 2 ^ k) ks → frame g ≡ 2 ^ greatest ks
frame_is g ks some same =
    sym (fold-map max (λ (o : DueOutput). o.period) 0 g.outputs.items) ∙ ap (λ (ps : List ℕ). fold max 0 ps) same ∙ fold_powers ks 0 some ∙ omega arith

shares_same : (h : ℕ) (os : List DueOutput) (ks : List ℕ) → map (λ o. o.period) os ≡ map (λ k. 2 ^ k) ks → sum_by (λ o. h / o.period) os ≡ sum (map (λ k. h / 2 ^ k) ks)
shares_same h os ks e =
    let divide : ℕ → ℕ = λ p. h / p in
    sym (sum-map (λ (o : DueOutput). h / o.period) os) ∙ ap sum (sym (map-map divide (λ (o : DueOutput). o.period) os) ∙ ap (map divide) e ∙ map-map divide (λ (k : ℕ). 2 ^ k) ks)

-- the demand that is due is that of the exponents
pub demand_is : (g : DueGroup) (ks : List ℕ) → 1 ≤ length ks → map (λ o. o.period) g.outputs.items ≡ map (λ k. 2 ^ k) ks → demand g ≡ demand_of ks
demand_is g ks some same =
    ap (λ (h : ℕ). sum_by (λ (o : DueOutput). h / o.period) g.outputs.items) (frame_is g ks some same) ∙ shares_same (2 ^ greatest ks) g.outputs.items ks same

-- ---- the outputs by their numbers

-- no two of them have one source
pub own_sources : (e : TableRecord) (rate : ℕ) (rows : List OutputRow) (os : List DueOutput) → HaveOwn (λ s. s.name) e.sources → HaveOwnSources rows
    → AllZip (IsDueOutput e rate) rows os → HaveOwn (λ o. o.source) os
own_sources e rate rows os names own due = λ i j x y at-i at-j same.
    let long : length os ≡ length rows = AllZip-long (IsDueOutput e rate) rows os due in
    let low-i : i < length rows = omega (arith, long, slice_get_within os i x at-i) in
    let low-j : j < length rows = omega (arith, long, slice_get_within os j y at-j) in
    let a = subst (IsDueOutput e rate (row_at rows i)) (get_or_from_slice_get os i x nothing_due at-i) (zipped_at (IsDueOutput e rate) rows os i blank nothing_due low-i due) in
    let b = subst (IsDueOutput e rate (row_at rows j)) (get_or_from_slice_get os j y nothing_due at-j) (zipped_at (IsDueOutput e rate) rows os j blank nothing_due low-j due) in
    let named : a.source.name ≡ b.source.name = sym a.name ∙ same ∙ b.name in
    let one : (row_at rows i).source ≡ (row_at rows j).source = names (row_at rows i).source (row_at rows j).source a.source b.source a.there b.there named in
    own i j (row_at rows i) (row_at rows j) (slice_get-get_or rows i blank low-i) (slice_get-get_or rows j blank low-j) one

-- the outputs of a planned group, and those that are due for it
pub record AreSame (e : TableRecord) (rate : ℕ) (rows : List OutputRow) (t : SlotTable) (g : DueGroup) : Type 0 where
  pub served : AllZip (IsServed rate) rows (outputs_of t)
  pub due : AllZip (IsDueOutput e rate) rows g.outputs.items
  pub own : HaveOwnSources rows
  pub names : HaveOwn (λ s. s.name) e.sources

pub counts : (e : TableRecord) (rate : ℕ) (rows : List OutputRow) (t : SlotTable) (g : DueGroup) → AreSame e rate rows t g → (length (outputs_of t) ≡ length rows) × (length g.outputs.items ≡ length rows)
counts e rate rows t g s =
    (AllZip-long (IsServed rate) rows (outputs_of t) s.served, AllZip-long (IsDueOutput e rate) rows g.outputs.items s.due)

served_at : (e : TableRecord) (rate : ℕ) (rows : List OutputRow) (t : SlotTable) (g : DueGroup) → AreSame e rate rows t g → (i : ℕ) → i < length rows → IsServed rate (row_at rows i) (placed_at t i)
served_at e rate rows t g s i below = zipped_at (IsServed rate) rows (outputs_of t) i blank unplaced below s.served

pub due_here : (e : TableRecord) (rate : ℕ) (rows : List OutputRow) (t : SlotTable) (g : DueGroup) → AreSame e rate rows t g → (i : ℕ) → i < length rows → IsDueOutput e rate (row_at rows i) (due_at g i)
due_here e rate rows t g s i below = zipped_at (IsDueOutput e rate) rows g.outputs.items i blank nothing_due below s.due

pub source_there : (e : TableRecord) (rate : ℕ) (rows : List OutputRow) (t : SlotTable) (g : DueGroup) (s : AreSame e rate rows t g) (i : ℕ) (below : i < length rows)
    → slice_get e.sources (placed_at t i).source ≡ Some (due_here e rate rows t g s i below).source
source_there e rate rows t g s i below = ap (slice_get e.sources) (served_at e rate rows t g s i below).0 ∙ (due_here e rate rows t g s i below).there

-- the name that the text gives an output is its due one
name_same : (e : TableRecord) (rate : ℕ) (rows : List OutputRow) (t : SlotTable) (g : DueGroup) → AreSame e rate rows t g → (i : ℕ) → i < length rows → (due_at g i).source ≡ source_name e.sources (placed_at t i).source
name_same e rate rows t g s i below =
    (due_here e rate rows t g s i below).name ∙ sym (ap (λ (o : Option SourceRow). option_map_or (λ (s : SourceRow). s.name) o []) (source_there e rate rows t g s i below))

period_same : (e : TableRecord) (rate : ℕ) (rows : List OutputRow) (t : SlotTable) (g : DueGroup) → AreSame e rate rows t g → (i : ℕ) → i < length rows → (due_at g i).period ≡ 2 ^ (placed_at t i).place.period
period_same e rate rows t g s i below =
    let row = row_at rows i in
    grid_same row.min_us row.max_us rate (due_at g i).period (2 ^ (placed_at t i).place.period) (due_here e rate rows t g s i below).period (served_at e rate rows t g s i below).1

pub name_own : (e : TableRecord) (rate : ℕ) (rows : List OutputRow) (t : SlotTable) (g : DueGroup) → AreSame e rate rows t g → (i j : ℕ) → i < length rows → j < length rows → (due_at g i).source ≡ (due_at g j).source → i ≡ j
name_own e rate rows t g s i j low-i low-j same =
    let many = (counts e rate rows t g s).1 in
    own_sources e rate rows g.outputs.items s.names s.own s.due i j (due_at g i) (due_at g j)
    (slice_get-get_or g.outputs.items i nothing_due (omega (arith, low-i, many))) (slice_get-get_or g.outputs.items j nothing_due (omega (arith, low-j, many))) same

-- ---- the output that is due for a name

found : (name : List ℕ) (os : List DueOutput) (i : ℕ) (d : DueOutput) → i < length os → (get_or os i d).source ≡ name
    → ((j : ℕ) → j < length os → (get_or os j d).source ≡ name → j ≡ i) → find (λ o. bytes_eq o.source name) os ≡ Some (get_or os i d)
found name [] i d below at only = absurd (omega arith)
found name (o ∷ os) zero d below at only = rw (same_again o.source name at) refl
found name (o ∷ os) (suc i) d below at only =
    let other : bytes_eq o.source name ≡ false = no_match (bytes_eq o.source name) (λ t. let z : 0 ≡ suc i = only 0 (omega arith) (same_bytes o.source name t) in absurd (omega arith)) in
    rw other (found name os i d (omega arith) at (λ j less same. let z : suc j ≡ suc i = only (suc j) (omega arith) same in omega arith))
  where
    no_match : (b : Bool) → (b ≡ true → ⊥) → b ≡ false
    no_match true h = absurd (h refl)
    no_match false h = refl

output_due : (e : TableRecord) (rate : ℕ) (rows : List OutputRow) (t : SlotTable) (g : DueGroup) → AreSame e rate rows t g → (i : ℕ) → i < length rows
    → output_of g (source_name e.sources (placed_at t i).source) ≡ Some (due_at g i)
output_due e rate rows t g s i below =
    let many = (counts e rate rows t g s).1 in
    let named = name_same e rate rows t g s i below in
    found (source_name e.sources (placed_at t i).source) g.outputs.items i nothing_due (omega arith) named
    (λ j less same. name_own e rate rows t g s j i (omega arith) below (same ∙ sym named))

pub period_due : (e : TableRecord) (rate : ℕ) (rows : List OutputRow) (t : SlotTable) (g : DueGroup) → AreSame e rate rows t g → (i : ℕ) → i < length rows
    → period_of g (source_name e.sources (placed_at t i).source) ≡ Some (2 ^ (placed_at t i).place.period)
period_due e rate rows t g s i below =
    ap (option_map (λ (o : DueOutput). o.period)) (output_due e rate rows t g s i below) ∙ ap (λ (n : ℕ). Some n) (period_same e rate rows t g s i below)

pub row_hold : (e : TableRecord) (rate : ℕ) (rows : List OutputRow) (t : SlotTable) (g : DueGroup) → AreSame e rate rows t g → (i : ℕ) → i < length rows
    → (placed_at t i).limits.hold ≡ (row_at rows i).hold
row_hold e rate rows t g s i below = (served_at e rate rows t g s i below).2

pub hold_due : (e : TableRecord) (rate : ℕ) (rows : List OutputRow) (t : SlotTable) (g : DueGroup) → AreSame e rate rows t g → (i : ℕ) → i < length rows
    → hold_of g (source_name e.sources (placed_at t i).source) ≡ (placed_at t i).limits.hold
hold_due e rate rows t g s i below =
    ap (option_and_then (λ (o : DueOutput). o.hold)) (output_due e rate rows t g s i below) ∙ (due_here e rate rows t g s i below).hold ∙ sym (row_hold e rate rows t g s i below)

pub names_differ : (e : TableRecord) (rate : ℕ) (rows : List OutputRow) (t : SlotTable) (g : DueGroup) → AreSame e rate rows t g → (i j : ℕ) → i < length rows → j < length rows → i ≢ j
    → source_name e.sources (placed_at t i).source ≢ source_name e.sources (placed_at t j).source
names_differ e rate rows t g s i j low-i low-j other same =
    other (name_own e rate rows t g s i j low-i low-j (name_same e rate rows t g s i low-i ∙ same ∙ sym (name_same e rate rows t g s j low-j)))
