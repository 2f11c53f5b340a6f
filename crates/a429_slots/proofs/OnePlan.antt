-- Two plans of a table are the same.
use Rattle.std.proofs.Common.{◌≡◌, ℕ, ◌/◌, ◌%◌, ◌^◌, ◌<◌, List, [], ◌∷◌, length, get_or, map, refl, sym, ap, ap₂, ◌∙◌, subst, arith}
use Rattle.std.specs.Prelude.{None}
use Rattle.std.specs.List.{AllByRecursion, AllZip, range_with_len}
use Rattle.std.specs.List.Sorted.{IsPermutation}
use Rattle.std.proofs.lemmas.List.{ext_get_or, length-map}
use Rattle.std.proofs.lemmas.Slice.Zip.{AllZip-long}
use Rattle.a429_word.proofs.Lists.{same_power, zipped_at}
use Rattle.a429_grid.specs.Grid.{IsLeastSpacing}
use Rattle.a429_grid.specs.Reversal.{reversed}
use Rattle.a429_equipment.specs.declared.rows.OutputRow.{OutputRow}
use Rattle.a429_equipment.specs.declared.rows.SourceRow.{SourceRow}
use Rattle.a429_pack.specs.declared.demands.Demand.{Demand}
use Rattle.a429_pack.specs.Demanded.{AreFewestBuses}
use Rattle.a429_pack.specs.Demands.{IsLayoutOrder, exponents_of, greatest}
use Rattle.a429_pack.specs.Orders.{NamesEachOnce}
use Rattle.a429_pack.specs.Sums.{start_of}
use Rattle.a429_slots.specs.OnePlan.{PlansAreUnique}
use Rattle.a429_slots.specs.Planned.{HasPeriod, IsLayout, IsPlannedAt, IsPlannedFor, IsServed, asked_by, asked_of, rated_outputs}
use Rattle.a429_slots.specs.Tables.{SlotTable, Placed, demands_of, groups_of, order_of, outputs_of, placed_at, share_of, unplaced}
use Rattle.a429_slots.proofs.Columns.{map_where}
use Rattle.a429_slots.proofs.Rows.{blank}

-- ---- what a row asks for is one

one_period : (rate : ℕ) (row : OutputRow) (i j : ℕ) → HasPeriod rate row i → HasPeriod rate row j → i ≡ j
one_period rate row i j h k = same_power i j (omega (arith, h.2 (2 ^ j) k.0 k.1, k.2 (2 ^ i) h.0 h.1))

one_spacing : (min_us rate q r : ℕ) → IsLeastSpacing min_us rate q → IsLeastSpacing min_us rate r → q ≡ r
one_spacing min_us rate q r h k = omega (arith, h.1 r k.0, k.1 q h.0)

pub same_exponents : (rate : ℕ) (rows : List OutputRow) (is js : List ℕ) → AllZip (HasPeriod rate) rows is → AllZip (HasPeriod rate) rows js → is ≡ js
same_exponents rate [] [] [] h k = refl
same_exponents rate [] [] (j ∷ js) h k = absurd k
same_exponents rate [] (i ∷ is) js h k = absurd h
same_exponents rate (row ∷ rows) [] js h k = absurd h
same_exponents rate (row ∷ rows) (i ∷ is) [] h k = absurd k
same_exponents rate (row ∷ rows) (i ∷ is) (j ∷ js) h k = ap₂ (λ x xs. x ∷ xs) (one_period rate row i j h.0 k.0) (same_exponents rate rows is js h.1 k.1)

pub same_asked : (rate : ℕ) (sources : List SourceRow) (rows : List OutputRow) (xs ys : List Placed) → AllZip (IsServed rate) rows xs → AllZip (IsServed rate) rows ys
    → map (asked_by sources) xs ≡ map (asked_by sources) ys
same_asked rate sources [] [] [] h k = refl
same_asked rate sources [] [] (y ∷ ys) h k = absurd k
same_asked rate sources [] (x ∷ xs) ys h k = absurd h
same_asked rate sources (row ∷ rows) [] ys h k = absurd h
same_asked rate sources (row ∷ rows) (x ∷ xs) [] h k = absurd k
same_asked rate sources (row ∷ rows) (x ∷ xs) (y ∷ ys) h k =
    ap₂ (λ d ds. d ∷ ds) (same_demand x y (h.0.0 ∙ sym k.0.0) (one_period rate row x.place.period y.place.period h.0.1 k.0.1)) (same_asked rate sources rows xs ys h.1 k.1)
  where
    asked_at : ℕ → ℕ → Demand
    asked_at source period = asked_by sources (record { source = source; place = record { bus = 0; offset = 0; period = period }; limits = record { hold = None; spacing = 0 } })

    same_demand : (x y : Placed) → x.source ≡ y.source → x.place.period ≡ y.place.period → asked_by sources x ≡ asked_by sources y
    same_demand x y source period = ap₂ asked_at source period

-- ---- two tables for the same rows

abbrev OneOrder : Type 0
OneOrder = (ds : List Demand) (xs ys : List ℕ) → IsLayoutOrder ds xs → IsLayoutOrder ds ys → xs ≡ ys

abbrev pub OneCount : Type 0
OneCount = (exponents : List ℕ) (m n : ℕ) → AreFewestBuses exponents m → AreFewestBuses exponents n → m ≡ n

abbrev pub NameEach : Type 0
NameEach = (n : ℕ) (xs : List ℕ) → IsPermutation (range_with_len 0 n) xs → NamesEachOnce n xs

record AreFor (rate : ℕ) (sources : List SourceRow) (rows : List OutputRow) (t u : SlotTable) : Type 0 where
  pub first : IsPlannedFor rate sources rows t
  pub second : IsPlannedFor rate sources rows u
  pub first_layout : IsLayout sources t
  pub second_layout : IsLayout sources u
  pub one_order : OneOrder
  pub one_count : OneCount
  pub names : NameEach

-- what is kept of the output of a row
served_at : (rate : ℕ) (sources : List SourceRow) (rows : List OutputRow) (t : SlotTable) → IsPlannedFor rate sources rows t → (o : ℕ) → o < length rows → IsServed rate (get_or rows o blank) (placed_at t o)
served_at rate sources rows t p o below = zipped_at (IsServed rate) rows (outputs_of t) o blank unplaced below p.served

module _ (rate : ℕ) (sources : List SourceRow) (rows : List OutputRow) (t u : SlotTable) (a : AreFor rate sources rows t u) where
  asked_alike : asked_of sources t ≡ asked_of sources u
  asked_alike = same_asked rate sources rows (outputs_of t) (outputs_of u) a.first.served a.second.served

  counts : (length (outputs_of t) ≡ length rows) × (length (outputs_of u) ≡ length rows)
  counts = (AllZip-long (IsServed rate) rows (outputs_of t) a.first.served, AllZip-long (IsServed rate) rows (outputs_of u) a.second.served)

  frames : t.frame ≡ u.frame
  frames = a.first.frame ∙ ap (λ (ds : List Demand). greatest (exponents_of ds)) asked_alike ∙ sym a.second.frame

  orders : order_of t ≡ order_of u
  orders =
      a.one_order (asked_of sources u) (order_of t) (order_of u) (subst (λ (ds : List Demand). IsLayoutOrder ds (order_of t)) asked_alike a.first_layout.order) a.second_layout.order

  buses : t.buses ≡ u.buses
  buses =
      let f = a.first.fewest in
      let s = a.second.fewest in
      a.one_count s.exponents t.buses u.buses (subst (λ (ks : List ℕ). AreFewestBuses ks t.buses) (same_exponents rate rows f.exponents s.exponents f.fit s.fit) f.fewest) s.fewest

  periods : (o : ℕ) → o < length rows → (placed_at t o).place.period ≡ (placed_at u o).place.period
  periods o below =
      one_period rate (get_or rows o blank) (placed_at t o).place.period (placed_at u o).place.period
      (served_at rate sources rows t a.first o below).1 (served_at rate sources rows u a.second o below).1

  -- each output once in the order
  names_of : NamesEachOnce (length rows) (order_of t)
  names_of =
      let many : length (asked_of sources t) ≡ length rows = length-map (outputs_of t) (asked_by sources) ∙ counts.0 in
      subst (λ (n : ℕ). NamesEachOnce n (order_of t)) many (a.names (length (asked_of sources t)) (order_of t) a.first_layout.order.all)

  demands : demands_of t ≡ demands_of u
  demands =
      map_where (share_of t) (share_of u) (order_of t) (λ k below.
      ap₂ (λ h e. 2 ^ h / 2 ^ e) frames (periods (get_or (order_of t) k 0) (names_of.below k (omega (arith, names_of.length)))))
      ∙ ap (map (share_of u)) orders

  places : (o : ℕ) → o < length rows → ((placed_at t o).place.bus ≡ (placed_at u o).place.bus) × ((placed_at t o).place.offset ≡ (placed_at u o).place.offset)
  places o below =
      let (k, low, is) = names_of.place o below in
      let there : get_or (order_of u) k 0 ≡ o = ap (λ (xs : List ℕ). get_or xs k 0) (sym orders) ∙ is in
      let f = a.first_layout.places k (omega (arith, counts.0)) in
      let s = a.second_layout.places k (omega (arith, counts.1)) in
      let starts : start_of (demands_of t) k ≡ start_of (demands_of u) k = ap (λ (ds : List ℕ). start_of ds k) demands in (
        ap (λ (z : ℕ). (placed_at t z).place.bus) (sym is) ∙ f.bus ∙ ap₂ (λ x h. x / 2 ^ h) starts frames ∙ sym s.bus ∙ ap (λ (z : ℕ). (placed_at u z).place.bus) there,
        ap (λ (z : ℕ). (placed_at t z).place.offset) (sym is) ∙ f.offset ∙ ap₂ (λ x h. reversed h (x % 2 ^ h)) starts frames ∙ sym s.offset ∙ ap (λ (z : ℕ). (placed_at u z).place.offset) there,
      )

  same_output : (o : ℕ) → o < length rows → placed_at t o ≡ placed_at u o
  same_output o below =
      let f = served_at rate sources rows t a.first o below in
      let s = served_at rate sources rows u a.second o below in
      let place = places o below in
      let spacing = one_spacing (get_or rows o blank).min_us rate (placed_at t o).limits.spacing (placed_at u o).limits.spacing f.3 s.3 in
      λ i. record {
        source = (f.0 ∙ sym s.0) i;
        place = record { bus = place.0 i; offset = place.1 i; period = periods o below i };
        limits = record { hold = (f.2 ∙ sym s.2) i; spacing = spacing i };
      }

  outputs : outputs_of t ≡ outputs_of u
  outputs = ext_get_or unplaced (outputs_of t) (outputs_of u) (counts.0 ∙ sym counts.1) (λ o below. same_output o (omega (arith, counts.0)))

  same_table : t ≡ u
  same_table = λ i. record { frame = frames i; buses = buses i; outputs = outputs i; order = orders i }

-- ---- all groups

same_tables : OneOrder → OneCount → NameEach → (sources : List SourceRow) (rated : List (ℕ × List OutputRow)) (ts us : List SlotTable) → AllZip (IsPlannedAt sources) rated ts → AllByRecursion (IsLayout sources) ts
    → AllZip (IsPlannedAt sources) rated us → AllByRecursion (IsLayout sources) us → ts ≡ us
same_tables order count names sources [] [] [] h own k other = refl
same_tables order count names sources [] [] (u ∷ us) h own k other = absurd k
same_tables order count names sources [] (t ∷ ts) us h own k other = absurd h
same_tables order count names sources (r ∷ rated) [] us h own k other = absurd h
same_tables order count names sources (r ∷ rated) (t ∷ ts) [] h own k other = absurd k
same_tables order count names sources (r ∷ rated) (t ∷ ts) (u ∷ us) h own k other =
    ap₂ (λ z zs. z ∷ zs)
    (same_table r.0 sources r.1 t u (record { first = h.0; second = k.0; first_layout = own.0; second_layout = other.0; one_order = order; one_count = count; names = names }))
    (same_tables order count names sources rated ts us h.1 own.1 k.1 other.1)

pub one_plan : OneOrder → OneCount → NameEach → PlansAreUnique
one_plan order count names e p q h own k other = λ i. record {
  groups = same_tables order count names e.sources (rated_outputs e) (groups_of p) (groups_of q) h.groups own k.groups other i;
  number = (h.number ∙ sym k.number) i;
}
