-- A layout of demands makes a slot table.
use Rattle.std.proofs.Common.{◌≡◌, ℕ, zero, suc, ◌+◌, ◌-◌, ◌*◌, ◌/◌, ◌%◌, ◌^◌, ◌<◌, ◌≤◌, List, length, take, get_or, map, sum, arith, refl, ap, ◌∙◌, sym, subst}
use Rattle.std.specs.List.{AllByRecursion, range_with_len}
use Rattle.std.specs.List.Sorted.{IsPermutation}
use Rattle.std.proofs.lemmas.List.{ext_get_or, length-map, get_or-map}
use Rattle.std.proofs.lemmas.List.FromFn.{fill_by_all, get_or-map-range_with_len, length-map-range_with_len}
use Rattle.std.proofs.lemmas.Simd.{map-map}
use Rattle.std.proofs.lemmas.Nat.{pow-add, pow_pos, shl-shr, div_below, mod_below}
use Rattle.std.proofs.Math.Nat.{one-le-mul}
use Rattle.a429_grid.specs.Grid.{IsLeastSpacing, least_spacing}
use Rattle.a429_grid.specs.Reversal.{reversed}
use Rattle.a429_grid.proofs.Reversing.{reversed_back}
use Rattle.a429_equipment.specs.Sound.{IsInterval}
use Rattle.a429_equipment.specs.declared.rows.OutputRow.{OutputRow}
use Rattle.a429_pack.specs.declared.demands.Demand.{Demand}
use Rattle.a429_pack.specs.Demands.{demand_at, exponent_of, period_of, frame_of}
use Rattle.a429_pack.specs.Kept.{length-kept, padded}
use Rattle.a429_pack.specs.Layout.{Layout, IsLaidOut}
use Rattle.a429_pack.specs.Orders.{NamesEachOnce}
use Rattle.a429_pack.specs.Schedules.{IsExactlyPeriodic}
use Rattle.a429_pack.specs.Sums.{start_of, Holds}
use Rattle.a429_pack.proofs.Packings.{demand_over}
use Rattle.a429_pack.proofs.Tables.{padded-front, start_more}
use Rattle.a429_slots.specs.declared.group_plan.GroupPlan.TheInside.{Inside}
use Rattle.a429_slots.specs.declared.group_plan.LaidOutput.{LaidOutput}
use Rattle.a429_slots.specs.declared.group_plan.SendLimits.{SendLimits}
use Rattle.a429_slots.specs.Tables.{Placed, SlotTable, demands_of, placed_at, share_of, unlimited, unplaced}
use Rattle.a429_slots.specs.Kept.{BeginsAt, HoldsCell, HoldsJustItsCells, IsTable, begin_of, end_of, steps_from, stretches_of}
use Rattle.a429_slots.specs.Columns.{AreColumns, placed_in, table_in}
use Rattle.a429_slots.specs.Laid.{laid_at, laid_in as in_table, nothing_laid}
use Rattle.a429_slots.specs.Asked.{AreBusesOf, AreOffsetsOf, IsTableOf, limits_at}
use Rattle.a429_slots.proofs.Stretches.{steps_are}
use Rattle.a429_slots.proofs.Columns.{column_is, length-table, map_where, mapped_at, placed_kept}
use Rattle.a429_slots.proofs.Rows.{blank, unasked, all_below}

-- what is known of the columns when a table is made of them
pub record AreFilled (n : ℕ) (l : Layout) (rows : List OutputRow) (ds : List Demand) (c : Inside n) : Type 0 where
  pub rate : ℕ
  pub room : length l.inputs ≤ n
  pub laid : IsLaidOut l
  pub each : NamesEachOnce (length l.demands) l.inputs
  pub within : (x k : ℕ) → Holds l.demands x k → x < sum l.demands
  pub longest : (o : ℕ) → o < length (map exponent_of ds) → get_or (map exponent_of ds) o 0 ≤ frame_of ds
  pub rows_long : length rows ≡ length l.inputs
  pub asked_long : length ds ≡ length l.inputs
  pub greatest : l.frame ≡ frame_of ds
  pub shares : l.demands ≡ map (λ i. 2 ^ l.frame / period_of (demand_at ds i)) l.inputs
  pub laid_out : c.laid ≡ padded nothing_laid n (map (laid_at l) (range_with_len 0 (length l.inputs)))
  pub sources : c.sources ≡ padded 0 n (map (λ (r : OutputRow). r.source) rows)
  pub periods : c.periods ≡ padded 0 n (map exponent_of ds)
  pub limits : c.limits ≡ padded unlimited n (map (limits_at rate) rows)
  pub least : (min_us rate : ℕ) → IsLeastSpacing min_us rate (least_spacing min_us rate)
  pub intervals : AllByRecursion IsInterval rows
  pub some_rate : 1 ≤ rate
  pub bus : AreBusesOf l c.on_bus
  pub offset : AreOffsetsOf l c.offsets
  pub bus_rest : c.on_bus ≡ padded 0 n (take (length l.inputs) c.on_bus)
  pub offset_rest : c.offsets ≡ padded 0 n (take (length l.inputs) c.offsets)

-- words of an interval of some microseconds are some slots apart
some_spacing : (min_us rate q : ℕ) → IsLeastSpacing min_us rate q → 1 ≤ min_us → 1 ≤ rate → 1 ≤ q
some_spacing min_us rate zero least some faster =
    let n : ℕ = min_us * rate in
    let product : 1 ≤ min_us * rate = one-le-mul some faster in
    absurd (omega (arith, least.0, product))
some_spacing min_us rate (suc q) least some faster = omega arith

period_back : (h e : ℕ) → e ≤ h → 2 ^ h / (2 ^ h / 2 ^ e) ≡ 2 ^ e
period_back h e few =
    let digits : e + (h - e) ≡ h = omega arith in
    ap (λ z. 2 ^ h / z) (demand_over h e few) ∙ ap (λ z. z / 2 ^ (h - e)) (ap (λ z. 2 ^ z) (sym digits) ∙ pow-add 2 e (h - e)) ∙ shl-shr (2 ^ e) (h - e)

quotient_back : (s d : ℕ) → s / d * d + s % d ≡ s
quotient_back s d = omega arith

-- the columns with the frame, the buses and the demands of a layout, and their table
abbrev pub laid_in : {n : ℕ} → Layout → Inside n → Inside n
laid_in l c = record c { frame = l.frame; buses = l.buses; sums = l.demands; filled = sum l.demands }

abbrev table : {n : ℕ} → Layout → Inside n → SlotTable
table l c = table_in (laid_in l c)

module _ (n : ℕ) (l : Layout) (rows : List OutputRow) (ds : List Demand) (c : Inside n) (p : AreFilled n l rows ds c) where
  long : length (table l c).outputs ≡ length l.inputs
  long = length-table (laid_in l c) ∙ sym p.each.length

  placed : (o : ℕ) → o < length l.inputs → placed_at (table l c) o ≡ placed_in (laid_in l c) o
  placed o below = placed_kept (laid_in l c) o (omega (arith, p.each.length))

  known : (k : ℕ) → k < length l.inputs → get_or l.inputs k 0 < length l.inputs
  known k below = omega (arith, p.each.below k (omega (arith, p.each.length)), p.each.length)

  -- ---- each column

  order : (table l c).order ≡ l.inputs
  order =
      let places : List ℕ = range_with_len 0 (length l.inputs) in
      let count : length (map (laid_at l) places) ≡ length l.inputs = length-map-range_with_len (laid_at l) 0 (length l.inputs) in
      ap (λ (xs : List LaidOutput). map (λ (x : LaidOutput). x.output) (take (length l.demands) xs)) p.laid_out
      ∙ ap (map (λ (x : LaidOutput). x.output)) (padded-front nothing_laid n (map (laid_at l) places) (length l.demands) (count ∙ p.each.length))
      ∙ map-map (λ (x : LaidOutput). x.output) (laid_at l) places
      ∙ sym (fill_by_all (λ k. get_or l.inputs k 0) l.inputs (length l.inputs) 0 refl (λ k below. refl))

  sources : map (λ x. x.source) (table l c).outputs ≡ map (λ (r : OutputRow). r.source) rows
  sources =
      column_is 0 n (length l.demands) (λ x. x.source) (placed_in (laid_in l c)) c.sources (map (λ (r : OutputRow). r.source) rows) (λ o. refl) p.sources
      (length-map rows (λ (r : OutputRow). r.source) ∙ p.rows_long ∙ p.each.length)

  periods : map (λ x. x.place.period) (table l c).outputs ≡ map exponent_of ds
  periods =
      column_is 0 n (length l.demands) (λ x. x.place.period) (placed_in (laid_in l c)) c.periods (map exponent_of ds) (λ o. refl) p.periods
      (length-map ds exponent_of ∙ p.asked_long ∙ p.each.length)

  limits : map (λ x. x.limits) (table l c).outputs ≡ map (limits_at p.rate) rows
  limits =
      column_is unlimited n (length l.demands) (λ x. x.limits) (placed_in (laid_in l c)) c.limits (map (limits_at p.rate) rows) (λ o. refl) p.limits
      (length-map rows (limits_at p.rate) ∙ p.rows_long ∙ p.each.length)

  buses : map (λ x. x.place.bus) (table l c).outputs ≡ take (length l.inputs) c.on_bus
  buses =
      column_is 0 n (length l.demands) (λ x. x.place.bus) (placed_in (laid_in l c)) c.on_bus (take (length l.inputs) c.on_bus) (λ o. refl) p.bus_rest
      (length-kept 0 n c.on_bus (length l.inputs) p.room p.bus_rest ∙ p.each.length)

  offsets : map (λ x. x.place.offset) (table l c).outputs ≡ take (length l.inputs) c.offsets
  offsets =
      column_is 0 n (length l.demands) (λ x. x.place.offset) (placed_in (laid_in l c)) c.offsets (take (length l.inputs) c.offsets) (λ o. refl) p.offset_rest
      (length-kept 0 n c.offsets (length l.inputs) p.room p.offset_rest ∙ p.each.length)

  -- ---- each output

  period_at : (o : ℕ) → o < length l.inputs → (placed_at (table l c) o).place.period ≡ exponent_of (demand_at ds o)
  period_at o below =
      mapped_at (λ (x : Placed). x.place.period) exponent_of (table l c).outputs ds o unplaced unasked periods (omega (arith, long)) (omega (arith, p.asked_long))

  few_exponent : (o : ℕ) → o < length l.inputs → (placed_at (table l c) o).place.period ≤ l.frame
  few_exponent o below =
      let inside : o < length ds = omega (arith, p.asked_long) in
      let least : get_or (map exponent_of ds) o 0 ≤ frame_of ds = p.longest o (omega (arith, length-map ds exponent_of)) in
      omega (arith, period_at o below, get_or-map exponent_of ds o unasked 0 inside, least, p.greatest)

  bus_at : (k : ℕ) → k < length l.inputs → (placed_at (table l c) (get_or l.inputs k 0)).place.bus ≡ start_of l.demands k / 2 ^ l.frame
  bus_at k below = ap (λ (x : Placed). x.place.bus) (placed (get_or l.inputs k 0) (known k below)) ∙ p.bus k below

  offset_at : (k : ℕ) → k < length l.inputs → (placed_at (table l c) (get_or l.inputs k 0)).place.offset ≡ reversed l.frame (start_of l.demands k % 2 ^ l.frame)
  offset_at k below = ap (λ (x : Placed). x.place.offset) (placed (get_or l.inputs k 0) (known k below)) ∙ p.offset k below

  spaced_at : (o : ℕ) → o < length l.inputs → 1 ≤ (placed_at (table l c) o).limits.spacing
  spaced_at o below =
      let inside : o < length rows = omega (arith, p.rows_long) in
      let row : OutputRow = get_or rows o blank in
      let is : (placed_at (table l c) o).limits ≡ limits_at p.rate row =
      mapped_at (λ (x : Placed). x.limits) (limits_at p.rate) (table l c).outputs rows o unplaced blank limits (omega (arith, long)) inside in
      let some : 1 ≤ least_spacing row.min_us p.rate =
      some_spacing row.min_us p.rate (least_spacing row.min_us p.rate) (p.least row.min_us p.rate) (all_below IsInterval rows o blank inside p.intervals).0 p.some_rate in
      subst (λ (k : SendLimits). 1 ≤ k.spacing) (sym is) some

  -- ---- the demands

  demands : demands_of (table l c) ≡ l.demands
  demands =
      ap (map (share_of (table l c))) order
      ∙ map_where (share_of (table l c)) (λ i. 2 ^ l.frame / period_of (demand_at ds i)) l.inputs (λ k below.
      ap (λ e. 2 ^ l.frame / 2 ^ e) (period_at (get_or l.inputs k 0) (known k below)))
      ∙ sym p.shares

  -- the share of the output at a place
  share_at : (k : ℕ) → k < length l.inputs → get_or l.demands k 0 ≡ share_of (table l c) (get_or l.inputs k 0)
  share_at k below =
      ap (λ xs. get_or xs k 0) (sym demands ∙ ap (map (share_of (table l c))) order) ∙ get_or-map (share_of (table l c)) l.inputs k 0 0 below

  -- a stretch begins before the end of the last bus
  begins_inside : (k : ℕ) → k < length l.inputs → start_of l.demands k / 2 ^ l.frame < l.buses
  begins_inside k below =
      let o : ℕ = get_or l.inputs k 0 in
      let e : ℕ = (placed_at (table l c) o).place.period in
      let share : get_or l.demands k 0 ≡ 2 ^ (l.frame - e) = share_at k below ∙ demand_over l.frame e (few_exponent o (known k below)) in
      let holds : Holds l.demands (start_of l.demands k) k = (omega (arith, p.each.length), omega arith, omega (arith, share, pow_pos (l.frame - e))) in
      div_below (start_of l.demands k) (2 ^ l.frame) l.buses (pow_pos l.frame) (omega (arith, p.within (start_of l.demands k) k holds, p.laid.room))

  -- the block of the output at a place begins with the stretch, and ends with it
  begin_at : (k : ℕ) → k < length l.inputs → begin_of (table l c) (get_or l.inputs k 0) ≡ start_of l.demands k
  begin_at k below =
      let s : ℕ = start_of l.demands k in
      let x : Placed = placed_at (table l c) (get_or l.inputs k 0) in
      ap (λ z. z * 2 ^ l.frame + reversed l.frame x.place.offset) (bus_at k below)
      ∙ ap (λ z. s / 2 ^ l.frame * 2 ^ l.frame + reversed l.frame z) (offset_at k below)
      ∙ ap (λ z. s / 2 ^ l.frame * 2 ^ l.frame + z) (reversed_back l.frame (s % 2 ^ l.frame) (mod_below s (2 ^ l.frame) (pow_pos l.frame)))
      ∙ quotient_back s (2 ^ l.frame)

  -- what is kept of an output
  same_laid : (a b x y : ℕ) → a ≡ b → x ≡ y → ◌≡◌ {A = LaidOutput} (record { output = a; begin = x }) (record { output = b; begin = y })
  same_laid a b x y outputs begins = λ i. record { output = outputs i; begin = begins i }

  laid : map (in_table (table l c)) (table l c).order ≡ map (laid_at l) (range_with_len 0 (length l.inputs))
  laid =
      ap (map (in_table (table l c))) order
      ∙ ext_get_or nothing_laid (map (in_table (table l c)) l.inputs) (map (laid_at l) (range_with_len 0 (length l.inputs)))
      (length-map l.inputs (in_table (table l c)) ∙ sym (length-map-range_with_len (laid_at l) 0 (length l.inputs))) (λ k below.
      let inside : k < length l.inputs = omega (arith, below, length-map l.inputs (in_table (table l c))) in
      get_or-map (in_table (table l c)) l.inputs k 0 nothing_laid inside ∙ same_laid _ _ _ _ refl (begin_at k inside)
      ∙ sym (get_or-map-range_with_len (laid_at l) 0 (length l.inputs) k k nothing_laid inside (omega arith)))

  end_at : (k : ℕ) → k < length l.inputs → end_of (table l c) (get_or l.inputs k 0) ≡ start_of l.demands k + get_or l.demands k 0
  end_at k below = omega (arith, begin_at k below, share_at k below)

  stretches : stretches_of (table l c) ≡ l.demands
  stretches =
      let count : length (map (end_of (table l c)) l.inputs) ≡ length l.inputs = length-map l.inputs (end_of (table l c)) in
      ap (λ is. steps_from 0 (map (end_of (table l c)) is)) order
      ∙ steps_are 0 (map (end_of (table l c)) l.inputs) l.demands (count ∙ p.each.length) (λ k below.
      let inside : k < length l.inputs = omega (arith, p.each.length) in
      get_or-map (end_of (table l c)) l.inputs k 0 0 inside ∙ end_at k inside ∙ omega arith)

  -- an output has the cells of its stretch
  periodic : (k : ℕ) → k < length l.inputs → HoldsJustItsCells (table l c) (get_or l.inputs k 0)
  periodic k below =
      let o : ℕ = get_or l.inputs k 0 in
      let x : Placed = placed_at (table l c) o in
      let inside : k < length l.demands = omega (arith, p.each.length) in
      let laid = p.laid.periodic k inside in
      let period : 2 ^ l.frame / get_or l.demands k 0 ≡ 2 ^ x.place.period =
      ap (λ z. 2 ^ l.frame / z) (share_at k below) ∙ period_back l.frame x.place.period (few_exponent o (known k below)) in
      let first : start_of l.demands k / 2 ^ l.frame ≡ x.place.bus = sym (bus_at k below) in
      let second : reversed l.frame (start_of l.demands k % 2 ^ l.frame) ≡ x.place.offset = sym (offset_at k below) in
      subst (λ (z : ℕ). IsExactlyPeriodic (HoldsCell (table l c) o) z x.place.offset (2 ^ x.place.period)) first
      (subst (λ (z : ℕ). IsExactlyPeriodic (HoldsCell (table l c) o) (start_of l.demands k / 2 ^ l.frame) z (2 ^ x.place.period)) second
      (subst (λ (z : ℕ). IsExactlyPeriodic (HoldsCell (table l c) o) (start_of l.demands k / 2 ^ l.frame) (reversed l.frame (start_of l.demands k % 2 ^ l.frame)) z) period
      (record {
        within = laid.within;
        cells = λ row slot. (
          (λ holds. (laid.cells row slot).0 (inside, omega (arith, holds.0, begin_at k below), omega (arith, holds.1, end_at k below))),
          (λ both.
              let held = (laid.cells row slot).1 both in
              (omega (arith, held.1, begin_at k below), omega (arith, held.2, end_at k below))),
        );
      })))

  -- ---- the table

  pub is_table_of : IsTableOf p.rate l rows ds (table_in (laid_in l c))
  is_table_of = record {
    frame = refl;
    buses = refl;
    demands = demands;
    order = order;
    sources = sources;
    periods = periods;
    limits = limits;
    places = λ k below.
        let inside : k < length l.inputs = omega (arith, long) in
        subst (λ (ds : List ℕ). BeginsAt (table l c) (get_or (table l c).order k 0) (start_of ds k)) (sym demands)
        (subst (λ (is : List ℕ). BeginsAt (table l c) (get_or is k 0) (start_of l.demands k)) (sym order) (record { bus = bus_at k inside; offset = offset_at k inside }));
  }

  pub is_table : IsTable n (table_in (laid_in l c))
  is_table = record {
    room = omega (arith, long, p.room);
    frame = p.laid.frame;
    few = p.laid.few;
    order = subst (λ (m : ℕ). IsPermutation (range_with_len 0 m) (table l c).order) (sym (length-table (laid_in l c)))
        (subst (λ (is : List ℕ). IsPermutation (range_with_len 0 (length l.demands)) is) (sym order) p.laid.inputs);
    within = λ o below. few_exponent o (omega (arith, long));
    spaced = λ o below. spaced_at o (omega (arith, long));
    on_bus = λ o below.
        let (k, here, is) = p.each.place o (omega (arith, long, p.each.length)) in
        let inside : k < length l.inputs = omega (arith, p.each.length) in
        subst (λ (z : ℕ). (placed_at (table l c) z).place.bus < l.buses) is (omega (arith, bus_at k inside, begins_inside k inside));
    periodic = λ o below.
        let (k, here, is) = p.each.place o (omega (arith, long, p.each.length)) in
        subst (HoldsJustItsCells (table l c)) is (periodic k (omega (arith, here, p.each.length)));
    follow = λ k below.
        let inside : k < length l.inputs = omega (arith, below, long) in
        let next : k + 1 < length l.inputs = omega (arith, below, long) in
        let more : start_of l.demands (k + 1) ≡ start_of l.demands k + get_or l.demands k 0 = start_more l.demands k (omega (arith, inside, p.each.length)) in
        subst (λ (is : List ℕ). end_of (table l c) (get_or is k 0) ≤ begin_of (table l c) (get_or is (k + 1) 0)) (sym order)
        (omega (arith, end_at k inside, begin_at (k + 1) next, more));
  }

  pub are_columns : AreColumns n (laid_in l c)
  are_columns = record {
    kept = λ i. record {
      frame = l.frame;
      buses = l.buses;
      sums = stretches i;
      filled = ap sum demands i;
      laid = (ap (padded nothing_laid n) laid ∙ sym p.laid_out) i;
      sources = (ap (padded 0 n) sources ∙ sym p.sources) i;
      on_bus = (ap (padded 0 n) buses ∙ sym p.bus_rest) i;
      offsets = (ap (padded 0 n) offsets ∙ sym p.offset_rest) i;
      periods = (ap (padded 0 n) periods ∙ sym p.periods) i;
      limits = (ap (padded unlimited n) limits ∙ sym p.limits) i;
    };
    table = is_table;
  }
