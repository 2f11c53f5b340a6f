-- A table of what the rows ask for is the plan of a group.
use Rattle.std.proofs.Common.{◌≡◌, ℕ, suc, ◌/◌, ◌^◌, ◌<◌, ◌≤◌, ◌∷◌, [], List, length, get_or, map, arith, refl, ap, ◌∙◌, sym, subst}
use Rattle.std.specs.Prelude.{Option, Some, None, IsSome, slice_get, option_and_then, unwrap_or}
use Rattle.std.specs.List.{AllZip}
use Rattle.std.specs.Option.{option_map_or}
use Rattle.std.proofs.Math.Nat.{pow-le-pow_right}
use Rattle.std.proofs.lemmas.Bool.{false≢true}
use Rattle.std.proofs.lemmas.List.{ext_get_or, get_or-map, length-map}
use Rattle.std.proofs.lemmas.Slice.Zip.{AllZip-long}
use Rattle.a429_word.proofs.Lists.{zipped_at}
use Rattle.a429_grid.specs.Grid.{HasNoGridPeriod, IsLeastSpacing, least_spacing}
use Rattle.a429_pack.specs.declared.demands.Demand.{Demand}
use Rattle.a429_pack.specs.declared.demands.PackFault.{PackFault}
use Rattle.a429_pack.specs.declared.demands.PackFault.TheVariants as pack
use Rattle.a429_pack.specs.Demands.{AreFit, IsLayoutOrder, demand_at, exponent_of, exponents_of, period_of, greatest}
use Rattle.a429_pack.specs.Demands as demands
use Rattle.a429_pack.specs.Faults as faults
use Rattle.a429_pack.specs.Layout.{Layout}
use Rattle.a429_pack.specs.Demanded.{AreFewestBuses}
use Rattle.a429_pack.specs.Orders.{NamesEachOnce}
use Rattle.a429_equipment.specs.declared.rows.OutputRow.{OutputRow}
use Rattle.a429_equipment.specs.declared.rows.SourceRow.{SourceRow}
use Rattle.a429_slots.specs.declared.group_plan.SendLimits.{SendLimits}
use Rattle.a429_slots.specs.Tables.{Placed, SlotTable, placed_at, outputs_of, order_of, buses_of, unplaced}
use Rattle.a429_slots.specs.Kept.{IsTable}
use Rattle.a429_slots.specs.Asked.{IsAsked, IsTableOf, limits_at}
use Rattle.a429_slots.specs.Planned.{HasPeriod, IsServed, IsLayout, IsPlannedFor, AreFewestBusesFor, asked_by, asked_of}
use Rattle.a429_slots.specs.Faults.{IsGroupFault}
use Rattle.a429_slots.proofs.Cells.{HasEach, AreApart, stands_just_at}
use Rattle.a429_slots.proofs.Columns.{mapped_at}
use Rattle.a429_slots.proofs.Rows.{blank, unasked, period_from, first_unfit, have_periods}

pub zip_by : {A B : Type 0} (R : A → B → Type 0) (xs : List A) (ys : List B) (d : A) (e : B) → length ys ≡ length xs → ((i : ℕ) → i < length xs → R (get_or xs i d) (get_or ys i e)) → AllZip R xs ys
zip_by R [] [] d e same all = tt
zip_by R [] (y ∷ ys) d e same all = absurd (omega arith)
zip_by R (x ∷ xs) [] d e same all = absurd (omega arith)
zip_by R (x ∷ xs) (y ∷ ys) d e same all = (all 0 (omega arith), zip_by R xs ys d e (omega arith) (λ i below. all (suc i) (omega arith)))

-- what is known of a table when it was made of what the rows ask
pub record IsMade (n rate : ℕ) (sources : List SourceRow) (rows : List OutputRow) (ds : List Demand) (l : Layout) (t : SlotTable) : Type 0 where
  pub asked : AllZip (IsAsked rate sources) rows ds
  pub fit : AreFit ds
  pub frame : l.frame ≡ demands.frame_of ds
  pub order : IsLayoutOrder ds l.inputs
  pub shares : l.demands ≡ map (λ i. 2 ^ l.frame / period_of (demand_at ds i)) l.inputs
  pub fewest : AreFewestBuses (exponents_of ds) l.buses
  pub few : l.buses ≤ 16
  pub table : IsTableOf rate l rows ds t
  pub least : (min_us rate : ℕ) → IsLeastSpacing min_us rate (least_spacing min_us rate)
  pub sound : IsTable n t
  pub inputs : NamesEachOnce (length ds) l.inputs
  pub each : HasEach t
  pub apart : AreApart t

counts : (n rate : ℕ) (sources : List SourceRow) (rows : List OutputRow) (ds : List Demand) (l : Layout) (t : SlotTable) → IsMade n rate sources rows ds l t
    → (length t.outputs ≡ length ds) × (length ds ≡ length rows)
counts n rate sources rows ds l t m =
    let same : length ds ≡ length rows = AllZip-long (IsAsked rate sources) rows ds m.asked in
    (sym m.each.length ∙ ap length m.table.order ∙ m.inputs.length, same)

source_at : (n rate : ℕ) (sources : List SourceRow) (rows : List OutputRow) (ds : List Demand) (l : Layout) (t : SlotTable) → IsMade n rate sources rows ds l t
    → (i : ℕ) → i < length rows → (placed_at t i).source ≡ (get_or rows i blank).source
source_at n rate sources rows ds l t m i below =
    let (many, same) = counts n rate sources rows ds l t m in
    mapped_at (λ (x : Placed). x.source) (λ (r : OutputRow). r.source) t.outputs rows i unplaced blank m.table.sources (omega arith) below

period_at : (n rate : ℕ) (sources : List SourceRow) (rows : List OutputRow) (ds : List Demand) (l : Layout) (t : SlotTable) → IsMade n rate sources rows ds l t
    → (i : ℕ) → i < length rows → (placed_at t i).place.period ≡ exponent_of (demand_at ds i)
period_at n rate sources rows ds l t m i below =
    let (many, same) = counts n rate sources rows ds l t m in
    mapped_at (λ (x : Placed). x.place.period) exponent_of t.outputs ds i unplaced unasked m.table.periods (omega arith) (omega arith)

-- ---- each output as its row asks

some_is : (o : Option ℕ) → IsSome o → Some (unwrap_or o 0) ≡ o
some_is None some = absurd (false≢true some)
some_is (Some k) some = refl

asked_is : (rate : ℕ) (sources : List SourceRow) (row : OutputRow) (d : Demand) (o : Placed) → IsAsked rate sources row d → IsSome d.period → o.source ≡ row.source → o.place.period ≡ exponent_of d → asked_by sources o ≡ d
asked_is rate sources row d o asked some source period =
    let there : slice_get sources o.source ≡ Some asked.source = ap (slice_get sources) source ∙ asked.there in
    let label : option_map_or (λ (s : SourceRow). s.label) (slice_get sources o.source) 0 ≡ d.label = ap (λ r. option_map_or (λ (s : SourceRow). s.label) r 0) there ∙ sym asked.label in
    let sdi : option_and_then (λ (s : SourceRow). s.sdi) (slice_get sources o.source) ≡ d.sdi = ap (option_and_then (λ (s : SourceRow). s.sdi)) there ∙ sym asked.sdi in
    let when : Some o.place.period ≡ d.period = ap (λ (k : ℕ). Some k) period ∙ some_is d.period some in
    ap (λ (p : Option ℕ). demand p (option_map_or (λ (s : SourceRow). s.label) (slice_get sources o.source) 0) (option_and_then (λ (s : SourceRow). s.sdi) (slice_get sources o.source))) when
    ∙ ap (λ (x : ℕ). demand d.period x (option_and_then (λ (s : SourceRow). s.sdi) (slice_get sources o.source))) label
    ∙ ap (λ (x : Option ℕ). demand d.period d.label x) sdi
  where
    demand : Option ℕ → ℕ → Option ℕ → Demand
    demand p x y = record { period = p; label = x; sdi = y }

asked_same : (n rate : ℕ) (sources : List SourceRow) (rows : List OutputRow) (ds : List Demand) (l : Layout) (t : SlotTable) → IsMade n rate sources rows ds l t → asked_of sources t ≡ ds
asked_same n rate sources rows ds l t m =
    let (many, same) = counts n rate sources rows ds l t m in
    let long : length (asked_of sources t) ≡ length t.outputs = length-map t.outputs (asked_by sources) in
    ext_get_or unasked (asked_of sources t) ds (long ∙ many) (λ i below.
    let inside : i < length rows = omega (arith, long) in
    get_or-map (asked_by sources) t.outputs i unplaced unasked (omega (arith, long))
    ∙ asked_is rate sources (get_or rows i blank) (demand_at ds i) (placed_at t i) (zipped_at (IsAsked rate sources) rows ds i blank unasked inside m.asked) (m.fit i (omega (arith, long)))
    (source_at n rate sources rows ds l t m i inside) (period_at n rate sources rows ds l t m i inside))

served : (n rate : ℕ) (sources : List SourceRow) (rows : List OutputRow) (ds : List Demand) (l : Layout) (t : SlotTable) → IsMade n rate sources rows ds l t → AllZip (IsServed rate) rows (outputs_of t)
served n rate sources rows ds l t m =
    let (many, same) = counts n rate sources rows ds l t m in
    zip_by (IsServed rate) rows t.outputs blank unplaced (many ∙ same) (λ i below.
    let row : OutputRow = get_or rows i blank in
    let asked : IsAsked rate sources row (demand_at ds i) = zipped_at (IsAsked rate sources) rows ds i blank unasked below m.asked in
    let period : HasPeriod rate row (exponent_of (demand_at ds i)) =
    period_from (demand_at ds i).period (HasNoGridPeriod row.min_us row.max_us rate) (HasPeriod rate row) asked.period (m.fit i (omega arith)) in
    let limits : (placed_at t i).limits ≡ limits_at rate row =
    mapped_at (λ (x : Placed). x.limits) (limits_at rate) t.outputs rows i unplaced blank m.table.limits (omega arith) below in (
      source_at n rate sources rows ds l t m i below,
      subst (HasPeriod rate row) (sym (period_at n rate sources rows ds l t m i below)) period,
      ap (λ (k : SendLimits). k.hold) limits,
      subst (λ (k : SendLimits). IsLeastSpacing row.min_us rate k.spacing) (sym limits) (m.least row.min_us rate),
    ))

pub layout : (n rate : ℕ) (sources : List SourceRow) (rows : List OutputRow) (ds : List Demand) (l : Layout) (t : SlotTable) → IsMade n rate sources rows ds l t → IsLayout sources t
layout n rate sources rows ds l t m =
    let back : ds ≡ asked_of sources t = sym (asked_same n rate sources rows ds l t m) in
    record {
      order = subst (λ (xs : List Demand). IsLayoutOrder xs (order_of t)) back (subst (IsLayoutOrder ds) (sym m.table.order) m.order);
      places = m.table.places;
    }

-- ---- how many buses

fewest_for : (rate : ℕ) (sources : List SourceRow) (rows : List OutputRow) (ds : List Demand) (buses : ℕ) → AllZip (IsAsked rate sources) rows ds → AreFit ds
    → AreFewestBuses (exponents_of ds) buses → AreFewestBusesFor rate rows buses
fewest_for rate sources rows ds buses asked fit fewest = record { exponents = exponents_of ds; fit = have_periods rate sources rows ds asked fit; fewest = fewest }

pub planned : (n rate : ℕ) (sources : List SourceRow) (rows : List OutputRow) (ds : List Demand) (l : Layout) (t : SlotTable) → IsMade n rate sources rows ds l t → IsPlannedFor rate sources rows t
planned n rate sources rows ds l t m = record {
  served = served n rate sources rows ds l t m;
  frame = m.table.frame ∙ m.frame ∙ ap (λ xs. greatest (map exponent_of xs)) (sym (asked_same n rate sources rows ds l t m));
  order = m.sound.order;
  follow = m.sound.follow;
  on_bus = m.sound.on_bus;
  periodic = λ o below. stands_just_at n t m.sound m.each m.apart o below;
  fewest = fewest_for rate sources rows ds (buses_of t) m.asked m.fit (subst (AreFewestBuses (exponents_of ds)) (sym m.table.buses) m.fewest);
  few_buses = m.sound.few;
  few_slots = let one : 0 < 2 = omega arith in pow-le-pow_right {n = 2} one {i = t.frame} {j = 13} m.sound.frame;
}

pub group_fault : (rate : ℕ) (sources : List SourceRow) (rows : List OutputRow) (ds : List Demand) (fault : PackFault) → AllZip (IsAsked rate sources) rows ds → faults.IsPackFaultOf ds fault → IsGroupFault rate rows fault
group_fault rate sources rows ds (pack.Unfit o) asked first = first_unfit rate sources rows ds o asked first
group_fault rate sources rows ds (pack.TooManyBuses needed) asked many = (fewest_for rate sources rows ds needed asked many.0 many.2, many.1)
group_fault rate sources rows ds pack.NoMemory asked none = tt
