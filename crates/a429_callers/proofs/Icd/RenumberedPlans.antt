-- The plan of a table whose sources have other numbers.
use Rattle.std.proofs.Common.{◌≡◌, ◌∙◌, ℕ, zero, suc, ◌+◌, ◌-◌, ◌*◌, ◌/◌, ◌^◌, ◌<◌, ◌≤◌, cond, List, [], ◌∷◌, ◌++◌, length, get_or, map, Option, None, Some, ap, ap₂, sym, subst, refl, arith}
use Rattle.std.specs.Prelude.{nat_lt, not, option_and_then, slice_get, sum}
use Rattle.std.specs.List.{AllByRecursion, AllZip, flat_map, position_or_len, range_with_len, zip}
use Rattle.std.specs.List.Sorted.{IsPermutation}
use Rattle.a429_grid.specs.Reversal.{reversed}
use Rattle.std.specs.Option.{option_map_or}
use Rattle.std.proofs.lemmas.List.{length-map}
use Rattle.std.proofs.lemmas.Option.{get_or_from_slice_get, slice_get_within}
use Rattle.a429_equipment.specs.TableRecord.{TableRecord}
use Rattle.a429_equipment.specs.declared.rows.GroupRow.{GroupRow}
use Rattle.a429_equipment.specs.declared.rows.OutputRow.{OutputRow}
use Rattle.a429_equipment.specs.declared.rows.SourceRow.{SourceRow}
use Rattle.a429_pack.specs.declared.demands.Demand.{Demand}
use Rattle.a429_pack.specs.Demands.{IsLayoutOrder, exponents_of, greatest}
use Rattle.a429_pack.specs.Orders.{NamesEachOnce}
use Rattle.a429_pack.specs.Sums.{start_of}
use Rattle.a429_pack.proofs.Orders.{names_each_once}
use Rattle.a429_slots.specs.declared.group_plan.SlotPlace.{SlotPlace}
use Rattle.a429_slots.specs.Kept.{BeginsAt, StandsJustAt, begin_of, end_of}
use Rattle.a429_slots.specs.Planned.{HasOwnLayout, HasPeriod, IsLayout, IsPlanOf, IsPlannedAt, IsPlannedFor, IsServed, asked_by, asked_of}
use Rattle.a429_slots.specs.Tables.{Placed, PlanTable, SlotTable, buses_of, cell_at, demands_of, frame_of, groups_of, order_of, outputs_of, placed_at, share_of, stands_in, unplaced}
use Rattle.a429_cert.specs.Checked.{Stated, stated_text}
use Rattle.a429_cert.specs.PlanText.{head_text, heading_of, listing_of, placed_listing, plan_text_of, source_name, stated_groups, stated_of}
use Rattle.a429_cert.specs.Spelling.{rate_text, version_text}
use Rattle.a429_table.proofs.Absence.{all_from}

-- ---- other numbers

-- an output whose source has another number
abbrev pub renumbered_row : (ℕ → ℕ) → OutputRow → OutputRow
renumbered_row f o = record { source = f o.source; min_us = o.min_us; max_us = o.max_us; hold = o.hold }

abbrev renumbered_output : (ℕ → ℕ) → Placed → Placed
renumbered_output f p = record { source = f p.source; place = p.place; limits = p.limits }

abbrev pub renumbered_table : (ℕ → ℕ) → SlotTable → SlotTable
renumbered_table f t = record { frame = t.frame; buses = t.buses; outputs = map (renumbered_output f) t.outputs; order = t.order }

-- two sources with one name, label and SDI, by their numbers
pub record AreAlike (own others : List SourceRow) (n m : ℕ) : Type 0 where
  pub name : source_name others m ≡ source_name own n
  pub label : option_map_or (λ (s : SourceRow). s.label) (slice_get others m) 0 ≡ option_map_or (λ (s : SourceRow). s.label) (slice_get own n) 0
  pub sdi : option_and_then (λ (s : SourceRow). s.sdi) (slice_get others m) ≡ option_and_then (λ (s : SourceRow). s.sdi) (slice_get own n)

-- a table that has these sources, and of which nothing else is asked
abbrev of_sources : List SourceRow → TableRecord
of_sources sources = record { version = 0; rate = None; receivers = []; sources = sources; groups = []; outputs = [] }

-- ---- lists

map_each : {A B : Type 0} (f g : A → B) → ((x : A) → f x ≡ g x) → (xs : List A) → map f xs ≡ map g xs
map_each f g same [] = refl
map_each {A} {B} f g same (x ∷ xs) = ap₂ (λ (y : B) (ys : List B). y ∷ ys) (same x) (map_each f g same xs)

map_below : {B : Type 0} (f g : ℕ → B) (n : ℕ) → ((x : ℕ) → x < n → f x ≡ g x) → (xs : List ℕ) → AllByRecursion (λ x. x < n) xs → map f xs ≡ map g xs
map_below f g n same [] below = refl
map_below {B} f g n same (x ∷ xs) below = ap₂ (λ (y : B) (ys : List B). y ∷ ys) (same x below.0) (map_below f g n same xs below.1)

-- ---- a slot table

module _ (f : ℕ → ℕ) where
  place_at : (xs : List Placed) (o : ℕ) → (get_or (map (renumbered_output f) xs) o unplaced).place ≡ (get_or xs o unplaced).place
  place_at [] o = refl
  place_at (x ∷ xs) zero = refl
  place_at (x ∷ xs) (suc o) = place_at xs o

  place_same : (t : SlotTable) (o : ℕ) → (placed_at (renumbered_table f t) o).place ≡ (placed_at t o).place
  place_same t o = place_at t.outputs o

  share_same : (t : SlotTable) (o : ℕ) → share_of (renumbered_table f t) o ≡ share_of t o
  share_same t o = ap (λ (p : SlotPlace). 2 ^ t.frame / 2 ^ p.period) (place_same t o)

  begin_same : (t : SlotTable) (o : ℕ) → begin_of (renumbered_table f t) o ≡ begin_of t o
  begin_same t o = ap (λ (p : SlotPlace). p.bus * frame_of t + reversed t.frame p.offset) (place_same t o)

  end_same : (t : SlotTable) (o : ℕ) → end_of (renumbered_table f t) o ≡ end_of t o
  end_same t o = ap₂ (λ (x y : ℕ). x + y) (begin_same t o) (share_same t o)

  demands_same : (t : SlotTable) → demands_of (renumbered_table f t) ≡ demands_of t
  demands_same t = map_each (share_of (renumbered_table f t)) (share_of t) (share_same t) t.order

  first_same : (bus slot : ℕ) (xs : List Placed) → position_or_len (stands_in bus slot) (map (renumbered_output f) xs) ≡ position_or_len (stands_in bus slot) xs
  first_same bus slot [] = refl
  first_same bus slot (x ∷ xs) = ap (λ (n : ℕ). cond (not (stands_in bus slot x)) (1 + n) 0) (first_same bus slot xs)

  cell_same : (t : SlotTable) (bus slot : ℕ) → cell_at (renumbered_table f t) bus slot ≡ cell_at t bus slot
  unfolding cell_at
  cell_same t bus slot =
      ap₂ (λ (n m : ℕ). cond (nat_lt n m) (Some n) None) (first_same bus slot t.outputs) (length-map t.outputs (renumbered_output f))

  stands_same : (t : SlotTable) (o bus offset period : ℕ) → StandsJustAt t o bus offset period → StandsJustAt (renumbered_table f t) o bus offset period
  stands_same t o bus offset period h = record {
    within = h.within;
    cells = λ row slot. ((λ there. (h.cells row slot).0 (sym (cell_same t row slot) ∙ there)), (λ is. cell_same t row slot ∙ (h.cells row slot).1 is));
  }

  served_same : (rate : ℕ) (rows : List OutputRow) (ps : List Placed) → AllZip (IsServed rate) rows ps → AllZip (IsServed rate) (map (renumbered_row f) rows) (map (renumbered_output f) ps)
  served_same rate [] [] served = tt
  served_same rate [] (p ∷ ps) served = absurd served
  served_same rate (row ∷ rows) [] served = absurd served
  served_same rate (row ∷ rows) (p ∷ ps) served = ((ap f served.0.0, served.0.1, served.0.2, served.0.3), served_same rate rows ps served.1)

  fit_same : (rate : ℕ) (rows : List OutputRow) (exponents : List ℕ) → AllZip (HasPeriod rate) rows exponents → AllZip (HasPeriod rate) (map (renumbered_row f) rows) exponents
  fit_same rate [] [] fit = tt
  fit_same rate [] (k ∷ exponents) fit = absurd fit
  fit_same rate (row ∷ rows) [] fit = absurd fit
  fit_same rate (row ∷ rows) (k ∷ exponents) fit = (fit.0, fit_same rate rows exponents fit.1)

-- ---- the same with the sources

module _ (own others : List SourceRow) (f : ℕ → ℕ) where
  -- the source of each row has its other number among the others
  abbrev pub AreKept : List OutputRow → Type 0
  AreKept rows = AllByRecursion (λ row. AreAlike own others row.source (f row.source)) rows

  placed_kept : (rate : ℕ) (rows : List OutputRow) (ps : List Placed) → AllZip (IsServed rate) rows ps → AreKept rows → AllByRecursion (λ p. AreAlike own others p.source (f p.source)) ps
  placed_kept rate [] [] served alike = tt
  placed_kept rate [] (p ∷ ps) served alike = absurd served
  placed_kept rate (row ∷ rows) [] served alike = absurd served
  placed_kept rate (row ∷ rows) (p ∷ ps) served alike =
      (subst (λ (n : ℕ). AreAlike own others n (f n)) (sym served.0.0) alike.0, placed_kept rate rows ps served.1 alike.1)

  asked_same : (ps : List Placed) → AllByRecursion (λ p. AreAlike own others p.source (f p.source)) ps → map (asked_by others) (map (renumbered_output f) ps) ≡ map (asked_by own) ps
  asked_same [] alike = refl
  asked_same (p ∷ ps) alike =
      let label = alike.0.label in
      let sdi = alike.0.sdi in
      let here : asked_by others (renumbered_output f p) ≡ asked_by own p = λ i. record { period = Some p.place.period; label = label i; sdi = sdi i } in
      ap₂ (λ (d : Demand) (ds : List Demand). d ∷ ds) here (asked_same ps alike.1)

  module _ (rate : ℕ) (rows : List OutputRow) (t : SlotTable) (P : IsPlannedFor rate own rows t) (alike : AreKept rows) where
    all_kept : AllByRecursion (λ p. AreAlike own others p.source (f p.source)) (outputs_of t)
    all_kept = placed_kept rate rows (outputs_of t) P.served alike

    asks : asked_of others (renumbered_table f t) ≡ asked_of own t
    asks = asked_same (outputs_of t) all_kept

    stands : (o : ℕ) → o < length (map (renumbered_output f) t.outputs)
        → StandsJustAt (renumbered_table f t) o (placed_at (renumbered_table f t) o).place.bus (placed_at (renumbered_table f t) o).place.offset (2 ^ (placed_at (renumbered_table f t) o).place.period)
    stands o below =
        let at = P.periodic o (omega (arith, below, length-map t.outputs (renumbered_output f))) in
        subst (λ (p : SlotPlace). StandsJustAt (renumbered_table f t) o p.bus p.offset (2 ^ p.period)) (sym (place_same f t o))
        (stands_same f t o (placed_at t o).place.bus (placed_at t o).place.offset (2 ^ (placed_at t o).place.period) at)

    count : length (outputs_of (renumbered_table f t)) ≡ length (outputs_of t)
    count = length-map t.outputs (renumbered_output f)

    planned_again : IsPlannedFor rate others (map (renumbered_row f) rows) (renumbered_table f t)
    planned_again = record {
      served = served_same f rate rows (outputs_of t) P.served;
      frame = P.frame ∙ ap (λ (ds : List Demand). greatest (exponents_of ds)) (sym asks);
      order = subst (λ (n : ℕ). IsPermutation (range_with_len 0 n) (order_of t)) (sym count) P.order;
      follow = λ k below. omega (arith, end_same f t (get_or t.order k 0), begin_same f t (get_or t.order (k + 1) 0), P.follow k (omega (arith, below, count)));
      on_bus = λ o below. subst (λ (p : SlotPlace). p.bus < buses_of t) (sym (place_same f t o)) (P.on_bus o (omega (arith, below, count)));
      periodic = stands;
      fewest = record { exponents = P.fewest.exponents; fit = fit_same f rate rows P.fewest.exponents P.fewest.fit; fewest = P.fewest.fewest };
      few_buses = P.few_buses;
      few_slots = P.few_slots;
    }

    -- in the same layout
    begins : IsLayout own t → (k : ℕ) → k < length (map (renumbered_output f) t.outputs) → BeginsAt (renumbered_table f t) (get_or t.order k 0) (start_of (demands_of (renumbered_table f t)) k)
    begins L k below =
        let o : ℕ = get_or t.order k 0 in
        let at = L.places k (omega (arith, below, length-map t.outputs (renumbered_output f))) in
        let place = place_same f t o in
        let start : start_of (demands_of t) k ≡ start_of (demands_of (renumbered_table f t)) k = ap (λ (ds : List ℕ). start_of ds k) (sym (demands_same f t)) in
        subst (BeginsAt (renumbered_table f t) o) start (record { bus = ap (λ (p : SlotPlace). p.bus) place ∙ at.bus; offset = ap (λ (p : SlotPlace). p.offset) place ∙ at.offset })

    layout_again : IsLayout own t → IsLayout others (renumbered_table f t)
    layout_again L = record { order = subst (λ (ds : List Demand). IsLayoutOrder ds (order_of t)) (sym asks) L.order; places = begins L }

  plans_again : (rates : List ℕ) (rowss : List (List OutputRow)) (ts : List SlotTable) → AllZip (IsPlannedAt own) (zip rates rowss) ts → AllByRecursion AreKept rowss
      → AllZip (IsPlannedAt others) (zip rates (map (map (renumbered_row f)) rowss)) (map (renumbered_table f) ts)
  plans_again [] rowss [] planned alike = tt
  plans_again [] rowss (t ∷ ts) planned alike = absurd planned
  plans_again (rate ∷ rates) [] [] planned alike = tt
  plans_again (rate ∷ rates) [] (t ∷ ts) planned alike = absurd planned
  plans_again (rate ∷ rates) (rows ∷ rowss) [] planned alike = absurd planned
  plans_again (rate ∷ rates) (rows ∷ rowss) (t ∷ ts) planned alike = (planned_again rate rows t planned.0 alike.0, plans_again rates rowss ts planned.1 alike.1)

  layouts_again : (rates : List ℕ) (rowss : List (List OutputRow)) (ts : List SlotTable) → AllZip (IsPlannedAt own) (zip rates rowss) ts → AllByRecursion AreKept rowss
      → AllByRecursion (IsLayout own) ts → AllByRecursion (IsLayout others) (map (renumbered_table f) ts)
  layouts_again rates rowss [] planned alike layouts = tt
  layouts_again [] rowss (t ∷ ts) planned alike layouts = absurd planned
  layouts_again (rate ∷ rates) [] (t ∷ ts) planned alike layouts = absurd planned
  layouts_again (rate ∷ rates) (rows ∷ rowss) (t ∷ ts) planned alike layouts =
      (layout_again rate rows t planned.0 alike.0 layouts.0, layouts_again rates rowss ts planned.1 alike.1 layouts.1)

  -- ---- what the text states

  name_kept : (ps : List Placed) (o : ℕ) → o < length ps → AllByRecursion (λ p. AreAlike own others p.source (f p.source)) ps → source_name others (get_or (map (renumbered_output f) ps) o unplaced).source ≡ source_name own (get_or ps o unplaced).source
  name_kept [] o below alike = absurd (omega (arith, below))
  name_kept (p ∷ ps) zero below alike = alike.0.name
  name_kept (p ∷ ps) (suc o) below alike = name_kept ps o (omega (arith, below)) alike.1

  limits_kept : (ps : List Placed) (o : ℕ) → (get_or (map (renumbered_output f) ps) o unplaced).limits.hold ≡ (get_or ps o unplaced).limits.hold
  limits_kept [] o = refl
  limits_kept (p ∷ ps) zero = refl
  limits_kept (p ∷ ps) (suc o) = limits_kept ps o

  listing_kept : (version : ℕ) (t : SlotTable) → AllByRecursion (λ p. AreAlike own others p.source (f p.source)) (outputs_of t) → (o : ℕ) → o < length (outputs_of t)
      → listing_of version others (renumbered_table f t) o ≡ listing_of version own t o
  listing_kept version t alike o below =
      let x : Placed = placed_at (renumbered_table f t) o in
      let y : Placed = placed_at t o in
      ap (λ (n : List ℕ). placed_listing version n x.place x.limits.hold) (name_kept t.outputs o below alike)
      ∙ ap (λ (p : SlotPlace). placed_listing version (source_name own y.source) p x.limits.hold) (place_same f t o)
      ∙ ap (λ (h : Option ℕ). placed_listing version (source_name own y.source) y.place h) (limits_kept t.outputs o)

  module _ (rate : ℕ) (rows : List OutputRow) (t : SlotTable) (P : IsPlannedFor rate own rows t) (alike : AreKept rows) where
    order_known : AllByRecursion (λ o. o < length (outputs_of t)) (order_of t)
    order_known =
        let n : ℕ = length (outputs_of t) in
        let once : NamesEachOnce n (order_of t) = names_each_once n (order_of t) P.order in
        all_from (λ o. o < n) (order_of t)
        (λ i o there. subst (λ (k : ℕ). k < n) (get_or_from_slice_get (order_of t) i o 0 there) (once.below i (omega (arith, slice_get_within (order_of t) i o there, once.length))))

    stated_kept : (version : ℕ) (g : GroupRow) → stated_of version others g (renumbered_table f t) ≡ stated_of version own g t
    stated_kept version g =
        let listings : map (listing_of version others (renumbered_table f t)) (order_of t) ≡ map (listing_of version own t) (order_of t) =
        map_below (listing_of version others (renumbered_table f t)) (listing_of version own t) (length (outputs_of t))
        (listing_kept version t (placed_kept rate rows (outputs_of t) P.served alike)) (order_of t) order_known in
        let demands = demands_same f t in
        λ i. record { heading = heading_of version g t; outputs = listings i; bound = record { demand = sum (demands i); full_buses = buses_of t - 1; frame = frame_of t } }

  groups_kept : (version : ℕ) (groups : List GroupRow) (rowss : List (List OutputRow)) (ts : List SlotTable) → AllZip (IsPlannedAt own) (zip (map (λ g. g.rate) groups) rowss) ts → AllByRecursion AreKept rowss
      → stated_groups version others groups (map (renumbered_table f) ts) ≡ stated_groups version own groups ts
  groups_kept version [] rowss ts planned alike = refl
  groups_kept version (g ∷ groups) [] [] planned alike = refl
  groups_kept version (g ∷ groups) [] (t ∷ ts) planned alike = absurd planned
  groups_kept version (g ∷ groups) (rows ∷ rowss) [] planned alike = refl
  groups_kept version (g ∷ groups) (rows ∷ rowss) (t ∷ ts) planned alike =
      ap₂ (λ (s : Stated) (ss : List Stated). s ∷ ss) (stated_kept g.rate rows t planned.0 alike.0 version g) (groups_kept version groups rowss ts planned.1 alike.1)

-- ---- a table

-- the table t is the table e, of version 2, but for the numbers of its sources, and for sources that no group sends
pub record IsRenumbered (t e : TableRecord) (f : ℕ → ℕ) : Type 0 where
  pub version : t.version ≡ e.version
  pub rate : t.rate ≡ e.rate
  pub groups : t.groups ≡ e.groups
  pub outputs : t.outputs ≡ map (map (renumbered_row f)) e.outputs
  pub alike : AllByRecursion (AreKept e.sources t.sources f) e.outputs

module _ (t e : TableRecord) (f : ℕ → ℕ) (R : IsRenumbered t e f) (p : PlanTable) (P : IsPlanOf e p) where
  -- both tables have the same plan
  abbrev pub renumbered_plan : PlanTable
  renumbered_plan = record { groups = map (renumbered_table f) (groups_of p); number = p.number }

  pub is_plan : IsPlanOf t renumbered_plan
  is_plan = record {
    number = P.number;
    count = length-map (groups_of p) (renumbered_table f) ∙ P.count ∙ ap length (sym R.groups);
    groups =
        subst (λ (gs : List GroupRow). AllZip (IsPlannedAt t.sources) (zip (map (λ (g : GroupRow). g.rate) gs) t.outputs) (map (renumbered_table f) (groups_of p))) (sym R.groups)
        (subst (λ (os : List (List OutputRow)). AllZip (IsPlannedAt t.sources) (zip (map (λ (g : GroupRow). g.rate) e.groups) os) (map (renumbered_table f) (groups_of p))) (sym R.outputs)
        (plans_again e.sources t.sources f (map (λ (g : GroupRow). g.rate) e.groups) e.outputs (groups_of p) P.groups R.alike));
  }

  pub has_layout : HasOwnLayout e p → HasOwnLayout t renumbered_plan
  has_layout own = layouts_again e.sources t.sources f (map (λ (g : GroupRow). g.rate) e.groups) e.outputs (groups_of p) P.groups R.alike own

  -- and has the same text
  pub one_text : plan_text_of t renumbered_plan ≡ plan_text_of e p
  one_text =
      let stated : stated_groups t.version t.sources t.groups (groups_of renumbered_plan) ≡ stated_groups e.version e.sources e.groups (groups_of p) =
      ap₂ (λ (v : ℕ) (gs : List GroupRow). stated_groups v t.sources gs (groups_of renumbered_plan)) R.version R.groups
      ∙ groups_kept e.sources t.sources f e.version e.groups e.outputs (groups_of p) P.groups R.alike in
      let head : head_text t ≡ head_text e = ap₂ (λ (v : ℕ) (r : Option ℕ). version_text v ++ option_map_or rate_text r []) R.version R.rate in
      ap₂ (λ (x y : List ℕ). x ++ y) head (ap (flat_map stated_text) stated)
