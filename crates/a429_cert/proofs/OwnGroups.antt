-- What the text of a plan states for a group is a checked plan.
use Rattle.std.proofs.Common.{◌≡◌, ◌≢◌, ℕ, zero, suc, ◌-◌, ◌*◌, ◌/◌, ◌^◌, ◌<◌, ◌≤◌, true, false, leb, List, [], ◌∷◌, length, get_or, map, Option, Some, None, inl, inr, refl, sym, ap, ap₂, subst, ◌∙◌, arith}
use Rattle.std.specs.Prelude.{sum, IfSome}
use Rattle.std.specs.Option.{option_map_or}
use Rattle.std.specs.List.{AllZip, AllByRecursion, sum_by, range_with_len, list_all}
use Rattle.std.specs.List.Sorted.{IsPermutation}
use Rattle.std.proofs.Math.Nat.{pow-le-pow_right, mul-le-mul}
use Rattle.std.proofs.lemmas.Bool.{and_parts, leb-true}
use Rattle.std.proofs.lemmas.Bool.Decides.{nat_tests}
use Rattle.std.proofs.lemmas.List.{length-map, get_or-map}
use Rattle.std.proofs.lemmas.List.FromFn.{fill_by_all, length-range_with_len}
use Rattle.std.proofs.lemmas.List.Sorted.{length_permutation, sum_by-IsPermutation}
use Rattle.std.proofs.lemmas.List.Elements.{All-from_recursion}
use Rattle.std.proofs.lemmas.List.Sums.{sum-map, sum_by_more_le}
use Rattle.std.proofs.lemmas.Nat.{div_below, le-div, pow_pos}
use Rattle.std.proofs.lemmas.Simd.{map-map}
use Rattle.a429_word.proofs.Lists.{all_at, same_power}
use Rattle.a429_equipment.specs.TableRecord.{TableRecord}
use Rattle.a429_equipment.specs.declared.rows.GroupRow.{GroupRow}
use Rattle.a429_equipment.specs.declared.rows.OutputRow.{OutputRow}
use Rattle.a429_equipment.specs.declared.rows.SourceRow.{SourceRow}
use Rattle.a429_equipment.specs.Sound.{HaveOwn, HaveOwnSources, IsRate, IsHold, IsSourceRow, IsGroupRow}
use Rattle.a429_equipment.specs.NameForm.{is_name, is_name_byte}
use Rattle.a429_pack.specs.Demanded.{demand_of, AreFewestBuses, IsBusCount}
use Rattle.a429_pack.specs.Demands.{greatest, exponent_of}
use Rattle.a429_pack.specs.Sums.{start_of}
use Rattle.a429_slots.specs.Tables.{Placed, SlotTable, placed_at, outputs_of, order_of, demands_of, share_of, frame_of, buses_of, cell_at, unplaced}
use Rattle.a429_slots.specs.Kept.{StandsJustAt}
use Rattle.a429_slots.specs.Planned.{HasPeriod, IsServed, IsPlannedFor, asked_by, asked_of}
use Rattle.a429_cert.specs.declared.due.DueGroup.{DueGroup}
use Rattle.a429_cert.specs.Due.{IsDueOutput}
use Rattle.a429_cert.specs.Spelling.{IsWord, IsShort, IsShortLimit, is_break, said_in, FitsListing}
use Rattle.a429_cert.specs.Checked.{CellsAreApart, EachPair}
use Rattle.a429_cert.proofs.DuePlans.{IsPlacedAsDue}
use Rattle.a429_cert.specs.PlanText.{source_name, listing_of, stated_of}
use Rattle.a429_cert.proofs.Again.{FitsStated, StatesBound}
use Rattle.a429_cert.proofs.Answered.{Matches}
use Rattle.a429_cert.proofs.Arranged.{order_below, order_once, each_pair, each_placed}
use Rattle.a429_cert.proofs.DueOutputs.{AreSame, exponents_of, grid_same, counts, periods_same, frame_is, demand_is, due_here, source_there, period_due, row_at, row_hold, hold_due, names_differ}
use Rattle.a429_cert.proofs.Parts.{part_said}
use Rattle.a429_pack.proofs.Entries.{up_to_greatest}
use Rattle.a429_slots.proofs.Rows.{blank}

-- the fewest buses of a schedule carry the demand, and one bus less does not
abbrev pub FewestCarry : Type 0
FewestCarry = (exponents : List ℕ) (buses : ℕ) → 1 ≤ length exponents → AreFewestBuses exponents buses → IsBusCount exponents buses

-- a group of the table with its plan and what is due for it
pub record IsOwnGroup (e : TableRecord) (row : GroupRow) (rows : List OutputRow) (t : SlotTable) (g : DueGroup) : Type 0 where
  pub planned : IsPlannedFor row.rate e.sources rows t
  pub due : AllZip (IsDueOutput e row.rate) rows g.outputs.items
  pub rated : g.rate ≡ row.rate
  pub named : g.name ≡ row.name
  pub name : IsGroupRow row
  pub some : 1 ≤ length rows
  pub holds : AllByRecursion IsHold rows
  pub own : HaveOwnSources rows
  pub names : HaveOwn (λ s. s.name) e.sources
  pub words : AllByRecursion IsSourceRow e.sources

pub same_outputs : (e : TableRecord) (row : GroupRow) (rows : List OutputRow) (t : SlotTable) (g : DueGroup) → IsOwnGroup e row rows t g → AreSame e row.rate rows t g
same_outputs e row rows t g o = record { served = o.planned.served; due = o.due; own = o.own; names = o.names }

-- ---- names are words

name_byte : (b : ℕ) → is_name_byte b ≡ true → is_break b ≡ false
name_byte b h = grind (arith, nat_tests)

name_bytes : (s : List ℕ) → list_all is_name_byte s ≡ true → AllByRecursion (λ b. is_break b ≡ false) s
name_bytes [] h = tt
name_bytes (b ∷ bs) h = let p = and_parts _ _ h in (name_byte b p.0, name_bytes bs p.1)

some_length : (n : ℕ) → leb 1 n ≡ true → 0 < n
some_length n h = leb-true 1 n h

pub name_is_word : (s : List ℕ) → is_name s ≡ true → IsWord s
unfolding is_name
name_is_word s h =
    let p = and_parts _ _ h in
    let q = and_parts _ _ p.0 in
    record { some_byte = some_length (length s) q.0; unbroken = name_bytes s p.1 }

-- ---- the exponents of the periods

asked_exponents : (sources : List SourceRow) (t : SlotTable) → map exponent_of (asked_of sources t) ≡ exponents_of t
asked_exponents sources t = map-map exponent_of (asked_by sources) (outputs_of t)

length-exponents : (t : SlotTable) → length (exponents_of t) ≡ length (outputs_of t)
length-exponents t = length-map (outputs_of t) (λ p. p.place.period)

pub frame_greatest : (e : TableRecord) (rate : ℕ) (rows : List OutputRow) (t : SlotTable) → IsPlannedFor rate e.sources rows t → frame_of t ≡ 2 ^ greatest (exponents_of t)
frame_greatest e rate rows t p = ap (λ (k : ℕ). 2 ^ k) (p.frame ∙ ap greatest (asked_exponents e.sources t))

-- rows have one grid period each
same_exponents : (rate : ℕ) (rows : List OutputRow) (ks : List ℕ) (os : List Placed) → AllZip (HasPeriod rate) rows ks → AllZip (IsServed rate) rows os → ks ≡ map (λ o. o.place.period) os
same_exponents rate [] [] [] fit served = refl
same_exponents rate [] [] (o ∷ os) fit served = absurd served
same_exponents rate [] (k ∷ ks) os fit served = absurd fit
same_exponents rate (r ∷ rows) [] os fit served = absurd fit
same_exponents rate (r ∷ rows) (k ∷ ks) [] fit served = absurd served
same_exponents rate (r ∷ rows) (k ∷ ks) (o ∷ os) fit served =
    let one : k ≡ o.place.period = same_power k o.place.period (grid_same r.min_us r.max_us rate (2 ^ k) (2 ^ o.place.period) fit.0 served.0.1) in
    ap₂ (λ x xs. x ∷ xs) one (same_exponents rate rows ks os fit.1 served.1)

pub carried : (e : TableRecord) (rate : ℕ) (rows : List OutputRow) (t : SlotTable) → FewestCarry → IsPlannedFor rate e.sources rows t → 1 ≤ length (outputs_of t) → IsBusCount (exponents_of t) (buses_of t)
carried e rate rows t law p some =
    law (exponents_of t) (buses_of t) (omega (arith, length-exponents t))
    (subst (λ (ks : List ℕ). AreFewestBuses ks (buses_of t)) (same_exponents rate rows p.fewest.exponents (outputs_of t) p.fewest.fit p.served) p.fewest.fewest)

exponent_at : (t : SlotTable) (o : ℕ) → o < length (outputs_of t) → get_or (exponents_of t) o 0 ≡ (placed_at t o).place.period
exponent_at t o below = get_or-map (λ p. p.place.period) (outputs_of t) o unplaced 0 below

-- a period is at most a frame
period_within : (e : TableRecord) (rate : ℕ) (rows : List OutputRow) (t : SlotTable) → IsPlannedFor rate e.sources rows t → (o : ℕ) → o < length (outputs_of t) → 2 ^ (placed_at t o).place.period ≤ frame_of t
period_within e rate rows t p o below =
    let one : 0 < 2 = omega arith in
    let most = up_to_greatest (exponents_of t) o (omega (arith, length-exponents t)) in
    let le : (placed_at t o).place.period ≤ greatest (exponents_of t) = omega (arith, most, exponent_at t o below) in
    let powers : 2 ^ (placed_at t o).place.period ≤ 2 ^ greatest (exponents_of t) = pow-le-pow_right {n = 2} one {i = (placed_at t o).place.period} {j = greatest (exponents_of t)} le in
    omega (arith, powers, frame_greatest e rate rows t p)

-- ---- the order and the demands

length-order : (e : TableRecord) (rate : ℕ) (rows : List OutputRow) (t : SlotTable) → IsPlannedFor rate e.sources rows t → length (order_of t) ≡ length (outputs_of t)
length-order e rate rows t p = length_permutation (range_with_len 0 (length (outputs_of t))) (order_of t) p.order ∙ length-range_with_len 0 (length (outputs_of t))

pub total_is : (e : TableRecord) (rate : ℕ) (rows : List OutputRow) (t : SlotTable) → IsPlannedFor rate e.sources rows t → sum (demands_of t) ≡ demand_of (exponents_of t)
total_is e rate rows t p =
    let n = length (outputs_of t) in
    let numbered : sum_by (share_of t) (order_of t) ≡ sum_by (share_of t) (range_with_len 0 n) = sum_by-IsPermutation (share_of t) (range_with_len 0 n) (order_of t) p.order in
    let shares : map (λ k. frame_of t / 2 ^ k) (exponents_of t) ≡ map (share_of t) (range_with_len 0 n) =
    map-map (λ k. frame_of t / 2 ^ k) (λ p. p.place.period) (outputs_of t)
    ∙ fill_by_all (share_of t) (map (λ p. frame_of t / 2 ^ p.place.period) (outputs_of t)) n 0 (length-map (outputs_of t) (λ p. frame_of t / 2 ^ p.place.period))
    (λ k below. get_or-map (λ p. frame_of t / 2 ^ p.place.period) (outputs_of t) k unplaced 0 below) in
    sum-map (share_of t) (order_of t) ∙ numbered ∙ sym (sum-map (share_of t) (range_with_len 0 n)) ∙ ap sum (sym shares)
    ∙ ap (λ (h : ℕ). sum (map (λ k. h / 2 ^ k) (exponents_of t))) (frame_greatest e rate rows t p)

-- ---- the listings

apart_cells : (version : ℕ) (t : SlotTable) (i j : ℕ) (sources : List SourceRow) → StandsJustAt t i (placed_at t i).place.bus (placed_at t i).place.offset (2 ^ (placed_at t i).place.period)
    → StandsJustAt t j (placed_at t j).place.bus (placed_at t j).place.offset (2 ^ (placed_at t j).place.period) → i ≢ j → CellsAreApart (listing_of version sources t i) (listing_of version sources t j)
apart_cells version t i j sources at-i at-j other bus slot fills-i fills-j =
    let here : cell_at t bus slot ≡ Some i = (at-i.cells bus slot).1 (fills-i.on_bus, fills-i.at_offset) in
    let there : cell_at t bus slot ≡ Some j = (at-j.cells bus slot).1 (fills-j.on_bus, fills-j.at_offset) in
    other cc

own_apart : (e : TableRecord) (row : GroupRow) (rows : List OutputRow) (t : SlotTable) (g : DueGroup) → IsOwnGroup e row rows t g → EachPair CellsAreApart (stated_of e.version e.sources row t).outputs
own_apart e row rows t g o =
    let moved = o.planned.order in
    each_pair CellsAreApart (listing_of e.version e.sources t) (length (outputs_of t)) (order_of t) (order_below (length (outputs_of t)) (order_of t) moved) (order_once (length (outputs_of t)) (order_of t) moved)
    (λ i j low-i low-j other.
    apart_cells e.version t i j e.sources (o.planned.periodic i low-i) (o.planned.periodic j low-j) other)

own_once : (e : TableRecord) (row : GroupRow) (rows : List OutputRow) (t : SlotTable) (g : DueGroup) → IsOwnGroup e row rows t g → EachPair (λ k l. k.source ≢ l.source) (stated_of e.version e.sources row t).outputs
own_once e row rows t g o =
    let moved = o.planned.order in
    let s = same_outputs e row rows t g o in
    let many = (counts e row.rate rows t g s).0 in
    each_pair (λ k l. k.source ≢ l.source) (listing_of e.version e.sources t) (length (outputs_of t)) (order_of t) (order_below (length (outputs_of t)) (order_of t) moved) (order_once (length (outputs_of t)) (order_of t) moved)
    (λ i j low-i low-j other. names_differ e row.rate rows t g s i j (omega arith) (omega arith) other)

-- the number at a place of the layout is that of an output
ordered_below : (e : TableRecord) (rate : ℕ) (rows : List OutputRow) (t : SlotTable) → IsPlannedFor rate e.sources rows t → (k : ℕ) → k < length (order_of t) → get_or (order_of t) k 0 < length (outputs_of t)
ordered_below e rate rows t p k below =
    All-from_recursion (λ o. o < length (outputs_of t)) (order_of t) (order_below (length (outputs_of t)) (order_of t) p.order) k 0 below

own_bus : (e : TableRecord) (row : GroupRow) (rows : List OutputRow) (t : SlotTable) (g : DueGroup) → FewestCarry → IsOwnGroup e row rows t g
    → (k : ℕ) → k < length (order_of t) → (listing_of e.version e.sources t (get_or (order_of t) k 0)).bus < buses_of t
own_bus e row rows t g law o k below =
    let many = (counts e row.rate rows t g (same_outputs e row rows t g o)).0 in
    o.planned.on_bus (get_or (order_of t) k 0) (ordered_below e row.rate rows t o.planned k below)

own_placed : (e : TableRecord) (row : GroupRow) (rows : List OutputRow) (t : SlotTable) (g : DueGroup) → FewestCarry → IsOwnGroup e row rows t g → AllByRecursion (IsPlacedAsDue e.version g (buses_of t)) (stated_of e.version e.sources row t).outputs
own_placed e row rows t g law o =
    let s = same_outputs e row rows t g o in
    let many = (counts e row.rate rows t g s).0 in
    each_placed (IsPlacedAsDue e.version g (buses_of t)) (listing_of e.version e.sources t) (order_of t) (λ k below.
    let n : ℕ = get_or (order_of t) k 0 in
    let known : n < length (outputs_of t) = ordered_below e row.rate rows t o.planned k below in
    record {
      listed = period_due e row.rate rows t g s n (omega arith);
      hold = ap (λ (hold : Option ℕ). said_in e.version hold) (sym (hold_due e row.rate rows t g s n (omega arith)));
      bus = own_bus e row rows t g law o k below;
      offset = (o.planned.periodic n known).within;
    })

-- ---- numbers have few digits

pub rate_short : (rate : ℕ) → IsRate rate → IsShort rate
rate_short rate (inl same) = omega arith
rate_short rate (inr range) = omega (arith, range.1)

limit_short : (limit : Option ℕ) → IfSome limit (λ hold. (1 ≤ hold) × (hold ≤ 1000000)) → IsShortLimit limit
limit_short None h = tt
limit_short (Some limit) h = omega (arith, h.1)

own_listings : (e : TableRecord) (row : GroupRow) (rows : List OutputRow) (t : SlotTable) (g : DueGroup) → FewestCarry → IsOwnGroup e row rows t g → AllByRecursion (FitsListing e.version) (stated_of e.version e.sources row t).outputs
own_listings e row rows t g law o =
    let s = same_outputs e row rows t g o in
    let many = (counts e row.rate rows t g s).0 in
    each_placed (FitsListing e.version) (listing_of e.version e.sources t) (order_of t) (λ k below.
    let n : ℕ = get_or (order_of t) k 0 in
    let known : n < length (outputs_of t) = ordered_below e row.rate rows t o.planned k below in
    let here = due_here e row.rate rows t g s n (omega arith) in
    let there = source_there e row.rate rows t g s n (omega arith) in
    let word : IsWord here.source.name = name_is_word here.source.name (all_at IsSourceRow e.sources (placed_at t n).source here.source o.words there).0 in
    let named : here.source.name ≡ source_name e.sources (placed_at t n).source = sym (ap (λ (o : Option SourceRow). option_map_or (λ (s : SourceRow). s.name) o []) there) in
    let period = period_within e row.rate rows t o.planned n known in
    let limit : IsShortLimit (row_at rows n).hold = limit_short (row_at rows n).hold (All-from_recursion IsHold rows o.holds n blank (omega arith)) in
    record {
      source = subst IsWord named word;
      period = omega (arith, period, o.planned.few_slots);
      bus = omega (arith, own_bus e row rows t g law o k below, o.planned.few_buses);
      offset = omega (arith, period, o.planned.few_slots, (o.planned.periodic n known).within);
      hold = part_said IsShortLimit e.version (placed_at t n).limits.hold (subst IsShortLimit (sym (row_hold e row.rate rows t g s n (omega arith))) limit);
    })

-- the cells of a frame are few
few_cells : (b f : ℕ) → b ≤ 16 → f ≤ 8192 → b * f ≤ 16 * 8192
few_cells b f few small = mul-le-mul {n₁ = b} {m₁ = f} {n₂ = 16} {m₂ = 8192} few small

-- ---- the group

own_bound : (e : TableRecord) (row : GroupRow) (rows : List OutputRow) (t : SlotTable) (g : DueGroup) → FewestCarry → IsOwnGroup e row rows t g → StatesBound g (buses_of t) (stated_of e.version e.sources row t).bound
own_bound e row rows t g law o =
    let s = same_outputs e row rows t g o in
    let many = (counts e row.rate rows t g s).0 in
    let some : 1 ≤ length (outputs_of t) = omega (arith, many, o.some) in
    let ks = exponents_of t in
    let some-ks : 1 ≤ length ks = omega (arith, some, length-exponents t) in
    let periods = periods_same e row.rate rows (outputs_of t) g.outputs.items s.served s.due in
    let framed : frame_of t ≡ 2 ^ greatest (exponents_of t) = frame_greatest e row.rate rows t o.planned in
    let total = total_is e row.rate rows t o.planned in
    let fits = carried e row.rate rows t law o.planned some in
    record {
      demand = total ∙ sym (demand_is g (exponents_of t) some-ks periods);
      full = refl;
      frame = framed ∙ sym (frame_is g (exponents_of t) some-ks periods);
      above = rw (framed, total) fits.above;
      within = rw (framed, total) fits.within;
    }

own_fits : (e : TableRecord) (row : GroupRow) (rows : List OutputRow) (t : SlotTable) (g : DueGroup) → FewestCarry → IsOwnGroup e row rows t g → FitsStated e.version (stated_of e.version e.sources row t)
own_fits e row rows t g law o =
    let bound = own_bound e row rows t g law o in
    let cells = few_cells (buses_of t) (frame_of t) o.planned.few_buses o.planned.few_slots in
    record {
      heading = record { name = name_is_word row.name o.name.0; rate = part_said IsShort e.version row.rate (rate_short row.rate o.name.1); frame = omega (arith, o.planned.few_slots); buses = omega (arith, o.planned.few_buses) };
      outputs = own_listings e row rows t g law o;
      bound = record { demand = omega (arith, bound.within, cells); full_buses = omega (arith, o.planned.few_buses); frame = omega (arith, o.planned.few_slots) };
    }

some_bus : (b f d : ℕ) → (b - 1) * f < d → d ≤ b * f → 1 ≤ b
some_bus zero f d above within = absurd (omega arith)
some_bus (suc b) f d above within = omega arith

pub own_matches : (e : TableRecord) (row : GroupRow) (rows : List OutputRow) (t : SlotTable) (g : DueGroup) → FewestCarry → IsOwnGroup e row rows t g → Matches e.version g (stated_of e.version e.sources row t)
own_matches e row rows t g law o =
    let s = same_outputs e row rows t g o in
    let many = counts e row.rate rows t g s in
    let bound = own_bound e row rows t g law o in
    record {
      fits = own_fits e row rows t g law o;
      checked = record {
        name = sym o.named;
        rate = ap (λ (rate : ℕ). said_in e.version rate) (sym o.rated);
        greatest = bound.frame;
        some_bus = some_bus (buses_of t) (frame_of t) (sum (demands_of t)) bound.above bound.within;
        few_buses = o.planned.few_buses;
        count = omega (arith, length-map (order_of t) (listing_of e.version e.sources t), length-order e row.rate rows t o.planned, many.0, many.1);
        placed = own_placed e row rows t g law o;
        once = own_once e row rows t g o;
        apart = own_apart e row rows t g o;
        above = omega (arith, bound.above, bound.demand);
        within = omega (arith, bound.within, bound.demand);
      };
      bound = bound;
    }
