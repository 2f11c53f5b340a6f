-- Outputs in layout order, each with its demand, are laid out on the fewest buses.
use Rattle.std.proofs.Common.{◌≡◌, ℕ, zero, suc, ◌+◌, ◌-◌, ◌*◌, ◌/◌, ◌%◌, ◌^◌, ◌<◌, ◌≤◌, None, List, [], ◌∷◌, length, get_or, map, take, sum, refl, sym, ap, ◌∙◌, subst, arith}
use Rattle.std.specs.Int.{div_ceil}
use Rattle.std.specs.List.{All, range_with_len}
use Rattle.std.specs.List.Sorted.{IsPermutation}
use Rattle.std.proofs.lemmas.Grind.{div_ceil_times}
use Rattle.std.proofs.lemmas.List.{length-map, get_or-map, take_all}
use Rattle.std.proofs.lemmas.Nat.{pow-add, pow_pos, shl-shr, shr-shr, div-mul-add}
use Rattle.std.proofs.lemmas.Simd.{map-map}
use Rattle.std.proofs.Math.Nat.{mul-le-mul_right, pow-le-pow_right}
use Rattle.a429_grid.specs.Blocks.{HasPeriodicBlocks}
use Rattle.a429_grid.specs.Reversal.{reversed}
use Rattle.a429_pack.specs.declared.demands.Demand.{Demand}
use Rattle.a429_pack.specs.declared.entry.Entry.{Entry}
use Rattle.a429_pack.specs.Demanded.{AreFewestBuses}
use Rattle.a429_pack.specs.Demands.{demand_at, exponent_of, exponents_of, frame_of, period_of}
use Rattle.a429_pack.specs.Entries.{AreInOrder, entry_of, inputs_of, demands_of}
use Rattle.a429_pack.specs.Kept.{padded}
use Rattle.a429_pack.specs.Layout.{IsLaidOut}
use Rattle.a429_pack.specs.Schedules.{IsFewest}
use Rattle.a429_pack.specs.Sums.{start_of}
use Rattle.a429_pack.proofs.Counting.{Orders}
use Rattle.a429_pack.proofs.Entries.{below_frame}
use Rattle.a429_pack.proofs.Fewest.{layout_is_fewest}
use Rattle.a429_pack.proofs.Ordered.{first_least}
use Rattle.a429_pack.proofs.Orders.{orders_of, length_permuted}
use Rattle.a429_pack.proofs.Stretches.{Stretches, aligned, stands, offset_below}
use Rattle.a429_pack.proofs.Tables.{padded-front, start_more, stretch_within}

-- ---- columns of entries in order

abbrev pub asked : ℕ → List Demand → ℕ → ℕ
asked h ds i = 2 ^ (h - exponent_of (demand_at ds i))

demands_are : (h : ℕ) (ds : List Demand) (es : List Entry) → AreInOrder ds es → demands_of h es ≡ map (asked h ds) (inputs_of es)
demands_are h ds es order =
    ap (demands_of h) order.each ∙ map-map (λ (e : Entry). 2 ^ (h - e.exponent)) (λ i. entry_of i (demand_at ds i)) (inputs_of es)

pub demand_over : (h e : ℕ) → e ≤ h → 2 ^ h / 2 ^ e ≡ 2 ^ (h - e)
demand_over h e few =
    let digits : (h - e) + e ≡ h = omega arith in
    ap (λ z. z / 2 ^ e) (ap (λ z. 2 ^ z) (sym digits) ∙ pow-add 2 (h - e) e) ∙ shl-shr (2 ^ (h - e)) e

same_quotients : (h : ℕ) (ds : List Demand) (is : List ℕ) → h ≡ frame_of ds → map (asked h ds) is ≡ map (λ i. 2 ^ h / period_of (demand_at ds i)) is
same_quotients h ds [] same = refl
same_quotients h ds (i ∷ is) same =
    let whole : 2 ^ h / 2 ^ exponent_of (demand_at ds i) ≡ asked h ds i = demand_over h (exponent_of (demand_at ds i)) (omega (arith, below_frame ds i)) in
    ap (λ x. x ∷ map (asked h ds) is) (sym whole) ∙ ap (λ xs. 2 ^ h / period_of (demand_at ds i) ∷ xs) (same_quotients h ds is same)

-- the demands are the frame by the periods
pub quotients : (h : ℕ) (ds : List Demand) (es : List Entry) → AreInOrder ds es → h ≡ frame_of ds
    → demands_of h es ≡ map (λ i. 2 ^ h / period_of (demand_at ds i)) (inputs_of es)
quotients h ds es order same = demands_are h ds es order ∙ same_quotients h ds (inputs_of es) same

pub within : (h : ℕ) (ds : List Demand) (es : List Entry) → AreInOrder ds es → h ≡ frame_of ds → All (λ e. e.exponent ≤ h) es
within h ds es order same =
    subst (All (λ e. e.exponent ≤ h)) (sym order.each) (λ k d below. listed_within h ds (inputs_of es) same k d (omega (arith, length-map (inputs_of es) (λ i. entry_of i (demand_at ds i)))))
  where
    listed_within : (h : ℕ) (ds : List Demand) (is : List ℕ) → h ≡ frame_of ds → (k : ℕ) (d : Entry) → k < length is
        → (get_or (map (λ i. entry_of i (demand_at ds i)) is) k d).exponent ≤ h
    listed_within h ds is same k d below =
        subst (λ (e : Entry). e.exponent ≤ h) (sym (get_or-map (λ i. entry_of i (demand_at ds i)) is k 0 d below)) (omega (arith, below_frame ds (get_or is k 0)))

-- entries that are read again are in the same order
pub still_in_order : (ds : List Demand) (es xs : List Entry) → xs ≡ es → AreInOrder ds es → AreInOrder ds xs
still_in_order ds es xs same order = subst (λ (ys : List Entry). AreInOrder ds ys) (sym same) order

-- ---- stretches

-- what is known of a layout by its numbers: n outputs, order, exponents and starts
pub record Packing (h n : ℕ) (ds : List Demand) (is demands : List ℕ) : Type 0 where
  pub many : length ds ≡ n
  pub inputs : length is ≡ n
  pub long : length demands ≡ n
  pub moved : IsPermutation (range_with_len 0 n) is
  pub orders : Orders n (λ i. get_or is i 0)
  pub demand : (i : ℕ) → i < n → get_or demands i 0 ≡ 2 ^ (h - exponent_of (demand_at ds (get_or is i 0)))
  pub few : (i : ℕ) → exponent_of (demand_at ds i) ≤ h
  pub stretches : Stretches h n (λ i. h - exponent_of (demand_at ds (get_or is i 0))) (start_of demands)

-- from an order in which the periods do not fall
pub packing_by : (h : ℕ) (ds : List Demand) (is demands : List ℕ) → HasPeriodicBlocks h → h ≡ frame_of ds → IsPermutation (range_with_len 0 (length ds)) is
    → ((i : ℕ) → i + 1 < length is → exponent_of (demand_at ds (get_or is i 0)) ≤ exponent_of (demand_at ds (get_or is (i + 1) 0)))
    → demands ≡ map (asked h ds) is → Packing h (length ds) ds is demands
packing_by h ds is demands blocks same moved rising are =
    let n : ℕ = length ds in
    let inputs : length is ≡ n = length_permuted n is moved in
    let long : length demands ≡ n = ap length are ∙ length-map is (asked h ds) ∙ inputs in
    let demand : (i : ℕ) → i < n → get_or demands i 0 ≡ 2 ^ (h - exponent_of (demand_at ds (get_or is i 0))) = λ i below.
    ap (λ xs. get_or xs i 0) are ∙ get_or-map (asked h ds) is i 0 0 (omega arith) in
    record {
      many = refl;
      inputs = inputs;
      long = long;
      moved = moved;
      orders = orders_of n is inputs moved;
      demand = demand;
      few = λ i. omega (arith, below_frame ds i);
      stretches = record {
        begins = refl;
        follows = λ i below. start_more demands i (omega arith) ∙ ap (λ z. start_of demands i + z) (demand i below);
        falling = λ i below. omega (arith, rising i (omega arith));
        within = λ i below. omega arith;
        blocks = blocks;
      };
    }

pub packing_of : (h : ℕ) (ds : List Demand) (es : List Entry) → HasPeriodicBlocks h → AreInOrder ds es → h ≡ frame_of ds → Packing h (length ds) ds (inputs_of es) (demands_of h es)
packing_of h ds es blocks order same =
    let is : List ℕ = inputs_of es in
    packing_by h ds is (demands_of h es) blocks same order.order.all
    (λ i below. first_least (exponent_of (demand_at ds (get_or is i 0))) (exponent_of (demand_at ds (get_or is (i + 1) 0))) _ (order.order.rising i below))
    (demands_are h ds es order)

-- ---- the fewest buses

-- what a quotient rounded up is
pub ceil_fits : (h total frame buses : ℕ) → frame ≡ 2 ^ h → buses ≡ div_ceil total frame → (total ≤ buses * 2 ^ h) × (buses * 2 ^ h < total + 2 ^ h)
ceil_fits h total frame buses is-frame is =
    let some : 0 < frame = omega (arith, is-frame, pow_pos h) in
    let both = div_ceil_times total frame some in
    let product : buses * 2 ^ h ≡ div_ceil total frame * frame = ap (λ z. z * 2 ^ h) is ∙ ap (λ z. div_ceil total frame * z) (sym is-frame) in
    (omega (arith, both.0, product), omega (arith, both.1, product, is-frame))

whole_sum : (demands : List ℕ) (n : ℕ) → length demands ≡ n → start_of demands n ≡ sum demands
whole_sum demands n long = ap sum (take_all n demands (omega arith))

fewest_periods : (h n : ℕ) (ds : List Demand) (is demands : List ℕ) (buses : ℕ) → Packing h n ds is demands → buses ≡ div_ceil (sum demands) (2 ^ h)
    → IsFewest (2 ^ h) (map period_of ds) buses
fewest_periods h n ds is demands buses p is-buses =
    let many : n ≡ length (map period_of ds) = sym (length-map ds period_of ∙ p.many) in
    let fits : (sum demands ≤ buses * 2 ^ h) × (buses * 2 ^ h < sum demands + 2 ^ h) = ceil_fits h (sum demands) (2 ^ h) buses refl is-buses in
    let k : ℕ → ℕ = λ i. h - exponent_of (demand_at ds (get_or is i 0)) in
    let end : start_of demands (length (map period_of ds)) ≡ sum demands = ap (start_of demands) (sym many) ∙ whole_sum demands n p.long in
    layout_is_fewest h buses (map period_of ds) (λ i. get_or is i 0) k (start_of demands)
    (record {
      stretches = subst (λ (m : ℕ). Stretches h m k (start_of demands)) many p.stretches;
      orders = subst (λ (m : ℕ). Orders m (λ i. get_or is i 0)) many p.orders;
      period = λ i below.
          let back : h - k i ≡ exponent_of (demand_at ds (get_or is i 0)) = omega (arith, p.few (get_or is i 0)) in
          let inside : get_or is i 0 < length ds = omega (arith, p.many, p.orders.inside i (omega arith)) in
          get_or-map period_of ds (get_or is i 0) (record { period = None; label = 0; sdi = None }) 0 inside ∙ ap (λ z. 2 ^ z) (sym back);
    })
    (omega (arith, fits.0, end)) (omega (arith, fits.1, end))

pub fewest : (h n : ℕ) (ds : List Demand) (is demands : List ℕ) (buses : ℕ) → Packing h n ds is demands → buses ≡ div_ceil (sum demands) (2 ^ h)
    → IsFewest (2 ^ h) (map (λ k. 2 ^ k) (exponents_of ds)) buses
fewest h n ds is demands buses p is-buses =
    let powers : map period_of ds ≡ map (λ k. 2 ^ k) (exponents_of ds) = sym (map-map (λ (k : ℕ). 2 ^ k) exponent_of ds) in
    subst (λ (ps : List ℕ). IsFewest (2 ^ h) ps buses) powers (fewest_periods h n ds is demands buses p is-buses)

-- as many as have room for the demands of all entries
pub fewest_needed : (h : ℕ) (ds : List Demand) (es xs : List Entry) (needed : ℕ) → h ≡ frame_of ds → AreInOrder ds es → xs ≡ es → needed ≡ div_ceil (sum (demands_of h xs)) (2 ^ h)
    → ((k : ℕ) → HasPeriodicBlocks k) → AreFewestBuses (exponents_of ds) needed
fewest_needed h ds es xs needed frame order same is blocks =
    let here : needed ≡ div_ceil (sum (demands_of h es)) (2 ^ h) = is ∙ ap (λ (ys : List Entry). div_ceil (sum (demands_of h ys)) (2 ^ h)) same in
    subst (λ (k : ℕ). IsFewest (2 ^ k) (map (λ j. 2 ^ j) (exponents_of ds)) needed) frame
    (fewest h (length ds) ds (inputs_of es) (demands_of h es) needed (packing_of h ds es (blocks h) order frame) here)

-- ---- a sound layout

-- a block that starts at a multiple of its length stays on its bus
stays : (a d q : ℕ) → q * 2 ^ a / 2 ^ (a + d) ≡ (q * 2 ^ a + 2 ^ a - 1) / 2 ^ (a + d)
stays a d q =
    let some : 0 < 2 ^ a = pow_pos a in
    let rest : q * 2 ^ a + 2 ^ a - 1 ≡ q * 2 ^ a + (2 ^ a - 1) = omega arith in
    let first : q * 2 ^ a / 2 ^ a ≡ q = shl-shr q a in
    let last : (q * 2 ^ a + (2 ^ a - 1)) / 2 ^ a ≡ q = div-mul-add q (2 ^ a) (2 ^ a - 1) (omega arith) in
    sym (shr-shr (q * 2 ^ a) a d) ∙ ap (λ z. z / 2 ^ d) first
    ∙ sym (ap (λ z. z / 2 ^ (a + d)) rest ∙ sym (shr-shr (q * 2 ^ a + (2 ^ a - 1)) a d) ∙ ap (λ z. z / 2 ^ d) last)

-- every bus but the last is full
pub all_but_last : (buses x t : ℕ) → buses * x < t + x → 1 ≤ t → (buses - 1) * x < t
all_but_last zero x t tight some = omega arith
all_but_last (suc m) x t tight some =
    let more : suc m * x ≡ m * x + x = omega arith in
    let less : suc m - 1 ≡ m = omega arith in
    omega (arith, ap (λ z. z * x) less)

pub sound : (h n : ℕ) (ds : List Demand) (is demands : List ℕ) (buses : ℕ) → Packing h n ds is demands → buses ≡ div_ceil (sum demands) (2 ^ h)
    → 1 ≤ n → h ≤ 13 → buses ≤ 16 → IsLaidOut (record { frame = h; buses = buses; inputs = is; demands = demands })
sound h n ds is demands buses p is-buses some low few =
    let k : ℕ → ℕ = λ i. h - exponent_of (demand_at ds (get_or is i 0)) in
    let fits : (sum demands ≤ buses * 2 ^ h) × (buses * 2 ^ h < sum demands + 2 ^ h) = ceil_fits h (sum demands) (2 ^ h) buses refl is-buses in
    record {
      frame = low;
      few = few;
      inputs = subst (λ (m : ℕ). IsPermutation (range_with_len 0 m) is) (sym p.long) p.moved;
      on_one_bus = λ i below.
          let inside : i < n = omega (arith, p.long) in
          let (q, start) = aligned h n k (start_of demands) p.stretches i inside in
          let digits : k i + (h - k i) ≡ h = omega arith in
          let there : q * 2 ^ k i / 2 ^ h ≡ (q * 2 ^ k i + 2 ^ k i - 1) / 2 ^ h =
          subst (λ (z : ℕ). q * 2 ^ k i / 2 ^ z ≡ (q * 2 ^ k i + 2 ^ k i - 1) / 2 ^ z) digits (stays (k i) (h - k i) q) in
          ap (λ z. z / 2 ^ h) start ∙ there ∙ sym (ap (λ z. (z + get_or demands i 0 - 1) / 2 ^ h) start ∙ ap (λ z. (q * 2 ^ k i + z - 1) / 2 ^ h) (p.demand i inside));
      room = fits.0;
      full =
          let here : 0 < n = omega arith in
          let first : 0 < sum demands = stretch_within demands 0 0 (omega (arith, p.long), omega (arith, p.stretches.begins), omega (arith, p.demand 0 here, pow_pos (k 0))) in
          all_but_last buses (2 ^ h) (sum demands) fits.1 first;
      periodic = λ i below.
          let inside : i < n = omega (arith, p.long) in
          let demand : get_or demands i 0 ≡ 2 ^ k i = p.demand i inside in
          let period : 2 ^ h / get_or demands i 0 ≡ 2 ^ (h - k i) = ap (λ z. 2 ^ h / z) demand ∙ demand_over h (k i) (omega arith) in
          let low : reversed h (start_of demands i % 2 ^ h) < 2 ^ (h - k i) = offset_below h n k (start_of demands) p.stretches i inside in
          record {
            within = omega (arith, period, low);
            cells = λ bus slot.
                let both = stands h n k (start_of demands) p.stretches i inside bus slot in (
                  (λ (there, from, to).
                      let (b, o) = both.0 (from, omega (arith, demand, to)) in
                      (b, ap (λ z. slot % z) period ∙ o)),
                  (λ (b, o).
                      let (from, to) = both.1 (b, ap (λ z. slot % z) (sym period) ∙ o) in
                      (below, from, omega (arith, demand, to))),
                );
          };
    }

-- ---- what the arrays keep

pub kept_in : (n h : ℕ) (es : List Entry) (sums array : List ℕ) → sums ≡ demands_of h es → array ≡ padded 0 n (inputs_of es)
    → take (length sums) array ≡ inputs_of es
kept_in n h es sums array demands same =
    let long : length (inputs_of es) ≡ length sums = length-map es (λ e. e.input) ∙ sym (ap length demands ∙ length-map es (λ e. 2 ^ (h - e.exponent))) in
    ap (take (length sums)) same ∙ padded-front 0 n (inputs_of es) (length sums) long

-- few buses have few slots
pub sum_small : (h total buses : ℕ) → h ≤ 13 → buses ≡ div_ceil total (2 ^ h) → buses ≤ 16 → total < 2 ^ 32
sum_small h total buses low is few =
    let fits : (total ≤ buses * 2 ^ h) × (buses * 2 ^ h < total + 2 ^ h) = ceil_fits h total (2 ^ h) buses refl is in
    let one : 0 < 2 = omega arith in
    omega (arith, fits.0, pow-le-pow_right {n = 2} one {i = h} {j = 13} low, mul-le-mul_right {m = buses} {n = 16} (2 ^ h) few)

pub length-order : (ds : List Demand) (es : List Entry) → AreInOrder ds es → length es ≡ length ds
length-order ds es order = sym (length-map es (λ e. e.input)) ∙ length_permuted (length ds) (inputs_of es) order.order.all
