-- The layout by running sums and reversed digits serves a group on the fewest buses.
use Rattle.std.proofs.Common.{◌≡◌, ℕ, zero, suc, ◌+◌, ◌-◌, ◌*◌, ◌/◌, ◌%◌, ◌^◌, ◌<◌, ◌≤◌, Option, Some, None, refl, sym, ap, ◌∙◌, subst, arith, inl, inr}
use Rattle.std.specs.Prelude.{List, length, slice_index}
use Rattle.std.specs.Option.{option_map}
use Rattle.std.proofs.lemmas.Bool.{cases_lt}
use Rattle.std.proofs.lemmas.Nat.{pow-add, pow_pos, div_below, shl-shr}
use Rattle.std.proofs.lemmas.Option.{same_Some, none-some}
use Rattle.std.proofs.Math.Nat.{mul-le-mul_right}
use Rattle.a429_grid.specs.Blocks.{place_in}
use Rattle.a429_grid.specs.Reversal.{reversed}
use Rattle.a429_pack.specs.Schedules.{Schedule, RecursWithin, Serves, IsFewest, IsExactlyPeriodic}
use Rattle.a429_pack.proofs.Counting.{total, total-zero, total-suc, total-ext, total-reordered, demands_fit, Orders, orders_apart, orders_found}
use Rattle.a429_pack.proofs.Stretches.{Stretches, holder, holder_at, holder_is, stands, offset_below, rises, slot_at}

-- the output in a cell
pub cell_of : ℕ → ℕ → (ℕ → ℕ) → (ℕ → ℕ) → ℕ → ℕ → Option ℕ
cell_of h n order s bus slot = option_map order (holder s n (place_in h bus slot))

-- the layout of a group: the outputs in some order, each with a stretch of as many places as it has cells in a frame
pub record Arrangement (h : ℕ) (periods : List ℕ) (order k s : ℕ → ℕ) : Type 0 where
  pub stretches : Stretches h (length periods) k s
  pub orders : Orders (length periods) order
  pub period : (i : ℕ) → i < length periods → slice_index periods (order i) ≡ 2 ^ (h - k i)

mapped : (f : ℕ → ℕ) (x : Option ℕ) (y : ℕ) → option_map f x ≡ Some y → (z : ℕ) × (x ≡ Some z) × (f z ≡ y)
mapped f None y is = absurd (none-some y is)
mapped f (Some z) y is = (z, refl, same_Some (f z) y is)

named_within : (h : ℕ) (periods : List ℕ) (order k s : ℕ → ℕ) → Arrangement h periods order k s → (bus slot output : ℕ)
    → cell_of h (length periods) order s bus slot ≡ Some output → output < length periods
unfolding cell_of
named_within h periods order k s laid bus slot output is =
    let (j, held, same) = mapped order (holder s (length periods) (place_in h bus slot)) output is in
    let (inside, low, high) = holder_is s (length periods) j (place_in h bus slot) held in
    omega (arith, laid.orders.inside j inside, same)

-- each output is on one bus at one offset, and nowhere else
pub exact_at : (h n : ℕ) (order k s : ℕ → ℕ) → Stretches h n k s → Orders n order → (i : ℕ) → i < n
    → IsExactlyPeriodic (λ row slot. cell_of h n order s row slot ≡ Some (order i)) (s i / 2 ^ h) (reversed h (s i % 2 ^ h)) (2 ^ (h - k i))
unfolding cell_of
exact_at h n order k s laid orders i below =
    let next : s (i + 1) ≡ s i + 2 ^ k i = laid.follows i below in
    record {
      within = offset_below h n k s laid i below;
      cells = λ bus slot. (
        (λ is.
            let (j, held, same) = mapped order (holder s n (place_in h bus slot)) (order i) is in
            let (inside, low, high) = holder_is s n j (place_in h bus slot) held in
            let one : j ≡ i = orders_apart n order orders j i inside below same in
            (stands h n k s laid i below bus slot).0 (omega (arith, ap s one), omega (arith, ap (λ m. s (m + 1)) one))),
        (λ at.
            let (low, high) = (stands h n k s laid i below bus slot).1 at in
            let held : holder s n (place_in h bus slot) ≡ Some i = holder_at h n k s laid n i (place_in h bus slot) (omega arith) below low (omega arith) in
            ap (option_map order) held),
      );
    }

pub exactly_periodic : (h : ℕ) (periods : List ℕ) (order k s : ℕ → ℕ) → Arrangement h periods order k s → (i : ℕ) → i < length periods
    → IsExactlyPeriodic (λ row slot. cell_of h (length periods) order s row slot ≡ Some (order i)) (s i / 2 ^ h) (reversed h (s i % 2 ^ h)) (slice_index periods (order i))
exactly_periodic h periods order k s laid i below =
    subst (IsExactlyPeriodic (λ row slot. cell_of h (length periods) order s row slot ≡ Some (order i)) (s i / 2 ^ h) (reversed h (s i % 2 ^ h)))
    (sym (laid.period i below)) (exact_at h (length periods) order k s laid.stretches laid.orders i below)

-- the layout on m buses, as a schedule of one frame
pub schedule_of : ℕ → ℕ → ℕ → (ℕ → ℕ) → (ℕ → ℕ) → Schedule
schedule_of h n m order s = record { rows = m; slots = 2 ^ h; cell = cell_of h n order s }

start_within : (h n m : ℕ) (k s : ℕ → ℕ) → Stretches h n k s → s n ≤ m * 2 ^ h → (i : ℕ) → i < n → s i / 2 ^ h < m
start_within h n m k s laid room i below =
    let next : s (i + 1) ≡ s i + 2 ^ k i = laid.follows i below in
    let gap : i + 1 + (n - (i + 1)) ≡ n = omega arith in
    let up : s (i + 1) ≤ s (i + 1 + (n - (i + 1))) = rises h n k s laid (i + 1) (n - (i + 1)) (omega arith) in
    let some : 0 < 2 ^ k i = pow_pos (k i) in
    div_below (s i) (2 ^ h) m (pow_pos h) (omega (arith, ap s gap))

layout_serves : (h m : ℕ) (periods : List ℕ) (order k s : ℕ → ℕ) → Arrangement h periods order k s → s (length periods) ≤ m * 2 ^ h
    → Serves (2 ^ h) periods (schedule_of h (length periods) m order s)
unfolding schedule_of
layout_serves h m periods order k s laid room =
    let n : ℕ = length periods in
    record {
      names = λ row slot output inside within is. named_within h periods order k s laid row slot output is;
      long = omega arith;
      recurs = λ output below.
          let (i, inside, same) = orders_found n order laid.orders output below in
          let P : ℕ → Type 0 = λ o. RecursWithin (slice_index periods o) o (record { rows = m; slots = 2 ^ h; cell = cell_of h n order s }) in
          let exact : IsExactlyPeriodic (λ row slot. cell_of h n order s row slot ≡ Some (order i)) (s i / 2 ^ h) (reversed h (s i % 2 ^ h)) (slice_index periods (order i)) =
          exactly_periodic h periods order k s laid i inside in
          let there : P (order i) = λ start fits.
          let (slot, low, high, at) = slot_at (slice_index periods (order i)) (reversed h (s i % 2 ^ h)) start exact.within in
          (s i / 2 ^ h, slot, start_within h n m k s laid.stretches room i inside, low, high, (exact.cells (s i / 2 ^ h) slot).1 (refl, at))
          in
          subst P same there;
    }

-- the demands' sum is the place at which the next stretch would begin
starts-total : (h n : ℕ) (k s : ℕ → ℕ) → Stretches h n k s → (j : ℕ) → j ≤ n → s j ≡ total j (λ i. 2 ^ k i)
starts-total h n k s laid zero few = laid.begins ∙ sym (total-zero (λ i. 2 ^ k i))
starts-total h n k s laid (suc j) few =
    let next : s (j + 1) ≡ s j + 2 ^ k j = laid.follows j (omega arith) in
    let more : suc j ≡ j + 1 = omega arith in
    ap s more ∙ next ∙ ap (λ z. z + 2 ^ k j) (starts-total h n k s laid j (omega arith)) ∙ sym (total-suc j (λ i. 2 ^ k i))

demand_whole : (h k : ℕ) → k ≤ h → 2 ^ h / 2 ^ (h - k) ≡ 2 ^ k
demand_whole h k few =
    let digits : k + (h - k) ≡ h = omega arith in
    ap (λ z. z / 2 ^ (h - k)) (ap (λ z. 2 ^ z) (sym digits) ∙ pow-add 2 k (h - k)) ∙ shl-shr (2 ^ k) (h - k)

-- no schedule that serves the group has fewer places than its demands ask for
pub demands_needed : (h : ℕ) (periods : List ℕ) (order k s : ℕ → ℕ) → Arrangement h periods order k s → (t : Schedule) → Serves (2 ^ h) periods t
    → s (length periods) ≤ 2 ^ h * t.rows
demands_needed h periods order k s laid t serves =
    let n : ℕ = length periods in
    let demand : ℕ → ℕ = λ o. 2 ^ h / slice_index periods o in
    let at : (i : ℕ) → i < n → demand (order i) ≡ 2 ^ k i = λ i below.
    ap (λ p. 2 ^ h / p) (laid.period i below) ∙ demand_whole h (k i) (laid.stretches.within i below) in
    let whole : (o : ℕ) → o < n → demand o * slice_index periods o ≡ 2 ^ h = λ o below.
    let (i, inside, same) = orders_found n order laid.orders o below in
    let digits : k i + (h - k i) ≡ h = omega (arith, laid.stretches.within i inside) in
    let there : demand (order i) * slice_index periods (order i) ≡ 2 ^ h =
    ap (λ z. z * slice_index periods (order i)) (at i inside) ∙ ap (λ z. 2 ^ k i * z) (laid.period i inside)
    ∙ sym (pow-add 2 (k i) (h - k i)) ∙ ap (λ z. 2 ^ z) digits in
    subst (λ (o : ℕ). demand o * slice_index periods o ≡ 2 ^ h) same there
    in
    let sums : s n ≡ total n demand =
    starts-total h n k s laid.stretches n (omega arith)
    ∙ sym (total-ext n (λ i. demand (order i)) (λ i. 2 ^ k i) at)
    ∙ total-reordered n order laid.orders demand in
    omega (arith, sums, demands_fit (2 ^ h) periods t demand serves whole)

-- the demands' sum by the frame, rounded up, is the least number of buses
pub layout_is_fewest : (h m : ℕ) (periods : List ℕ) (order k s : ℕ → ℕ) → Arrangement h periods order k s
    → s (length periods) ≤ m * 2 ^ h → m * 2 ^ h < s (length periods) + 2 ^ h → IsFewest (2 ^ h) periods m
unfolding schedule_of
layout_is_fewest h m periods order k s laid room tight = record {
  enough = (schedule_of h (length periods) m order s, refl, layout_serves h m periods order k s laid room);
  least = λ t serves.
      let needed : s (length periods) ≤ 2 ^ h * t.rows = demands_needed h periods order k s laid t serves in
      elim (cases_lt t.rows m) [
        | inl fewer ↦
            let more : (t.rows + 1) * 2 ^ h ≤ m * 2 ^ h = mul-le-mul_right {m = t.rows + 1} {n = m} (2 ^ h) (omega arith) in
            absurd (omega arith)
        | inr least ↦ least
      ];
}
