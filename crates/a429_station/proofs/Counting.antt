-- The slots of a million frames can be counted: a next frame is never refused for want of slots.
use Rattle.std.proofs.Common.{◌≡◌, ◌∙◌, ℕ, ◌+◌, ◌*◌, ◌^◌, ◌<◌, ◌≤◌, Bool, true, false, List, [], ◌∷◌, length, ap, sym, refl, inl, inr, arith}
use Rattle.std.specs.Prelude.{Option, Some, None, if◌then◌else◌, nat_lt, cond, count_by, slice_get, unwrap_or}
use Rattle.std.specs.Option.{option_map_or}
use Rattle.std.specs.List.{AllByRecursion}
use Rattle.std.proofs.lemmas.Bool.{false≢true, lt-ltb}
use Rattle.std.proofs.lemmas.List.Sums.{sum_by-cons}
use Rattle.std.proofs.lemmas.Option.{slice_get_cases}
use mathlib.Core.List.{IsPrefix}
use Rattle.a429_word.proofs.Lists.{all_beginning, prefix_self}
use Rattle.a429_slots.specs.Tables.{SlotTable, PlanTable, cells_of, frame_of, groups_of}
use Rattle.a429_slots.specs.History.{last_of}
use Rattle.a429_slots.specs.FrameStates.{FrameState, after_cell, fits_next, turned}
use Rattle.a429_workers.specs.Calls.{Call, Asks, Turns, Meets, Takes, StaysMid, StaysSpent, GroupState, IsLawful, AreLawful, after, state_after, number_of, table_of, turn}
use Rattle.a429_workers.specs.Sends.{is_taken}
use Rattle.a429_workers.specs.Transmitting.{first_fits}
use Rattle.a429_station.specs.Resubmitting.{HasFewSlots}
use Rattle.a429_workers.proofs.Lists.{all_get}
use Rattle.a429_workers.proofs.Order.{seen_on}

-- ---- the tables of groups

-- a table has few slots if the first one of the group and those of the plans have
few_of : (g : ℕ) (p : SlotTable) (plans : List PlanTable) → frame_of p ≤ 8192 → AllByRecursion HasFewSlots plans → frame_of (table_of g p plans) ≤ 8192
few_of g p plans first all = by_plan (last_of plans) refl
  where
    by_table : (q : PlanTable) → HasFewSlots q → (x : Option SlotTable) → slice_get (groups_of q) g ≡ x → frame_of (unwrap_or x p) ≤ 8192
    by_table q few (Some t) is = all_get (λ t. frame_of t ≤ 8192) (groups_of q) g t is few
    by_table q few None is = first

    by_plan : (x : Option PlanTable) → last_of plans ≡ x → frame_of (option_map_or (λ q. unwrap_or (slice_get (groups_of q) g) p) x p) ≤ 8192
    by_plan (Some q) is = by_table q (all_get HasFewSlots plans _ q is all) (slice_get (groups_of q) g) refl
    by_plan None is = first

-- ---- how far calls lead

-- a call sees no fewer plans than those before it
seen_grows : (g : ℕ) (p : SlotTable) (s : GroupState) (c : Call) → IsLawful g p s c → IsPrefix s.seen (after g p s c).seen
seen_grows g p s (Asks (Some c)) is = prefix_self s.seen
seen_grows g p s (Asks None) is = prefix_self s.seen
seen_grows g p s (Turns plans (Takes n)) is = is.0
seen_grows g p s (Turns plans StaysMid) is = is.0
seen_grows g p s (Turns plans StaysSpent) is = is.0
seen_grows g p s (Meets loads) is = prefix_self s.seen

-- a frame of few slots, whose first is not past this number
pub record IsWithin (s : GroupState) (first : ℕ) : Type 0 where
  pub few : frame_of s.frame.table ≤ 8192
  pub first_slot : s.frame.first ≤ first

cell_within : (s : GroupState) (first : ℕ) → IsWithin s first → (frame_of (after_cell s.frame).table ≤ 8192) × ((after_cell s.frame).first ≤ first)
cell_within s first W = go (nat_lt s.frame.sent (cells_of s.frame.table))
  where
    go : (b : Bool) → (frame_of (if b then record s.frame { sent = s.frame.sent + 1 } else s.frame).table ≤ 8192) × ((if b then record s.frame { sent = s.frame.sent + 1 } else s.frame).first ≤ first)
    go true = (W.few, W.first_slot)
    go false = (W.few, W.first_slot)

turn_within : (s : GroupState) (newest : SlotTable) (first : ℕ) → frame_of newest ≤ 8192 → IsWithin s first → (frame_of (turned s.frame newest).table ≤ 8192) × ((turned s.frame newest).first ≤ first + 8192)
turn_within s newest first few W = go (fits_next s.frame newest)
  where
    next : FrameState
    next = record { table = newest; first = s.frame.first + frame_of s.frame.table; sent = 0 }

    go : (b : Bool) → (frame_of (if b then next else s.frame).table ≤ 8192) × ((if b then next else s.frame).first ≤ first + 8192)
    go true = (few, omega (arith, W.few, W.first_slot))
    go false = (W.few, omega (arith, W.first_slot))

call_within : (g : ℕ) (p : SlotTable) (s : GroupState) (c : Call) (first : ℕ) → frame_of p ≤ 8192 → IsLawful g p s c → AllByRecursion HasFewSlots (after g p s c).seen → IsWithin s first
    → IsWithin (after g p s c) (first + 8192 * cond (is_taken c) 1 0)
call_within g p s (Asks (Some c)) first few is all W = let h = cell_within s first W in record { few = h.0; first_slot = omega (arith, h.1) }
call_within g p s (Asks None) first few is all W = record { few = W.few; first_slot = omega (arith, W.first_slot) }
call_within g p s (Turns plans (Takes n)) first few is all W =
    let h = turn_within s (table_of g p plans) first (few_of g p plans few all) W in
    record { few = h.0; first_slot = omega (arith, h.1) }
call_within g p s (Turns plans StaysMid) first few is all W = record { few = W.few; first_slot = omega (arith, W.first_slot) }
call_within g p s (Turns plans StaysSpent) first few is all W = record { few = W.few; first_slot = omega (arith, W.first_slot) }
call_within g p s (Meets loads) first few is all W = record { few = W.few; first_slot = omega (arith, W.first_slot) }

pub calls_within : (g : ℕ) (p : SlotTable) (s : GroupState) (calls : List Call) (first : ℕ) → frame_of p ≤ 8192 → AreLawful g p s calls → AllByRecursion HasFewSlots (state_after g p s calls).seen → IsWithin s first
    → IsWithin (state_after g p s calls) (first + 8192 * count_by is_taken calls)
calls_within g p s [] first few lawful all W = record { few = W.few; first_slot = omega (arith, W.first_slot) }
calls_within g p s (c ∷ calls) first few lawful all W =
    let next = after g p s c in
    let so_far = all_beginning HasFewSlots next.seen (state_after g p next calls).seen (seen_on g p next calls lawful.1) all in
    let rest = calls_within g p next calls (first + 8192 * cond (is_taken c) 1 0) few lawful.1 all (call_within g p s c first few lawful.0 so_far W) in
    let sum : count_by is_taken (c ∷ calls) ≡ cond (is_taken c) 1 0 + count_by is_taken calls = sum_by-cons (λ (x : Call). cond (is_taken x) 1 0) c calls in
    record { few = rest.few; first_slot = omega (arith, rest.first_slot, sum) }

-- ---- a first frame

pub fits_at_first : (opened : PlanTable) (g : ℕ) → g < length (groups_of opened) → HasFewSlots opened → first_fits opened g 0 ≡ false → ⊥
fits_at_first opened g inside few spent =
    elim (slice_get_cases (groups_of opened) g).1 [
      | inl hit ↦
          let small = all_get (λ t. frame_of t ≤ 8192) (groups_of opened) g hit.0 hit.2 few in
          let fits : nat_lt (0 + frame_of hit.0) (2 ^ 64) ≡ true = lt-ltb (0 + frame_of hit.0) (2 ^ 64) (omega (arith, small)) in
          let same : first_fits opened g 0 ≡ true = ap (λ (x : Option SlotTable). option_map_or (λ p. nat_lt (0 + frame_of p) (2 ^ 64)) x false) hit.2 ∙ fits in
          absurd (false≢true (sym spent ∙ same))
      | inr miss ↦ absurd (omega (arith, inside, miss.0))
    ]

-- ---- a next frame

-- if the slots so far are few, a change is not refused because of its slots
pub not_spent : (g : ℕ) (p : SlotTable) (s : GroupState) (plans : List PlanTable) (first : ℕ) → frame_of p ≤ 8192 → AllByRecursion HasFewSlots plans → IsWithin s first → first + 16384 < 2 ^ 64
    → turn g p s plans ≡ StaysSpent → ⊥
not_spent g p s plans first few all W room is =
    let newest = table_of g p plans in
    let next = few_of g p plans few all in
    let fits : fits_next s.frame newest ≡ true = lt-ltb _ _ (omega (arith, next, W.few, W.first_slot, room)) in
    let by : turn g p s plans ≡ (if nat_lt s.frame.sent (cells_of s.frame.table) then StaysMid else Takes (number_of plans)) = rw fits refl in
    go (nat_lt s.frame.sent (cells_of s.frame.table)) (number_of plans) (sym by ∙ is)
  where
    go : (b : Bool) (n : ℕ) → (if b then StaysMid else Takes n) ≡ StaysSpent → ⊥
    go true n h = absurd (cc h)
    go false n h = absurd (cc h)
