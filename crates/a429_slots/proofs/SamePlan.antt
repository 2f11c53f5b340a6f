-- Within one plan the cells of an output are a period apart.
use Rattle.std.proofs.Common.{◌≡◌, ℕ, suc, ◌+◌, ◌-◌, ◌*◌, ◌/◌, ◌%◌, ◌^◌, ◌<◌, ◌≤◌, List, length, take, ◌∙◌, sym, ap, subst, refl, inl, inr, arith}
use Rattle.std.specs.Prelude.{Option, Some, None, slice_get, option_and_then}
use Rattle.std.proofs.Math.Nat.{mod-add-div', mul-le-mul_right, mul-add-mod_self_right, mul_assoc}
use Rattle.std.proofs.lemmas.Nat.{pow-add}
use Rattle.std.proofs.lemmas.Bool.{cases_eq, cases_lt}
use Rattle.std.proofs.lemmas.Option.{none-some, slice_get_within}
use Rattle.a429_word.proofs.Lists.{in_frame}
use Rattle.a429_slots.specs.Tables.{Placed, SlotTable, groups_of, outputs_of, frame_of, buses_of, cells_of, cell_at, output_in}
use Rattle.a429_slots.specs.Events.{Event, Cell}
use Rattle.a429_slots.specs.History.{Opening, Current, current, cells_since}
use Rattle.a429_slots.specs.Spacing.{IsOutputCell, IsTooClose, IsSpacedTable, number_at}
use Rattle.a429_slots.proofs.Numbers.{is_numbered}
use Rattle.a429_slots.proofs.Histories.{goes_on}
use Rattle.a429_slots.proofs.Answered.{due_is, sent_within}
use Rattle.a429_slots.proofs.Following.{IsAgain, IsLater, later_at, behind_cell, one_more, frame_at_place}

-- ---- numbers

-- two numbers that leave one rest are as far apart as what they are divided by
pub rests_apart : (a b n : ℕ) → a < b → a % n ≡ b % n → a + n ≤ b
rests_apart a b n less same =
    let x = a / n in
    let y = b / n in
    let first : a % n + x * n ≡ a = mod-add-div' a n in
    let second : b % n + y * n ≡ b = mod-add-div' b n in
    elim (cases_lt x y) [
      | inl lt ↦
          let more : (x + 1) * n ≤ y * n = mul-le-mul_right {m = x + 1} {n = y} n (omega (arith, lt)) in
          let split : (x + 1) * n ≡ x * n + n = omega arith in
          omega (arith, more, split, first, second, same)
      | inr ge ↦
          let fewer : y * n ≤ x * n = mul-le-mul_right {m = y} {n = x} n ge in
          absurd (omega (arith, fewer, first, second, same, less))
    ]

-- whole frames leave the rest as it is
pub rest_of_frames : (h e r s : ℕ) → e ≤ h → (r * 2 ^ h + s) % 2 ^ e ≡ s % 2 ^ e
rest_of_frames h e r s few =
    let digits : (h - e) + e ≡ h = omega (arith, few) in
    let whole : 2 ^ h ≡ 2 ^ (h - e) * 2 ^ e = ap (λ z. 2 ^ z) (sym digits) ∙ pow-add 2 (h - e) e in
    let product : r * 2 ^ h ≡ r * 2 ^ (h - e) * 2 ^ e = ap (λ z. r * z) whole ∙ sym (mul_assoc r (2 ^ (h - e)) (2 ^ e)) in
    ap (λ z. (z + s) % 2 ^ e) product ∙ mul-add-mod_self_right (r * 2 ^ (h - e)) (2 ^ e) s

-- a later cell on the same bus has a later slot
pub later_slot : (c d m : ℕ) → c < d → c % m ≡ d % m → c / m < d / m
later_slot c d m less same =
    let first : c % m + c / m * m ≡ c = mod-add-div' c m in
    let second : d % m + d / m * m ≡ d = mod-add-div' d m in
    elim (cases_lt (c / m) (d / m)) [
      | inl lt ↦ lt
      | inr ge ↦
          let fewer : d / m * m ≤ c / m * m = mul-le-mul_right {m = d / m} {n = c / m} m ge in
          absurd (omega (arith, fewer, first, second, same, less))
    ]

-- ---- one table

-- the output in a cell has a number
pub record IsAt (t : SlotTable) (bus slot : ℕ) (x : Placed) : Type 0 where
  pub number : ℕ
  pub cell : cell_at t bus slot ≡ Some number
  pub row : slice_get (outputs_of t) number ≡ Some x

pub is_at : (t : SlotTable) (bus slot : ℕ) (x : Placed) → output_in t bus slot ≡ Some x → IsAt t bus slot x
is_at t bus slot x h = go (cell_at t bus slot) refl h
  where
    go : (n : Option ℕ) → cell_at t bus slot ≡ n → option_and_then (λ k. slice_get (outputs_of t) k) n ≡ Some x → IsAt t bus slot x
    go None is there = absurd (none-some x there)
    go (Some n) is there = record { number = n; cell = is; row = there }

-- two cells of one source
pub record AreAlike (t : SlotTable) (b s c u : ℕ) (y : Placed) : Type 0 where
  pub bus : b ≡ c
  pub rest : s % 2 ^ y.place.period ≡ u % 2 ^ y.place.period
  pub fits : y.place.period ≤ t.frame
  pub spaced : y.limits.spacing ≤ 2 ^ y.place.period

pub alike : (t : SlotTable) (b s c u : ℕ) (x y : Placed) → IsSpacedTable t → output_in t b s ≡ Some x → output_in t c u ≡ Some y → x.source ≡ y.source → AreAlike t b s c u y
alike t b s c u x y S first second same =
    let A = is_at t b s x first in
    let B = is_at t c u y second in
    let own : A.number ≡ B.number = S.own A.number B.number x y A.row B.row same in
    let at = S.periodic B.number y B.row in
    let one = (at.cells b s).0 (A.cell ∙ ap (λ (n : ℕ). Some n) own) in
    let other = (at.cells c u).0 B.cell in
    record { bus = one.0 ∙ sym other.0; rest = one.1 ∙ sym other.1; fits = S.fits B.number y B.row; spaced = S.spaced B.number y B.row }

-- ---- one plan

record Cells (g : ℕ) (f : Current) (x : Placed) (slot : ℕ) : Type 0 where
  pub due : cells_since g f < cells_of f.table
  pub stands : output_in f.table (cells_since g f % buses_of f.table) (cells_since g f / buses_of f.table) ≡ Some x
  pub slot_is : slot ≡ f.first + cells_since g f / buses_of f.table

cells_at : (o : Opening) (g : ℕ) (p : SlotTable) (E : List Event) (k : ℕ) (x : Placed) (slot : ℕ) → IsOutputCell o g p E k x slot → Cells g (frame_at_place o g p E k) x slot
cells_at o g p E k x slot I =
    let f = frame_at_place o g p E k in
    let D = due_is g f I.cell I.due in
    record {
      due = D.due;
      stands = ap (λ (b : ℕ). output_in f.table b (cells_since g f / buses_of f.table)) (sym D.bus) ∙ (ap (λ (s : ℕ). output_in f.table I.cell.0 s) (sym D.slot) ∙ I.stands);
      slot_is = I.counted ∙ ap (λ (s : ℕ). f.first + s) D.slot;
    }

-- the second cell by the table of the first
period_apart : (g : ℕ) (f h : Current) (x y : Placed) (u t : ℕ) → IsSpacedTable f.table → Cells g f x u → Cells g h y t → x.source ≡ y.source → h.table ≡ f.table
    → (r : ℕ) → h.first ≡ f.first + r * frame_of f.table → (cells_since g f % buses_of f.table ≡ cells_since g h % buses_of f.table → cells_since g f / buses_of f.table < r * frame_of f.table + cells_since g h / buses_of f.table)
    → u + y.limits.spacing ≤ t
period_apart g f h x y u t S A B same table r first later =
    let T = f.table in
    let c = cells_since g f in
    let d = cells_since g h in
    let m = buses_of T in
    let stands : output_in T (d % m) (d / m) ≡ Some y = subst (λ (v : SlotTable). output_in v (d % buses_of v) (d / buses_of v) ≡ Some y) table B.stands in
    let at : t ≡ h.first + d / m = subst (λ (v : SlotTable). t ≡ h.first + d / buses_of v) table B.slot_is in
    let L = alike T (c % m) (c / m) (d % m) (d / m) x y S A.stands stands same in
    let H = frame_of T in
    let rest : c / m % 2 ^ y.place.period ≡ (r * H + d / m) % 2 ^ y.place.period = L.rest ∙ sym (rest_of_frames T.frame y.place.period r (d / m) L.fits) in
    let far : c / m + 2 ^ y.place.period ≤ r * H + d / m = rests_apart (c / m) (r * H + d / m) (2 ^ y.place.period) (later L.bus) rest in
    omega (arith, A.slot_is, at, first, far, L.spaced)

-- the frame after the first cell, and the second cell's
spaced_by : (g : ℕ) (f h : Current) (x y : Placed) (u t : ℕ) → IsSpacedTable f.table → Cells g f x u → Cells g h y t → x.source ≡ y.source → h.number ≡ f.number → IsLater g (goes_on f (Cell g)) h → u + y.limits.spacing ≤ t
spaced_by g f h x y u t S A B same number (inl L) =
    let c = cells_since g f in
    let d = cells_since g h in
    let m = buses_of f.table in
    let none : 0 * frame_of f.table ≡ 0 = omega arith in
    let more : cells_since g (goes_on f (Cell g)) ≤ d = L.cells in
    let less : c < d = omega (arith, more, one_more g f) in
    let still : h.first ≡ f.first = L.first in
    period_apart g f h x y u t S A B same L.table 0 (omega (arith, still, none)) (λ bus. omega (arith, none, later_slot c d m less bus))
spaced_by g f h x y u t S A B same number (inr M) =
    let again : IsAgain (goes_on f (Cell g)) h = M.again number in
    let first : h.first ≡ f.first + again.frames * frame_of f.table = again.first in
    let past : f.first + frame_of f.table ≤ h.first = M.past in
    let c = cells_since g f in
    let inside : c / buses_of f.table < frame_of f.table = in_frame c (buses_of f.table) (frame_of f.table) A.due in
    period_apart g f h x y u t S A B same again.table again.frames first (λ bus. omega (arith, inside, first, past))

-- at a later place
later_behind : (o : Opening) (g : ℕ) (p : SlotTable) (E : List Event) (j k : ℕ) → slice_get (groups_of o.proposal.plan) g ≡ Some p → j < k → k ≤ length E → slice_get E j ≡ Some (Cell g)
    → IsLater g (goes_on (frame_at_place o g p E j) (Cell g)) (frame_at_place o g p E k)
later_behind o g p E j k there after few asked =
    subst (λ (f : Current). IsLater g f (frame_at_place o g p E k)) (behind_cell o g p E j asked) (later_at o g p E (suc j) k there (omega (arith, after)) few)

table_same : (g : ℕ) (f h : Current) → IsLater g f h → h.number ≡ f.number → h.table ≡ f.table
table_same g f h (inl S) number = S.table
table_same g f h (inr M) number = (M.again number).table

pub plan_spaced : (o : Opening) (g : ℕ) (p : SlotTable) (E : List Event) (j k : ℕ) (earlier now : Placed) (u t : ℕ) → slice_get (groups_of o.proposal.plan) g ≡ Some p → j < k → IsOutputCell o g p E j earlier u
    → IsOutputCell o g p E k now t → earlier.source ≡ now.source → number_at o g p E j ≡ number_at o g p E k → IsSpacedTable (current o g p (take k E)).table → u + now.limits.spacing ≤ t
plan_spaced o g p E j k earlier now u t there after A B same number S =
    let f = frame_at_place o g p E j in
    let h = frame_at_place o g p E k in
    let inside : k < length E = slice_get_within E k (Cell g) B.asked in
    let L = later_behind o g p E j k there after (omega (arith, inside)) A.asked in
    let table : h.table ≡ f.table = table_same g (goes_on f (Cell g)) h L (sym number) in
    spaced_by g f h earlier now u t (subst IsSpacedTable table S) (cells_at o g p E j earlier u A) (cells_at o g p E k now t B) same (sym number) L

-- ---- the first cell after a change

pub number_later : (g : ℕ) (f h : Current) → IsLater g f h → f.number ≤ h.number
number_later g f h (inl S) = omega (arith, S.number)
number_later g f h (inr M) = M.number

-- a cell by an earlier plan has an earlier slot
slot_earlier : (g : ℕ) (f h : Current) (x y : Placed) (u s : ℕ) → Cells g f x u → Cells g h y s → (f.number ≡ h.number → ⊥) → IsLater g (goes_on f (Cell g)) h → u ≤ s
slot_earlier g f h x y u s A B differ (inl S) = absurd (differ (sym S.number))
slot_earlier g f h x y u s A B differ (inr M) =
    let past : f.first + frame_of f.table ≤ h.first = M.past in
    let c = cells_since g f in
    let inside : c / buses_of f.table < frame_of f.table = in_frame c (buses_of f.table) (frame_of f.table) A.due in
    omega (arith, A.slot_is, B.slot_is, past, inside)

pub first_only : (C : ℕ) (o : Opening) (g : ℕ) (p : SlotTable) (E : List Event) (i k : ℕ) (x now : Placed) (s t : ℕ) → slice_get (groups_of o.proposal.plan) g ≡ Some p → IsSpacedTable (current o g p (take k E)).table
    → i < k → IsOutputCell o g p E i x s → IsOutputCell o g p E k now t → x.source ≡ now.source → IsTooClose C o g p E k now t → number_at o g p E i ≡ number_at o g p E k → ⊥
first_only C o g p E i k x now s t there S before I K same close number =
    let q = now.limits.spacing in
    let inside : k < length E = slice_get_within E k (Cell g) K.asked in
    let W = sent_within C o g p E k now t inside close in
    let b = W.place in
    let B = W.sends.cell in
    let near : t < W.at + q = W.close in
    let early : b < k = W.before in
    let apart : s + q ≤ t = plan_spaced o g p E i k x now s t there before I K same number S in
    elim (cases_eq (number_at o g p E b) (number_at o g p E k)) [
      | inl own ↦
          let far = plan_spaced o g p E b k W.earlier now W.at t there W.before B K W.same own S in
          omega (arith, far, near)
      | inr other ↦ elim (cases_lt b i) [
        | inl less ↦
            let L = later_behind o g p E b i there less (omega (arith, before, inside)) B.asked in
            let older = slot_earlier g (frame_at_place o g p E b) (frame_at_place o g p E i) W.earlier x W.at s (cells_at o g p E b W.earlier W.at B) (cells_at o g p E i x s I) (λ is. other (is ∙ number)) L in
            omega (arith, older, near, apart)
        | inr more ↦
            let low = number_later g (frame_at_place o g p E i) (frame_at_place o g p E b) (later_at o g p E i b there more (omega (arith, early, inside))) in
            let high = number_later g (frame_at_place o g p E b) (frame_at_place o g p E k) (later_at o g p E b k there (omega (arith, early)) (omega (arith, inside))) in
            other (omega (arith, low, high, number))
      ]
    ]

-- before the first change no cell is empty for it
pub not_at_first : (C : ℕ) (o : Opening) (g : ℕ) (p : SlotTable) (E : List Event) (k : ℕ) (now : Placed) (t : ℕ) → slice_get (groups_of o.proposal.plan) g ≡ Some p → IsSpacedTable (current o g p (take k E)).table
    → IsOutputCell o g p E k now t → number_at o g p E k ≡ o.proposal.plan.number → IsTooClose C o g p E k now t → ⊥
not_at_first C o g p E k now t there S K number close =
    let inside : k < length E = slice_get_within E k (Cell g) K.asked in
    let W = sent_within C o g p E k now t inside close in
    let early : W.place < k = W.before in
    let least = (is_numbered o g p there (take W.place E)).least in
    let low = number_later g (frame_at_place o g p E W.place) (frame_at_place o g p E k) (later_at o g p E W.place k there (omega (arith, early)) (omega (arith, inside))) in
    first_only C o g p E W.place k W.earlier now W.at t there S W.before W.sends.cell K W.same close (omega (arith, least, low, number))
