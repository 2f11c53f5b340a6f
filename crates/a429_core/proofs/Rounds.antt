-- The cells of an output that stays, in any frames and under any plans.
use Rattle.std.proofs.Common.{◌≡◌, ℕ, zero, suc, ◌+◌, ◌-◌, ◌*◌, ◌/◌, ◌%◌, ◌^◌, ◌<◌, ◌≤◌, List, [], ◌∷◌, ◌++◌, length, take, ◌∙◌, sym, ap, subst, refl, inl, inr, arith}
use Rattle.std.specs.Prelude.{Some, slice_get, option_and_then}
use Rattle.std.proofs.Math.Nat.{mod-add-div', mod-lt, mul-add-mod_self_right}
use Rattle.std.proofs.lemmas.Nat.{pow-add, pow_pos, mod-mul-add, le-div}
use Rattle.std.proofs.lemmas.Bool.{cases_Bool, cases_lt}
use Rattle.std.proofs.lemmas.Option.{same_Some, slice_get_within}
use Rattle.a429_word.proofs.Lists.{in_frame, positive}
use Rattle.a429_slots.specs.declared.group_plan.SlotPlace.{SlotPlace}
use Rattle.a429_slots.specs.Tables.{Placed, SlotTable, groups_of, outputs_of, frame_of, buses_of, cells_of, cell_at, output_in}
use Rattle.a429_slots.specs.Events.{Event, Cell}
use Rattle.a429_slots.specs.Kept.{StandsJustAt}
use Rattle.a429_slots.specs.History.{Opening, Current, current, cells_since, cell_due}
use Rattle.a429_slots.specs.TakenFrames.{is_taken_after}
use Rattle.a429_slots.specs.Spacing.{HasSpacedTable, IsOutputCell, IsSpacedTable, number_at}
use Rattle.a429_slots.proofs.Answered.{due_is, event_at}
use Rattle.a429_slots.proofs.Histories.{take_following, same_frame, new_frame, goes_on}
use Rattle.a429_slots.proofs.Following.{IsLater, later_at, behind_cell, one_more, frame_at_place}
use Rattle.a429_slots.proofs.SamePlan.{is_at, rests_apart, number_later}
use Rattle.a429_core.specs.Histories.{history_of}
use Rattle.a429_core.specs.Latency.{HasCell, HasNextCell, HasOutput, KeepsOutput, Passes, next_slot_on, period_of}
use Rattle.a429_core.proofs.Passing.{Passed, next_after, next_is, passed}

-- ---- numbers

-- among n numbers in a row one leaves a given rest
record Reaches (a rest n : ℕ) : Type 0 where
  pub on : ℕ
  pub below : on < n
  pub is : (a + on) % n ≡ rest

reaches : (a rest n : ℕ) → rest < n → Reaches a rest n
reaches a rest n low =
    let parts : a % n + a / n * n ≡ a = mod-add-div' a n in
    let inside : a % n < n = mod-lt a (omega (arith, low)) in
    elim (cases_lt rest (a % n)) [
      | inl past ↦
          let more : (a / n + 1) * n ≡ a / n * n + n = omega arith in
          let sum : a + (n - a % n + rest) ≡ (a / n + 1) * n + rest = omega (arith, parts, more, inside) in
          record { on = n - a % n + rest; below = omega (arith, past, inside); is = ap (λ (k : ℕ). k % n) sum ∙ mod-mul-add (a / n + 1) n rest low }
      | inr before ↦
          let sum : a + (rest - a % n) ≡ a / n * n + rest = omega (arith, parts, before) in
          record { on = rest - a % n; below = omega (arith, low); is = ap (λ (k : ℕ). k % n) sum ∙ mod-mul-add (a / n) n rest low }
    ]

rest_moves : (times n a b rest : ℕ) → times * n + a ≡ b → b % n ≡ rest → a % n ≡ rest
rest_moves times n a b rest sum is = sym (mul-add-mod_self_right times n a) ∙ (ap (λ (z : ℕ). z % n) sum ∙ is)

-- ---- frames of whole periods

-- the frame's first slot is whole periods on
record IsAligned (first n last : ℕ) : Type 0 where
  pub times : ℕ
  pub is : last ≡ first + times * n

whole : (h e : ℕ) → e ≤ h → (m : ℕ) × (2 ^ h ≡ m * 2 ^ e)
whole h e few =
    let digits : (h - e) + e ≡ h = omega (arith, few) in
    (2 ^ (h - e), ap (λ z. 2 ^ z) (sym digits) ∙ pow-add 2 (h - e) e)

abbrev pub AreSpacedTables : Opening → ℕ → SlotTable → List Event → Type 0
AreSpacedTables o g p E = (k : ℕ) → HasSpacedTable o g p E k

abbrev first_at : Opening → ℕ → SlotTable → List Event → ℕ → ℕ
first_at o g p E k = (frame_at_place o g p E k).first

aligned_next : (o : Opening) (g : ℕ) (p : SlotTable) (E : List Event) (k first e : ℕ) → k < length E → e ≤ (frame_at_place o g p E k).table.frame
    → IsAligned first (2 ^ e) (first_at o g p E k) → IsAligned first (2 ^ e) (first_at o g p E (suc k))
aligned_next o g p E k first e below fits A =
    let (event, there) = event_at E k below in
    let f = frame_at_place o g p E k in
    let on : frame_at_place o g p E (suc k) ≡ current o g p (take k E ++ event ∷ []) = ap (current o g p) (take_following E k event there) in
    let old : f.first ≡ first + A.times * 2 ^ e = A.is in
    elim (cases_Bool (is_taken_after o g p (take k E) event)) [
      | inl taken ↦
          let now : first_at o g p E (suc k) ≡ f.first + frame_of f.table = ap (λ (c : Current). c.first) (on ∙ new_frame o g p (take k E) event taken) in
          let (m, slots) = whole f.table.frame e fits in
          let sum : (A.times + m) * 2 ^ e ≡ A.times * 2 ^ e + m * 2 ^ e = omega arith in
          record { times = A.times + m; is = omega (arith, now, old, slots, sum) }
      | inr left ↦
          let now : first_at o g p E (suc k) ≡ f.first = ap (λ (c : Current). c.first) (on ∙ same_frame o g p (take k E) event left) in
          record { times = A.times; is = now ∙ old }
    ]

aligned_by : (o : Opening) (g : ℕ) (p : SlotTable) (E : List Event) (i d e : ℕ) → d + i ≤ length E → ((j : ℕ) → i ≤ j → j < d + i → e ≤ (frame_at_place o g p E j).table.frame)
    → IsAligned (first_at o g p E i) (2 ^ e) (first_at o g p E (d + i))
aligned_by o g p E i zero e few fits =
    let same : zero + i ≡ i = omega arith in
    let none : 0 * 2 ^ e ≡ 0 = omega arith in
    subst (λ (k : ℕ). IsAligned (first_at o g p E i) (2 ^ e) (first_at o g p E k)) (sym same) (record { times = 0; is = omega (arith, none) })
aligned_by o g p E i (suc d) e few fits =
    let on : suc d + i ≡ suc (d + i) = omega arith in
    let before = aligned_by o g p E i d e (omega (arith, few)) (λ j from below. fits j from (omega (arith, below))) in
    subst (λ (k : ℕ). IsAligned (first_at o g p E i) (2 ^ e) (first_at o g p E k)) (sym on)
    (aligned_next o g p E (d + i) (first_at o g p E i) e (omega (arith, few)) (fits (d + i) (omega arith) (omega arith)) before)

-- ---- an output of a table

-- what is true of an output of a spaced table
pub record IsSet (t : SlotTable) (at : SlotPlace) (number : ℕ) : Type 0 where
  pub on_a_bus : at.bus < buses_of t
  pub fits : at.period ≤ t.frame
  pub periodic : StandsJustAt t number at.bus at.offset (period_of at)

pub set_of : (t : SlotTable) (source : ℕ) (at : SlotPlace) → IsSpacedTable t → (O : HasOutput t source at) → IsSet t at O.number
set_of t source at S O = subst (λ (q : SlotPlace). IsSet t q O.number) O.at_place (record {
  on_a_bus = S.on_a_bus O.number O.output O.there;
  fits = S.fits O.number O.output O.there;
  periodic = S.periodic O.number O.output O.there;
})

-- it has exactly the cells that its place says
stands_just : (t : SlotTable) (source : ℕ) (at : SlotPlace) (slot : ℕ) → IsSpacedTable t → (O : HasOutput t source at) → slot % period_of at ≡ at.offset → output_in t at.bus slot ≡ Some O.output
stands_just t source at slot S O rest =
    let there : cell_at t at.bus slot ≡ Some O.number = ((set_of t source at S O).periodic.cells at.bus slot).1 (refl, rest) in
    ap (option_and_then (λ n. slice_get (outputs_of t) n)) there ∙ O.there

-- a cell of the source is a cell of this output
pub record IsCellOf (t : SlotTable) (bus slot : ℕ) (at : SlotPlace) (x : Placed) : Type 0 where
  pub number : ℕ
  pub row : slice_get (outputs_of t) number ≡ Some x
  pub place : x.place ≡ at
  pub on : bus ≡ at.bus
  pub rest : slot % period_of at ≡ at.offset
  pub spaced : x.limits.spacing ≤ period_of at

pub cell_of : (t : SlotTable) (bus slot source : ℕ) (at : SlotPlace) (x : Placed) → IsSpacedTable t → HasOutput t source at → output_in t bus slot ≡ Some x → x.source ≡ source → IsCellOf t bus slot at x
cell_of t bus slot source at x S O stands same =
    let A = is_at t bus slot x stands in
    let own : A.number ≡ O.number = S.own A.number O.number x O.output A.row O.there (same ∙ sym O.of_source) in
    let row : slice_get (outputs_of t) O.number ≡ Some x = subst (λ (n : ℕ). slice_get (outputs_of t) n ≡ Some x) own A.row in
    let place : x.place ≡ at = ap (λ (y : Placed). y.place) (same_Some x O.output (sym row ∙ O.there)) ∙ O.at_place in
    let both = ((set_of t source at S O).periodic.cells bus slot).0 (A.cell ∙ ap (λ (n : ℕ). Some n) own) in
    let spaced : x.limits.spacing ≤ period_of x.place = S.spaced A.number x A.row in
    record { number = A.number; row = A.row; place = place; on = both.0; rest = both.1; spaced = subst (λ (q : SlotPlace). x.limits.spacing ≤ period_of q) place spaced }

-- the outputs of one source have one place
pub same_place : (t : SlotTable) (source : ℕ) (a b : SlotPlace) → IsSpacedTable t → HasOutput t source a → HasOutput t source b → a ≡ b
same_place t source a b S A B =
    let own : A.number ≡ B.number = S.own A.number B.number A.output B.output A.there B.there (A.of_source ∙ sym B.of_source) in
    let row : slice_get (outputs_of t) B.number ≡ Some A.output = subst (λ (n : ℕ). slice_get (outputs_of t) n ≡ Some A.output) own A.there in
    sym A.at_place ∙ (ap (λ (y : Placed). y.place) (same_Some A.output B.output (sym row ∙ B.there)) ∙ B.at_place)

-- ---- outputs that stay

pub fewer : (o : Opening) (g : ℕ) (p : SlotTable) (E : List Event) (i j l k source : ℕ) (at : SlotPlace) → i ≤ j → l ≤ k → KeepsOutput (history_of o g p E) i k source at → KeepsOutput (history_of o g p E) j l source at
fewer o g p E i j l k source at low high keeps a from below = keeps a (omega (arith, low, from)) (omega (arith, high, below))

-- cells are answered in the order of their slots
pub in_order : (o : Opening) (g : ℕ) (p : SlotTable) (E : List Event) (a b : ℕ) (y x : Placed) (v s : ℕ) → slice_get (groups_of o.proposal.plan) g ≡ Some p → a < b
    → IsOutputCell o g p E a y v → IsOutputCell o g p E b x s → v ≤ s
in_order o g p E a b y x v s there after A B =
    let f = frame_at_place o g p E a in
    let few : b < length E = slice_get_within E b (Cell g) B.asked in
    let later : IsLater g (goes_on f (Cell g)) (frame_at_place o g p E b) = subst (λ (c : Current). IsLater g c (frame_at_place o g p E b)) (behind_cell o g p E a A.asked) (later_at o g p E (suc a) b there (omega (arith, after)) (omega (arith, few))) in
    let D = due_is g f A.cell A.due in
    let T = due_is g (frame_at_place o g p E b) B.cell B.due in
    by_frame f (frame_at_place o g p E b) D.due D.slot A.counted T.slot B.counted later
  where
    by_frame : (f h : Current) → {m n : ℕ} → cells_since g f < cells_of f.table → m ≡ cells_since g f / buses_of f.table → v ≡ f.first + m → n ≡ cells_since g h / buses_of h.table → s ≡ h.first + n → IsLater g (goes_on f (Cell g)) h → v ≤ s
    by_frame f h due row at row_b at_b (inl S) =
        let c = cells_since g f in
        let d = cells_since g h in
        let m = buses_of f.table in
        let same : buses_of h.table ≡ m = ap (λ (t : SlotTable). buses_of t) S.table in
        let more : cells_since g (goes_on f (Cell g)) ≤ d = S.cells in
        let some : 0 < m = positive c m (frame_of f.table) due in
        let parts : c % m + c / m * m ≡ c = mod-add-div' c m in
        let below : c / m ≤ d / m = le-div (c / m) d m some (omega (arith, parts, more, one_more g f)) in
        let last : d / buses_of h.table ≡ d / m = ap (λ (k : ℕ). d / k) same in
        let first : h.first ≡ f.first = S.first in
        omega (arith, row, at, row_b, at_b, below, last, first)
    by_frame f h due row at row_b at_b (inr M) =
        let inside : cells_since g f / buses_of f.table < frame_of f.table = in_frame (cells_since g f) (buses_of f.table) (frame_of f.table) due in
        let past : f.first + frame_of f.table ≤ h.first = M.past in
        omega (arith, inside, past, row, at, at_b)

-- a cell of the source comes, in a slot that is not before `least`
pub record HasCellFrom (o : Opening) (g : ℕ) (p : SlotTable) (E : List Event) (i k source least end : ℕ) : Type 0 where
  pub cell : HasCell (history_of o g p E) i k source end
  pub low : least ≤ cell.slot

-- a cell that comes so soon comes sooner than later
abbrev pub sooner : (o : Opening) (g : ℕ) (p : SlotTable) (E : List Event) (i j l k source end last : ℕ) → i ≤ j → l ≤ k → end ≤ last → HasCell (history_of o g p E) j l source end → HasCell (history_of o g p E) i k source last
sooner o g p E i j l k source end last low late more R =
    let from : j ≤ R.place = R.from in
    let before : R.place < l = R.before in
    let high : R.slot < end = R.high in
    record { place = R.place; from = omega (arith, low, from); before = omega (arith, before, late); output = R.output; same = R.same; slot = R.slot; cell = R.cell; high = omega (arith, high, more) }

module _ (o : Opening) (g : ℕ) (p : SlotTable) (E : List Event) (spaced : AreSpacedTables o g p E) where
  -- the slots that pass on the bus of an output that stays
  pub passes_on : (i k source : ℕ) (at : SlotPlace) → i ≤ k → k ≤ length E → KeepsOutput (history_of o g p E) i k source at → Passed o g p E i k at.bus
  passes_on i k source at after few keeps = passed o g p E i k at.bus after few (λ j from below. (set_of (frame_at_place o g p E j).table source at (spaced j) (keeps j from below)).on_a_bus)

  -- they do not go back
  pub later_on : (i k source : ℕ) (at : SlotPlace) → i ≤ k → k ≤ length E → KeepsOutput (history_of o g p E) i k source at → next_slot_on (history_of o g p E) i at.bus ≤ next_slot_on (history_of o g p E) k at.bus
  later_on i k source at after few keeps = (passes_on i k source at after few keeps).later

  aligned : (i k source : ℕ) (at : SlotPlace) → i ≤ k → k ≤ length E → KeepsOutput (history_of o g p E) i k source at → IsAligned (first_at o g p E i) (period_of at) (first_at o g p E k)
  aligned i k source at after few keeps =
      let rest : (k - i) + i ≡ k = omega (arith, after) in
      let A = aligned_by o g p E i (k - i) at.period (omega (arith, few, rest)) (λ j from below. (set_of (frame_at_place o g p E j).table source at (spaced j) (keeps j from (omega (arith, below, rest)))).fits) in
      subst (λ (n : ℕ). IsAligned (first_at o g p E i) (period_of at) (first_at o g p E n)) rest A

  -- a cell of an output that stays is next on its bus
  pub record IsCellHere (k source : ℕ) (at : SlotPlace) (x : Placed) (s : ℕ) : Type 0 where
    pub cell : IsCellOf (frame_at_place o g p E k).table at.bus (s - first_at o g p E k) at x
    pub begun : first_at o g p E k ≤ s
    pub due : cell_due g (frame_at_place o g p E k) ≡ Some (at.bus, s - first_at o g p E k)
    pub next : next_slot_on (history_of o g p E) k at.bus ≡ s
    pub after : next_slot_on (history_of o g p E) (suc k) at.bus ≡ s + 1

  pub cell_here : (k source : ℕ) (at : SlotPlace) (x : Placed) (s : ℕ) → HasOutput (frame_at_place o g p E k).table source at → IsOutputCell o g p E k x s → x.source ≡ source → IsCellHere k source at x s
  cell_here k source at x s here B same =
      let t = (frame_at_place o g p E k).table in
      let counted : s ≡ first_at o g p E k + B.cell.1 = B.counted in
      let slot : B.cell.1 ≡ s - first_at o g p E k = omega (arith, counted) in
      let X = cell_of t B.cell.0 B.cell.1 source at x (spaced k) here B.stands same in
      let due : cell_due g (frame_at_place o g p E k) ≡ Some (at.bus, B.cell.1) = B.due ∙ ap (λ (z : ℕ). Some (z, B.cell.1)) X.on in
      let inside : at.bus < buses_of t = (set_of t source at (spaced k) here).on_a_bus in
      record {
        cell = subst (λ (z : ℕ). IsCellOf t at.bus z at x) slot (subst (λ (b : ℕ). IsCellOf t b B.cell.1 at x) X.on X);
        begun = omega (arith, counted);
        due = due ∙ ap (λ (z : ℕ). Some (at.bus, z)) slot;
        next = omega (arith, next_is o g p E k at.bus B.cell.1 due, counted);
        after = omega (arith, next_after o g p E k at.bus B.cell.1 B.asked inside due, counted);
      }

  -- ---- it comes round

  pub comes_round : (i k source : ℕ) (at : SlotPlace) → i ≤ k → k ≤ length E → KeepsOutput (history_of o g p E) i k source at → Passes (history_of o g p E) i k at (period_of at)
      → HasCellFrom o g p E i k source (next_slot_on (history_of o g p E) i at.bus) (next_slot_on (history_of o g p E) i at.bus + period_of at)
  comes_round i k source at after few keeps passes =
      let n = period_of at in
      let begin = next_slot_on (history_of o g p E) i at.bus in
      let some : 0 < n = pow_pos at.period in
      let P = passes_on i k source at after few keeps in
      let low : first_at o g p E i ≤ begin = omega arith in
      let some_place = P.all begin (omega arith) (omega (arith, passes, some)) in
      let inside : at.offset < n = (set_of (frame_at_place o g p E some_place.place).table source at (spaced some_place.place) (keeps some_place.place some_place.from some_place.before)).periodic.within in
      let R = reaches (begin - first_at o g p E i) at.offset n inside in
      let near : R.on < n = R.below in
      let A = P.all (begin + R.on) (omega arith) (omega (arith, passes, near)) in
      let from : i ≤ A.place = A.from in
      let before : A.place < k = A.before in
      let here = keeps A.place A.from A.before in
      let L = aligned i A.place source at from (omega (arith, before, few)) (fewer o g p E i i A.place k source at (omega arith) (omega (arith, before)) keeps) in
      let first : first_at o g p E A.place ≡ first_at o g p E i + L.times * n = L.is in
      let counted : begin + R.on ≡ first_at o g p E A.place + A.in_frame = A.counted in
      let sum : L.times * n + A.in_frame ≡ begin - first_at o g p E i + R.on = omega (arith, first, counted, low) in
      let rest : A.in_frame % n ≡ at.offset = rest_moves L.times n A.in_frame (begin - first_at o g p E i + R.on) at.offset sum R.is in
      record {
        cell = record {
          place = A.place;
          from = A.from;
          before = A.before;
          output = here.output;
          same = here.of_source;
          slot = begin + R.on;
          cell = record {
            asked = A.asked;
            cell = (at.bus, A.in_frame);
            due = A.due;
            stands = stands_just (frame_at_place o g p E A.place).table source at A.in_frame (spaced A.place) here rest;
            counted = A.counted;
          };
          high = omega (arith, near);
        };
        low = omega arith;
      }

  -- its cells are a period apart
  pub apart_here : (h k a b source : ℕ) (at : SlotPlace) (x y : Placed) (v s : ℕ) → k ≤ length E → KeepsOutput (history_of o g p E) h k source at → h ≤ a → a < b → b < k
      → IsOutputCell o g p E a x v → x.source ≡ source → IsOutputCell o g p E b y s → y.source ≡ source → v + period_of at ≤ s
  apart_here h k a b source at x y v s few keeps from after before A same B own =
      let n = period_of at in
      let X = cell_here a source at x v (keeps a from (omega (arith, after, before))) A same in
      let Y = cell_here b source at y s (keeps b (omega (arith, from, after)) before) B own in
      let L = aligned h a source at from (omega (arith, after, before, few)) (fewer o g p E h h a k source at (omega arith) (omega (arith, after, before)) keeps) in
      let M = aligned h b source at (omega (arith, from, after)) (omega (arith, before, few)) (fewer o g p E h h b k source at (omega arith) (omega (arith, before)) keeps) in
      let later = later_on (suc a) b source at (omega (arith, after)) (omega (arith, before, few)) (fewer o g p E h (suc a) b k source at (omega (arith, from)) (omega (arith, before)) keeps) in
      let begin = first_at o g p E h in
      let first_a : first_at o g p E a ≡ begin + L.times * n = L.is in
      let first_b : first_at o g p E b ≡ begin + M.times * n = M.is in
      let past : v < s = omega (arith, later, X.after, Y.next) in
      let u = v - first_at o g p E a in
      let t = s - first_at o g p E b in
      let at_u : v ≡ first_at o g p E a + u = omega (arith, X.begun) in
      let at_t : s ≡ first_at o g p E b + t = omega (arith, Y.begun) in
      let less : L.times * n + u < M.times * n + t = omega (arith, first_a, first_b, at_u, at_t, past) in
      let rest : (L.times * n + u) % n ≡ (M.times * n + t) % n = mul-add-mod_self_right L.times n u ∙ (X.cell.rest ∙ (sym Y.cell.rest ∙ sym (mul-add-mod_self_right M.times n t))) in
      omega (arith, rests_apart (L.times * n + u) (M.times * n + t) n less rest, first_a, first_b, at_u, at_t)

  -- of those that come in one period the first has none before
  pub none_before : (i k source : ℕ) (at : SlotPlace) → k ≤ length E → KeepsOutput (history_of o g p E) i k source at → (R : HasCell (history_of o g p E) i k source (next_slot_on (history_of o g p E) i at.bus + period_of at))
      → (a : ℕ) (x : Placed) (v : ℕ) → i ≤ a → a < R.place → IsOutputCell o g p E a x v → x.source ≡ source → ⊥
  none_before i k source at few keeps R a x v from early B same =
      let end : R.place < k = R.before in
      let apart = apart_here i k a R.place source at x R.output v R.slot few keeps from early end B same R.cell R.same in
      let high : R.slot < next_slot_on (history_of o g p E) i at.bus + period_of at = R.high in
      let later = later_on i a source at from (omega (arith, early, end, few)) (fewer o g p E i i a k source at (omega arith) (omega (arith, early, end)) keeps) in
      omega (arith, apart, high, later, (cell_here a source at x v (keeps a from (omega (arith, early, end))) B same).next)

  -- after a cell of it the next one is a period on
  pub recurs : (j k source : ℕ) (at : SlotPlace) (x : Placed) (s : ℕ) → j < k → k ≤ length E → KeepsOutput (history_of o g p E) j k source at → IsOutputCell o g p E j x s → x.source ≡ source
      → s + period_of at < next_slot_on (history_of o g p E) k at.bus → HasNextCell (history_of o g p E) j k source (s + period_of at)
  recurs j k source at x s after few keeps J same passes =
      let next = (cell_here j source at x s (keeps j (omega arith) after) J same).after in
      let rest = fewer o g p E j (suc j) k k source at (omega arith) (omega arith) keeps in
      let R = (comes_round (suc j) k source at (omega (arith, after)) few rest (omega (arith, next, passes))).cell in
      let from : suc j ≤ R.place = R.from in
      let high : R.slot < next_slot_on (history_of o g p E) (suc j) at.bus + period_of at = R.high in
      let apart = apart_here j k j R.place source at x R.output s R.slot few keeps (omega arith) (omega (arith, from)) R.before J same R.cell R.same in
      let slot : R.slot ≡ s + period_of at = omega (arith, high, next, apart) in
      record {
        place = R.place;
        after = omega (arith, from);
        before = R.before;
        output = R.output;
        same = R.same;
        cell = subst (λ (z : ℕ). IsOutputCell o g p E R.place R.output z) slot R.cell;
        none = λ a y v later early B own. none_before (suc j) k source at few rest R a y v (omega (arith, later)) early B own;
      }

-- ---- one plan

-- a frame of the same number has the same table
table_stays : (g : ℕ) (f h : Current) → IsLater g f h → h.number ≡ f.number → h.table ≡ f.table
table_stays g f h (inl S) same = S.table
table_stays g f h (inr M) same = (M.again same).table

pub one_plan_keeps : (o : Opening) (g : ℕ) (p : SlotTable) (E : List Event) (i k source : ℕ) (at : SlotPlace) → slice_get (groups_of o.proposal.plan) g ≡ Some p → i ≤ k → k ≤ length E → number_at o g p E i ≡ number_at o g p E k
    → HasOutput (frame_at_place o g p E i).table source at → KeepsOutput (history_of o g p E) i k source at
one_plan_keeps o g p E i k source at there after few same here j from below =
    let L = later_at o g p E i j there from (omega (arith, below, few)) in
    let M = later_at o g p E j k there (omega (arith, below)) few in
    let low = number_later g (frame_at_place o g p E i) (frame_at_place o g p E j) L in
    let high = number_later g (frame_at_place o g p E j) (frame_at_place o g p E k) M in
    let number : number_at o g p E j ≡ number_at o g p E i = omega (arith, low, high, same) in
    subst (λ (t : SlotTable). HasOutput t source at) (sym (table_stays g (frame_at_place o g p E i) (frame_at_place o g p E j) L number)) here

-- a cell of the source of an output of the table in force is in a slot before the next one on the output's bus
pub before_next : (o : Opening) (g : ℕ) (p : SlotTable) (E : List Event) → AreSpacedTables o g p E → (b i source : ℕ) (at : SlotPlace) (x : Placed) (s : ℕ) → slice_get (groups_of o.proposal.plan) g ≡ Some p → i ≤ length E → b < i
    → HasOutput (frame_at_place o g p E i).table source at → IsOutputCell o g p E b x s → x.source ≡ source → s < next_slot_on (history_of o g p E) i at.bus
before_next o g p E spaced b i source at x s there few early O B same =
    let f = frame_at_place o g p E b in
    let h = frame_at_place o g p E i in
    let later : IsLater g (goes_on f (Cell g)) h = subst (λ (c : Current). IsLater g c h) (behind_cell o g p E b B.asked) (later_at o g p E (suc b) i there (omega (arith, early)) few) in
    let D = due_is g f B.cell B.due in
    let counted : s ≡ first_at o g p E b + B.cell.1 = B.counted in
    let begin : first_at o g p E i ≤ next_slot_on (history_of o g p E) i at.bus = omega arith in
    elim later [
      | inl S ↦
          let here : HasOutput f.table source at = subst (λ (t : SlotTable). HasOutput t source at) S.table O in
          let keeps = one_plan_keeps o g p E b i source at there (omega (arith, early)) few (sym S.number) here in
          let X = cell_here o g p E spaced b source at x s here B same in
          let on = later_on o g p E spaced (suc b) i source at (omega (arith, early)) few (fewer o g p E b (suc b) i i source at (omega arith) (omega arith) keeps) in
          omega (arith, X.after, on)
      | inr M ↦
          let due : cells_since g f < cells_of f.table = D.due in
          let row : B.cell.1 ≡ cells_since g f / buses_of f.table = D.slot in
          let inside : cells_since g f / buses_of f.table < frame_of f.table = in_frame (cells_since g f) (buses_of f.table) (frame_of f.table) due in
          let past : f.first + frame_of f.table ≤ h.first = M.past in
          omega (arith, counted, row, inside, past, begin)
    ]
