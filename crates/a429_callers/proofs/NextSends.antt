-- When a source is sent next after its group went on to another plan.
use Rattle.std.proofs.Common.{◌≡◌, ◌∙◌, ℕ, suc, ◌+◌, ◌-◌, ◌*◌, ◌/◌, ◌%◌, ◌^◌, ◌<◌, ◌≤◌, true, false, List, length, take, sym, ap, subst, refl, inl, inr, arith}
use Rattle.std.specs.Prelude.{Option, Some, option_and_then, slice_get}
use Rattle.std.specs.Option.{option_map_or}
use Rattle.std.proofs.Math.Nat.{mod-add-div', mod-eq_of_lt, mul-le-mul_right, pow-le-pow_right}
use Rattle.std.proofs.lemmas.Bool.{cases_eq, cases_lt, le-ltb, lt-ltb}
use Rattle.std.proofs.lemmas.Nat.{pow-add}
use Rattle.std.proofs.lemmas.Option.{same_Some}
use Rattle.a429_word.proofs.Lists.{in_frame}
use Rattle.a429_slots.specs.declared.group_plan.SlotPlace.{SlotPlace}
use Rattle.a429_slots.specs.Tables.{Placed, SlotTable, buses_of, cell_at, frame_of, groups_of, output_in, outputs_of}
use Rattle.a429_slots.specs.Events.{Event}
use Rattle.a429_slots.specs.History.{Current, Opening, accepted_by, cells_since, current, last_of}
use Rattle.a429_slots.specs.Spacing.{IsOutputCell, IsSentWithin}
use Rattle.a429_slots.specs.TakenFrames.{is_taken_after, is_taken_at}
use Rattle.a429_slots.proofs.Answered.{due_is, event_at}
use Rattle.a429_slots.proofs.Following.{frame_at_place, later_at}
use Rattle.a429_slots.proofs.Histories.{new_frame, take_following}
use Rattle.a429_core.specs.Histories.{history_of}
use Rattle.a429_core.specs.Latency.{Changes, HasCell, HasOutput, IsPlannedHistory, KeepsOutput, move_of, next_slot_on, period_of}
use Rattle.a429_core.specs.Spaced.{AreSpaced, CellIsAnswered}
use Rattle.a429_core.proofs.AcrossChanges.{begins, turns}
use Rattle.a429_core.proofs.GoingOut.{far_after, last_sent, sends_latest}
use Rattle.a429_core.proofs.Latest.{latest_after}
use Rattle.a429_core.proofs.Rounds.{AreSpacedTables, before_next, cell_here, fewer, later_on, none_before, passes_on, recurs, set_of}
use Rattle.a429_core.proofs.SpacedWords.{apart, word_of}
use Rattle.a429_documents.specs.Diff.{cell_gap, gap_of}
use Rattle.a429_callers.specs.NextSends.{HasNextSend, IsLastSend, HasThisOutput, NoHoldEmpties}

-- ---- numbers

-- of the numbers with a given rest the last one before a multiple of n
last_before : (m n rest a : ℕ) → rest < n → a % n ≡ rest → a < m * n → m * n ≤ a + n → a + n ≡ m * n + rest
last_before m n rest a low is before near =
    let parts : a % n + a / n * n ≡ a = mod-add-div' a n in
    elim (cases_lt (a / n) m) [
      | inr over ↦
          let least : m * n ≤ a / n * n = mul-le-mul_right {m = m} {n = a / n} n over in
          absurd (omega (arith, least, parts, before))
      | inl less ↦ elim (cases_lt (a / n + 1) m) [
        | inl far ↦
            let most : (a / n + 2) * n ≤ m * n = mul-le-mul_right {m = a / n + 2} {n = m} n (omega (arith, far)) in
            let sum : (a / n + 2) * n ≡ a / n * n + n + n = omega arith in
            absurd (omega (arith, most, sum, parts, is, low, near))
        | inr next ↦
            let same : m ≡ a / n + 1 = omega (arith, less, next) in
            let sum : (a / n + 1) * n ≡ a / n * n + n = omega arith in
            omega (arith, ap (λ (k : ℕ). k * n) same, sum, parts, is)
      ]
    ]

gap_close : (x y : Placed) → cell_gap x y < y.limits.spacing → gap_of x y ≡ cell_gap x y + period_of y.place
gap_close x y less = rw (lt-ltb (cell_gap x y) y.limits.spacing less) refl

gap_far : (x y : Placed) → y.limits.spacing ≤ cell_gap x y → gap_of x y ≡ cell_gap x y
gap_far x y few = rw (le-ltb (cell_gap x y) y.limits.spacing few) refl

-- ---- cells

-- an output is in the cells that have its number
output_in_cell : (t : SlotTable) (bus slot n : ℕ) (y : Placed) → cell_at t bus slot ≡ Some n → slice_get (outputs_of t) n ≡ Some y → output_in t bus slot ≡ Some y
output_in_cell t bus slot n y cell there = ap (option_and_then (λ (m : ℕ). slice_get (outputs_of t) m)) cell ∙ there

module _ (o : Opening) (g : ℕ) (p : SlotTable) (E : List Event) (there : slice_get (groups_of o.proposal.plan) g ≡ Some p) (spaced : AreSpacedTables o g p E) where
  -- no cell of a source is at the place of a taken Frame
  no_cell_of : (c source : ℕ) (at : SlotPlace) (z : Placed) (s : ℕ) → c < length E → is_taken_at o g p E c ≡ true → HasOutput (frame_at_place o g p E c).table source at → IsOutputCell o g p E c z s → z.source ≡ source → ⊥
  no_cell_of c source at z s below taken here Z same =
      let X = cell_here o g p E spaced c source at z s here Z same in
      let inside = (set_of (frame_at_place o g p E c).table source at (spaced c) here).on_a_bus in
      omega (arith, X.next, X.after, turns o g p E c at.bus at.bus below taken inside)

  -- a new frame begins after the slots of the old one
  frame_ends : (c : ℕ) → c < length E → is_taken_at o g p E c ≡ true → (frame_at_place o g p E (suc c)).first ≡ (frame_at_place o g p E c).first + frame_of (frame_at_place o g p E c).table
  frame_ends c below taken =
      let (e, is) = event_at E c below in
      let now : is_taken_after o g p (take c E) e ≡ true = sym (ap (λ (z : Option Event). option_map_or (is_taken_after o g p (take c E)) z false) is) ∙ taken in
      ap (λ (f : Current). f.first) (ap (current o g p) (take_following E c e is) ∙ new_frame o g p (take c E) e now)

  -- a cell is in its frame
  in_own_frame : (j : ℕ) (x : Placed) (s : ℕ) → IsOutputCell o g p E j x s → s < (frame_at_place o g p E j).first + frame_of (frame_at_place o g p E j).table
  in_own_frame j x s J =
      let f = frame_at_place o g p E j in
      let D = due_is g f J.cell J.due in
      omega (arith, J.counted, D.slot, in_frame (cells_since g f) (buses_of f.table) (frame_of f.table) D.due)

  -- a place has one cell
  one_cell : (k : ℕ) (x y : Placed) (s v : ℕ) → IsOutputCell o g p E k x s → IsOutputCell o g p E k y v → (x ≡ y) × (s ≡ v)
  one_cell k x y s v X Y =
      let cell : X.cell ≡ Y.cell = same_Some X.cell Y.cell (sym X.due ∙ Y.due) in
      let first : ℕ = (current o g p (take k E)).first in (
        same_Some x y (sym X.stands ∙ (ap (λ (z : ℕ × ℕ). output_in (current o g p (take k E)).table z.0 z.1) cell ∙ Y.stands)),
        X.counted ∙ (ap (λ (z : ℕ × ℕ). first + z.1) cell ∙ sym Y.counted),
      )

  -- after place j and before place c there is no cell of the source
  abbrev HasNoCellOf : ℕ → ℕ → ℕ → Type 0
  HasNoCellOf j c source = (a : ℕ) (z : Placed) (s : ℕ) → j < a → a < c → IsOutputCell o g p E a z s → z.source ≡ source → ⊥

  -- the last cell of a source before a Frame is taken is a period before the same offset in the next frame
  last_cell : (j c source : ℕ) (at : SlotPlace) (x : Placed) (s : ℕ) → j < c → c < length E → is_taken_at o g p E c ≡ true → KeepsOutput (history_of o g p E) j (c + 1) source at → IsOutputCell o g p E j x s → x.source ≡ source → HasNoCellOf j c source
      → s + period_of at ≡ (frame_at_place o g p E (suc c)).first + at.offset
  last_cell j c source at x s less below taken stays J same last =
      let n : ℕ = period_of at in
      let old : Current = frame_at_place o g p E c in
      let next : ℕ = next_slot_on (history_of o g p E) c at.bus in
      let B = cell_here o g p E spaced j source at x s (stays j (omega arith) (omega (arith, less))) J same in
      let set = set_of old.table source at (spaced c) (stays c (omega (arith, less)) (omega arith)) in
      let ends : (frame_at_place o g p E (suc c)).first ≡ old.first + frame_of old.table = frame_ends c below taken in
      let turn : next ≡ (frame_at_place o g p E (suc c)).first = sym (turns o g p E c at.bus at.bus below taken set.on_a_bus) ∙ begins o g p E c at.bus below taken in
      let later = later_on o g p E spaced (suc j) c source at (omega (arith, less)) (omega (arith, below)) (fewer o g p E j (suc j) c (c + 1) source at (omega arith) (omega arith) stays) in
      let soon : next ≤ s + n = elim (cases_lt (s + n) next) [
        | inr few ↦ few
        | inl past ↦
            let N = recurs o g p E spaced j c source at x s less (omega (arith, below)) (fewer o g p E j j c (c + 1) source at (omega arith) (omega arith) stays) J same past in
            absurd (last N.place N.output (s + n) N.after N.before N.cell N.same)
      ] in
      elim (later_at o g p E j c there (omega (arith, less)) (omega (arith, below))) [
        | inl S ↦
            let a : ℕ = s - (frame_at_place o g p E j).first in
            let m : ℕ = 2 ^ (old.table.frame - at.period) in
            let digits : (old.table.frame - at.period) + at.period ≡ old.table.frame = omega (arith, set.fits) in
            let slots : frame_of old.table ≡ m * n = ap (λ (d : ℕ). 2 ^ d) (sym digits) ∙ pow-add 2 (old.table.frame - at.period) at.period in
            let counted : s ≡ old.first + a = omega (arith, B.begun, S.first) in
            let sum : a + n ≡ m * n + at.offset =
            last_before m n at.offset a set.periodic.within B.cell.rest (omega (arith, counted, later, B.after, turn, ends, slots)) (omega (arith, counted, soon, turn, ends, slots)) in
            omega (arith, sum, counted, ends, slots)
        | inr M ↦
            let fits : n ≤ frame_of old.table = pow-le-pow_right {n = 2} (omega arith) {i = at.period} {j = old.table.frame} set.fits in
            absurd (omega (arith, in_own_frame j x s J, M.past, turn, ends, soon, fits))
      ]

  -- the first cell of the source by the new plan
  record FirstCell (c k : ℕ) (y : Placed) (v : ℕ) : Type 0 where
    pub place : ℕ
    pub from : suc c ≤ place
    pub before : place < k
    pub cell : IsOutputCell o g p E place y v

  first_cell : (c k source : ℕ) (y : Placed) (v : ℕ) → c < k → k ≤ length E → is_taken_at o g p E c ≡ true → KeepsOutput (history_of o g p E) (suc c) k source y.place → HasThisOutput (frame_at_place o g p E (suc c)).table source y
      → v ≡ (frame_at_place o g p E (suc c)).first + y.place.offset → v < next_slot_on (history_of o g p E) k y.place.bus → FirstCell c k y v
  first_cell c k source y v before few taken keeps Y is high =
      let new : Current = frame_at_place o g p E (suc c) in
      let Yo : HasOutput new.table source y.place = record { number = Y.number; output = y; there = Y.there; of_source = Y.same; at_place = refl } in
      let set = set_of new.table source y.place (spaced (suc c)) Yo in
      let within : y.place.offset < period_of y.place = set.periodic.within in
      let fits : period_of y.place ≤ frame_of new.table = pow-le-pow_right {n = 2} (omega arith) {i = y.place.period} {j = new.table.frame} set.fits in
      let P = passes_on o g p E spaced (suc c) k source y.place (omega (arith, before)) few keeps in
      let A = P.all v (omega (arith, is, begins o g p E c y.place.bus (omega (arith, before, few)) taken)) high in
      let early : A.place < k = A.before in
      let counted : v ≡ (frame_at_place o g p E A.place).first + A.in_frame = A.counted in
      elim (later_at o g p E (suc c) A.place there A.from (omega (arith, early, few))) [
        | inr M ↦ absurd (omega (arith, M.past, counted, is, within, fits))
        | inl S ↦
            let offset : A.in_frame ≡ y.place.offset = omega (arith, S.first, counted, is) in
            let rest : A.in_frame % period_of y.place ≡ y.place.offset = ap (λ (d : ℕ). d % period_of y.place) offset ∙ mod-eq_of_lt {n = y.place.offset} {m = period_of y.place} within in
            let here : HasOutput (frame_at_place o g p E A.place).table source y.place = record {
              number = Y.number;
              output = y;
              there = ap (λ (t : SlotTable). slice_get (outputs_of t) Y.number) S.table ∙ Y.there;
              of_source = Y.same;
              at_place = refl;
            } in
            let set' = set_of (frame_at_place o g p E A.place).table source y.place (spaced A.place) here in
            let number : cell_at (frame_at_place o g p E A.place).table y.place.bus A.in_frame ≡ Some Y.number = (set'.periodic.cells y.place.bus A.in_frame).1 (refl, rest) in
            record {
              place = A.place;
              from = A.from;
              before = A.before;
              cell = record {
                asked = A.asked;
                cell = (y.place.bus, A.in_frame);
                due = A.due;
                stands = output_in_cell (frame_at_place o g p E A.place).table y.place.bus A.in_frame Y.number y number here.there;
                counted = A.counted;
              };
            }
      ]

-- ---- sends

module _ (law : AreSpaced) (C : ℕ) (o : Opening) (g : ℕ) (p : SlotTable) (E : List Event) (H : IsPlannedHistory (history_of o g p E)) (spaced : AreSpacedTables o g p E) (j c k source : ℕ) (x y : Placed) (slot : ℕ)
    (K : Changes (history_of o g p E) j k source (move_of c x.place y.place)) (Y : HasThisOutput (current o g p (take (c + 1) E)).table source y) (last : IsLastSend C (history_of o g p E) j c source x slot) (free : NoHoldEmpties C (history_of o g p E) (c + 1) k source) where
  few : k ≤ length E
  few = K.few

  below : c < length E
  below = let before : c < k = K.before in omega (arith, before, few)

  less : j < c
  less =
      let from : j ≤ c = K.from in
      elim (cases_eq j c) [
        | inr differs ↦ omega (arith, from, differs)
        | inl is ↦ absurd (no_cell_of o g p E H.opens spaced c source x.place x slot below K.taken (K.stays c from (omega arith)) (subst (λ (n : ℕ). IsOutputCell o g p E n x slot) is last.sent.cell) last.same)
      ]

  keeps : KeepsOutput (history_of o g p E) (suc c) k source y.place
  keeps = fewer o g p E (c + 1) (suc c) k k source y.place (omega arith) (omega arith) K.goes_on

  -- the slot of the first cell by the new plan
  first_counted : slot + cell_gap x y ≡ (frame_at_place o g p E (suc c)).first + y.place.offset
  first_counted =
      let set = set_of (frame_at_place o g p E c).table source x.place (spaced c) (K.stays c K.from (omega arith)) in
      let within : x.place.offset < period_of x.place = set.periodic.within in
      omega (arith, within, last_cell o g p E H.opens spaced j c source x.place x slot less below K.taken K.stays last.sent.cell last.same last.last)

  first_by_new : slot + cell_gap x y < next_slot_on (history_of o g p E) k y.place.bus → FirstCell o g p E H.opens spaced c k y (slot + cell_gap x y)
  first_by_new high =
      let on : c + 1 ≡ suc c = omega arith in
      first_cell o g p E H.opens spaced c k source y (slot + cell_gap x y) K.before few K.taken keeps (subst (λ (n : ℕ). HasThisOutput (current o g p (take n E)).table source y) on Y) first_counted high

  -- between the last cell by the old plan and the first one by the new plan there is none
  none_between : (F : FirstCell o g p E H.opens spaced c k y (slot + cell_gap x y)) → (a : ℕ) (z : Placed) (s : ℕ) → j < a → a < F.place → IsOutputCell o g p E a z s → z.source ≡ source → ⊥
  none_between F a z s later early Z same = elim (cases_lt a c) [
    | inl old ↦ last.last a z s later old Z same
    | inr on ↦ elim (cases_eq a c) [
      | inl is ↦ no_cell_of o g p E H.opens spaced c source x.place z s below K.taken (K.stays c K.from (omega arith)) (subst (λ (n : ℕ). IsOutputCell o g p E n z s) is Z) same
      | inr differs ↦
          let set = set_of (frame_at_place o g p E F.place).table source y.place (spaced F.place) (keeps F.place F.from F.before) in
          let within : y.place.offset < period_of y.place = set.periodic.within in
          let R : HasCell (history_of o g p E) (suc c) k source (next_slot_on (history_of o g p E) (suc c) y.place.bus + period_of y.place) = record {
            place = F.place;
            from = F.from;
            before = F.before;
            output = y;
            same = Y.same;
            slot = slot + cell_gap x y;
            cell = F.cell;
            high = omega (arith, within, first_counted, begins o g p E c y.place.bus below K.taken);
          } in
          none_before o g p E spaced (suc c) k source y.place few keeps R a z s (omega (arith, on, differs)) early Z same
    ]
  ]

  -- a cell that no spacing empties is sent
  cell_is_sent : (l v : ℕ) (z : Placed) → suc c ≤ l → l < k → IsOutputCell o g p E l z v → z.source ≡ source → ((W : IsSentWithin C o g p E l z v) → ⊥) → (w : ℕ) × CellIsAnswered C (history_of o g p E) l z v (Some w)
  cell_is_sent l v z from before Z same far =
      let A = last.sent in
      let accepted : last_of (accepted_by C o z.source (take j E)) ≡ Some last.word =
      ap (λ (n : ℕ). last_of (accepted_by C o n (take j E))) (same ∙ sym last.same) ∙ last_sent _ (last_of (accepted_by C o x.source (take j E))) last.word (word_of C o g p E j x slot (Some last.word) H.opens A) in
      let L = latest_after C o E z.source j l last.word H.apart accepted (omega (arith, less, from)) (omega (arith, before, few)) in
      (L.word, sends_latest law C o g p E H spaced l 0 z v Z (free l z v (omega (arith, from)) before Z same) (λ close. far (law.only C o g p E l z v (omega (arith, before, few)) close)) L)

  -- the first cell, if it is far enough from the last one
  sends_first : y.limits.spacing ≤ cell_gap x y → slot + cell_gap x y < next_slot_on (history_of o g p E) k y.place.bus → HasNextSend C (history_of o g p E) j k source (slot + cell_gap x y)
  sends_first wide high =
      let F = first_by_new high in
      let from : suc c ≤ F.place = F.from in
      let (w, sent) = cell_is_sent F.place (slot + cell_gap x y) y F.from F.before F.cell Y.same (λ W. elim (cases_lt W.place (suc j)) [
        | inr since ↦ none_between F W.place W.earlier W.at since W.before W.sends.cell (W.same ∙ Y.same)
        | inl past ↦
            let here = K.stays (suc j) (omega arith) (omega (arith, less)) in
            let B = cell_here o g p E spaced j source x.place x slot (K.stays j (omega arith) (omega (arith, less))) last.sent.cell last.same in
            let old = before_next o g p E spaced W.place (suc j) source x.place W.earlier W.at H.opens (omega (arith, less, below)) past here W.sends.cell (W.same ∙ Y.same) in
            omega (arith, W.close, old, B.after, wide)
      ]) in
      record {
        place = F.place;
        after = omega (arith, less, from);
        before = F.before;
        output = y;
        same = Y.same;
        word = w;
        sent = sent;
        none = λ a z s u later early Z same. none_between F a z s later early Z.cell same;
      }

  -- else the second
  sends_second : cell_gap x y < y.limits.spacing → slot + cell_gap x y + period_of y.place < next_slot_on (history_of o g p E) k y.place.bus → HasNextSend C (history_of o g p E) j k source (slot + cell_gap x y + period_of y.place)
  sends_second close high =
      let v : ℕ = slot + cell_gap x y in
      let F = first_by_new (omega (arith, high)) in
      let from : suc c ≤ F.place = F.from in
      let N = recurs o g p E spaced F.place k source y.place y v F.before few (fewer o g p E (suc c) F.place k k source y.place F.from (omega arith) keeps) F.cell Y.same high in
      let after : F.place < N.place = N.after in
      let (w, sent) = cell_is_sent N.place (v + period_of y.place) N.output (omega (arith, from, after)) N.before N.cell N.same (λ W. elim (cases_lt W.place (F.place + 1)) [
        | inl early ↦ far_after law C o g p E H spaced (suc c) k source y.place few keeps F.place N.place y N.output v (v + period_of y.place) F.from N.after N.before F.cell Y.same N.cell N.same W early
        | inr since ↦ N.none W.place W.earlier W.at (omega (arith, since)) W.before W.sends.cell (W.same ∙ N.same)
      ]) in
      record {
        place = N.place;
        after = omega (arith, less, from, after);
        before = N.before;
        output = N.output;
        same = N.same;
        word = w;
        sent = sent;
        none = λ a z s u later early Z same. elim (cases_lt a F.place) [
          | inl old ↦ none_between F a z s later old Z.cell same
          | inr on ↦ elim (cases_eq a F.place) [
            | inr differs ↦ N.none a z s (omega (arith, on, differs)) early Z.cell same
            | inl is ↦
                let (own, at) = one_cell o g p E H.opens spaced F.place z y s v (subst (λ (n : ℕ). IsOutputCell o g p E n z s) is Z.cell) F.cell in
                let apart' = apart law C o g p E j a x z slot s last.word u H.opens later last.sent Z (last.same ∙ sym same) in
                omega (arith, apart', ap (λ (q : Placed). q.limits.spacing) own, at, close)
          ]
        ];
      }

  pub next_send : slot + gap_of x y < next_slot_on (history_of o g p E) k y.place.bus → HasNextSend C (history_of o g p E) j k source (slot + gap_of x y)
  next_send high = elim (cases_lt (cell_gap x y) y.limits.spacing) [
    | inr wide ↦
        let is = gap_far x y wide in
        subst (λ (n : ℕ). HasNextSend C (history_of o g p E) j k source (slot + n)) (sym is) (sends_first wide (omega (arith, high, is)))
    | inl close ↦
        let is = gap_close x y close in
        let sum : slot + cell_gap x y + period_of y.place ≡ slot + gap_of x y = omega (arith, is) in
        subst (HasNextSend C (history_of o g p E) j k source) sum (sends_second close (omega (arith, high, sum)))
  ]
