-- Words and cells of a source go on under any plans that follow one another, as long as each has an output of it.
use Rattle.std.proofs.Common.{◌≡◌, ℕ, zero, suc, ◌+◌, ◌-◌, ◌*◌, ◌<◌, ◌≤◌, ◌⊎◌, true, false, List, ◌∷◌, [], ◌++◌, length, take, max, ◌∙◌, sym, ap, subst, refl, inl, inr, arith}
use Rattle.std.specs.Prelude.{Option, Some}
use Rattle.std.specs.Option.{option_map_or}
use Rattle.std.proofs.Math.Nat.{pow-le-pow_right}
use Rattle.std.proofs.lemmas.Nat.{pow_pos}
use Rattle.std.proofs.lemmas.Bool.{cases_Bool, cases_eq, cases_lt}
use Rattle.a429_slots.specs.declared.group_plan.SlotPlace.{SlotPlace}
use Rattle.a429_slots.specs.Tables.{Placed, SlotTable, frame_of}
use Rattle.a429_slots.specs.Events.{Event}
use Rattle.a429_slots.specs.History.{Opening, Current, current}
use Rattle.a429_slots.specs.TakenFrames.{is_taken_after, is_taken_at}
use Rattle.a429_slots.specs.Spacing.{IsOutputCell}
use Rattle.a429_slots.proofs.Answered.{event_at}
use Rattle.a429_slots.proofs.Histories.{new_frame, same_frame, take_following}
use Rattle.a429_slots.proofs.Following.{frame_at_place}
use Rattle.a429_core.specs.Histories.{history_of}
use Rattle.a429_core.specs.Spaced.{AreSpaced, CellIsAnswered}
use Rattle.a429_core.specs.Latency.{AnswersOn, ChangesOften, Clock, EachOutput, GoesOut, GoesOutWithin, HasCell, HasOutput, HasOutputWithin, IsAcceptedBefore, IsPlannedHistory, IsUnheld, KeepsOutput, KeepsSource, KeepsTime, MaySend, SendsOne, next_slot_on, period_of, wait_of}
use Rattle.a429_core.proofs.Passing.{goes}
use Rattle.a429_core.proofs.Rounds.{AreSpacedTables, HasCellFrom, cell_here, comes_round, fewer, later_on, same_place, set_of, sooner}
use Rattle.a429_core.proofs.GoingOut.{ends_in_time, far_on, fits_cell, out_by}
use Rattle.a429_core.proofs.AcrossChanges.{begins, far_from, sent_by, turns}

abbrev table_at : Opening → ℕ → SlotTable → List Event → ℕ → SlotTable
table_at o g p E k = (frame_at_place o g p E k).table

-- ---- frames between taken Frames

-- the next taken Frame
record IsTurn (o : Opening) (g : ℕ) (p : SlotTable) (E : List Event) (a k : ℕ) : Type 0 where
  pub place : ℕ
  pub from : a ≤ place
  pub before : place < k
  pub taken : is_taken_at o g p E place ≡ true
  pub none : (j : ℕ) → a ≤ j → j < place → is_taken_at o g p E j ≡ false

abbrev NoneTaken : Opening → ℕ → SlotTable → List Event → ℕ → ℕ → Type 0
NoneTaken o g p E a k = (j : ℕ) → a ≤ j → j < k → is_taken_at o g p E j ≡ false

next_turn_by : (o : Opening) (g : ℕ) (p : SlotTable) (E : List Event) (a d : ℕ) → IsTurn o g p E a (d + a) ⊎ NoneTaken o g p E a (d + a)
next_turn_by o g p E a zero = inr (λ j from below. absurd (omega (arith, from, below)))
next_turn_by o g p E a (suc d) = elim (next_turn_by o g p E a d) [
  | inl T ↦ let before : T.place < d + a = T.before in inl (record { place = T.place; from = T.from; before = omega (arith, before); taken = T.taken; none = T.none })
  | inr none ↦ elim (cases_Bool (is_taken_at o g p E (d + a))) [
    | inl taken ↦ inl (record { place = d + a; from = omega arith; before = omega arith; taken = taken; none = none })
    | inr left ↦ inr (λ j from below. elim (cases_eq j (d + a)) [
      | inl is ↦ subst (λ (z : ℕ). is_taken_at o g p E z ≡ false) (sym is) left
      | inr differs ↦ none j from (omega (arith, below, differs))
    ])
  ]
]

next_turn : (o : Opening) (g : ℕ) (p : SlotTable) (E : List Event) (a k : ℕ) → a ≤ k → IsTurn o g p E a k ⊎ NoneTaken o g p E a k
next_turn o g p E a k after =
    let rest : (k - a) + a ≡ k = omega (arith, after) in
    subst (λ (z : ℕ). IsTurn o g p E a z ⊎ NoneTaken o g p E a z) rest (next_turn_by o g p E a (k - a))

-- a frame lasts until then
record IsSameFrame (f h : Current) : Type 0 where
  pub table : h.table ≡ f.table
  pub first : h.first ≡ f.first

frame_step : (o : Opening) (g : ℕ) (p : SlotTable) (E : List Event) (k : ℕ) → k < length E → is_taken_at o g p E k ≡ false → IsSameFrame (frame_at_place o g p E k) (frame_at_place o g p E (suc k))
frame_step o g p E k below left =
    let (e, there) = event_at E k below in
    let untaken : is_taken_after o g p (take k E) e ≡ false = sym (ap (λ (x : Option Event). option_map_or (is_taken_after o g p (take k E)) x false) there) ∙ left in
    let on : frame_at_place o g p E (suc k) ≡ current o g p (take k E ++ e ∷ []) = ap (current o g p) (take_following E k e there) in
    let same = on ∙ same_frame o g p (take k E) e untaken in
    record { table = ap (λ (c : Current). c.table) same; first = ap (λ (c : Current). c.first) same }

lasts_by : (o : Opening) (g : ℕ) (p : SlotTable) (E : List Event) (a d : ℕ) → d + a ≤ length E → NoneTaken o g p E a (d + a) → IsSameFrame (frame_at_place o g p E a) (frame_at_place o g p E (d + a))
lasts_by o g p E a zero few none =
    let same : zero + a ≡ a = omega arith in
    subst (λ (k : ℕ). IsSameFrame (frame_at_place o g p E a) (frame_at_place o g p E k)) (sym same) (record { table = refl; first = refl })
lasts_by o g p E a (suc d) few none =
    let on : suc d + a ≡ suc (d + a) = omega arith in
    let before = lasts_by o g p E a d (omega (arith, few)) (λ j from below. none j from (omega (arith, below))) in
    let step = frame_step o g p E (d + a) (omega (arith, few)) (none (d + a) (omega arith) (omega arith)) in
    subst (λ (k : ℕ). IsSameFrame (frame_at_place o g p E a) (frame_at_place o g p E k)) (sym on) (record { table = step.table ∙ before.table; first = step.first ∙ before.first })

lasts : (o : Opening) (g : ℕ) (p : SlotTable) (E : List Event) (a k : ℕ) → a ≤ k → k ≤ length E → NoneTaken o g p E a k → IsSameFrame (frame_at_place o g p E a) (frame_at_place o g p E k)
lasts o g p E a k after few none =
    let rest : (k - a) + a ≡ k = omega (arith, after) in
    subst (λ (z : ℕ). IsSameFrame (frame_at_place o g p E a) (frame_at_place o g p E z)) rest (lasts_by o g p E a (k - a) (omega (arith, few, rest)) (λ j from below. none j from (omega (arith, below, rest))))

module _ (o : Opening) (g : ℕ) (p : SlotTable) (E : List Event) (spaced : AreSpacedTables o g p E) where
  -- so do its outputs
  keeps_to : (a k source : ℕ) (at : SlotPlace) → k ≤ length E → NoneTaken o g p E a k → HasOutput (table_at o g p E a) source at → KeepsOutput (history_of o g p E) a (k + 1) source at
  keeps_to a k source at few none here j from below =
      let F = lasts o g p E a j from (omega (arith, below, few)) (λ i low high. none i low (omega (arith, high, below))) in
      subst (λ (t : SlotTable). HasOutput t source at) (sym F.table) here

  -- if a Frame is taken, the slots of the frame before it are past
  past_frame : (d bus : ℕ) → d < length E → is_taken_at o g p E d ≡ true → (source : ℕ) (at : SlotPlace) → HasOutput (table_at o g p E d) source at
      → next_slot_on (history_of o g p E) d at.bus ≡ (frame_at_place o g p E d).first + frame_of (table_at o g p E d)
  past_frame d bus below taken source at here =
      let inside = (set_of (table_at o g p E d) source at (spaced d) here).on_a_bus in
      let (e, there) = event_at E d below in
      let now : is_taken_after o g p (take d E) e ≡ true = sym (ap (λ (x : Option Event). option_map_or (is_taken_after o g p (take d E)) x false) there) ∙ taken in
      let first : (frame_at_place o g p E (suc d)).first ≡ (frame_at_place o g p E d).first + frame_of (table_at o g p E d) =
      ap (λ (c : Current). c.first) (ap (current o g p) (take_following E d e there) ∙ new_frame o g p (take d E) e now) in
      sym (turns o g p E d at.bus at.bus below taken inside) ∙ (begins o g p E d at.bus below taken ∙ first)

  -- at one place there is one next slot of the source
  one_next : (i k source most : ℕ) (first : HasOutputWithin (table_at o g p E i) source most) (last : HasOutputWithin (table_at o g p E k) source most) → k ≡ i → next_slot_on (history_of o g p E) k last.at.bus ≡ next_slot_on (history_of o g p E) i first.at.bus
  one_next i k source most first last is =
      subst (λ (z : ℕ). (y : HasOutputWithin (table_at o g p E z) source most) → next_slot_on (history_of o g p E) z y.at.bus ≡ next_slot_on (history_of o g p E) i first.at.bus) (sym is)
      (λ y. ap (λ (q : SlotPlace). next_slot_on (history_of o g p E) i q.bus) (same_place (table_at o g p E i) source y.at first.at (spaced i) y.output first.output)) last

  -- ---- cells

  -- in what is left of a frame
  in_frame_left : (a k source most : ℕ) (first : HasOutputWithin (table_at o g p E a) source most) (last : HasOutputWithin (table_at o g p E k) source most) → a ≤ k → k ≤ length E → NoneTaken o g p E a k
      → next_slot_on (history_of o g p E) a first.at.bus + period_of first.at ≤ next_slot_on (history_of o g p E) k last.at.bus
      → HasCellFrom o g p E a k source (next_slot_on (history_of o g p E) a first.at.bus) (next_slot_on (history_of o g p E) a first.at.bus + period_of first.at)
  in_frame_left a k source most first last after few none passes =
      let keeps = keeps_to a k source first.at few none first.output in
      let there = same_place (table_at o g p E k) source last.at first.at (spaced k) last.output (keeps k after (omega arith)) in
      let same : next_slot_on (history_of o g p E) k last.at.bus ≡ next_slot_on (history_of o g p E) k first.at.bus = ap (λ (q : SlotPlace). next_slot_on (history_of o g p E) k q.bus) there in
      comes_round o g p E spaced a k source first.at after few (fewer o g p E a a k (k + 1) source first.at (omega arith) (omega arith) keeps) (omega (arith, passes, same))

  -- or in the next frame
  comes_within : (a k source most n : ℕ) (first : HasOutputWithin (table_at o g p E a) source most) (last : HasOutputWithin (table_at o g p E k) source most) → a ≤ k → k ≤ length E → KeepsSource (history_of o g p E) a k source most
      → 2 * most ≤ n + 1 → next_slot_on (history_of o g p E) a first.at.bus + n ≤ next_slot_on (history_of o g p E) k last.at.bus
      → HasCellFrom o g p E a k source (next_slot_on (history_of o g p E) a first.at.bus) (next_slot_on (history_of o g p E) a first.at.bus + n)
  comes_within a k source most n first last after few keeps wide passes =
      let begin : ℕ = next_slot_on (history_of o g p E) a first.at.bus in
      let some : 0 < period_of first.at = pow_pos first.at.period in
      let short : period_of first.at ≤ most = first.short in
      elim (next_turn o g p E a k after) [
        | inr none ↦ further a a k k source begin begin (begin + period_of first.at) (begin + n) (omega arith) (omega arith) (omega arith) (omega (arith, short, some, wide))
            (in_frame_left a k source most first last after few none (omega (arith, passes, short, some, wide)))
        | inl T ↦
            let c = T.place in
            let from : a ≤ c = T.from in
            let before : c < k = T.before in
            let stays = keeps_to a c source first.at (omega (arith, before, few)) T.none first.output in
            elim (cases_lt (next_slot_on (history_of o g p E) c first.at.bus) (begin + period_of first.at)) [
              | inr long ↦ further a a c k source begin begin (begin + period_of first.at) (begin + n) (omega arith) (omega (arith, before)) (omega arith) (omega (arith, short, some, wide))
                  (comes_round o g p E spaced a c source first.at from (omega (arith, before, few)) (fewer o g p E a a c (c + 1) source first.at (omega arith) (omega arith) stays) long)
              | inl less ↦
                  let next = keeps (suc c) (omega (arith, from)) (omega (arith, before)) in
                  let inside = (set_of (table_at o g p E c) source first.at (spaced c) (stays c from (omega arith))).on_a_bus in
                  let turn : next_slot_on (history_of o g p E) (suc c) next.at.bus ≡ next_slot_on (history_of o g p E) c first.at.bus = turns o g p E c first.at.bus next.at.bus (omega (arith, before, few)) T.taken inside in
                  let begun : next_slot_on (history_of o g p E) (suc c) next.at.bus ≡ (frame_at_place o g p E (suc c)).first = begins o g p E c next.at.bus (omega (arith, before, few)) T.taken in
                  let later : begin ≤ next_slot_on (history_of o g p E) c first.at.bus = later_on o g p E spaced a c source first.at from (omega (arith, before, few)) (fewer o g p E a a c (c + 1) source first.at (omega arith) (omega arith) stays) in
                  let small : period_of next.at ≤ most = next.short in
                  let start : ℕ = next_slot_on (history_of o g p E) (suc c) next.at.bus in
                  elim (next_turn o g p E (suc c) k (omega (arith, before))) [
                    | inr none ↦ further a (suc c) k k source begin start (start + period_of next.at) (begin + n) (omega (arith, from)) (omega arith) (omega (arith, later, turn)) (omega (arith, turn, less, small, short, wide))
                        (in_frame_left (suc c) k source most next last (omega (arith, before)) few none (omega (arith, passes, turn, less, small, short, wide)))
                    | inl U ↦
                        let d = U.place in
                        let on : suc c ≤ d = U.from in
                        let end : d < k = U.before in
                        let lasting = keeps_to (suc c) d source next.at (omega (arith, end, few)) U.none next.output in
                        let there = lasting d on (omega arith) in
                        let frame = lasts o g p E (suc c) d on (omega (arith, end, few)) U.none in
                        let past = past_frame d next.at.bus (omega (arith, end, few)) U.taken source next.at there in
                        let fits : period_of next.at ≤ frame_of (table_at o g p E d) = pow-le-pow_right {n = 2} (omega arith) {i = next.at.period} {j = (table_at o g p E d).frame} (set_of (table_at o g p E d) source next.at (spaced d) there).fits in
                        further a (suc c) d k source begin start (start + period_of next.at) (begin + n) (omega (arith, from)) (omega (arith, end)) (omega (arith, later, turn)) (omega (arith, turn, less, small, short, wide))
                        (comes_round o g p E spaced (suc c) d source next.at on (omega (arith, end, few)) (fewer o g p E (suc c) (suc c) d (d + 1) source next.at (omega arith) (omega arith) lasting) (omega (arith, past, frame.first, begun, fits)))
                  ]
            ]
      ]
    where
      further : (i j l k source low least end most : ℕ) → i ≤ j → l ≤ k → low ≤ least → end ≤ most → HasCellFrom o g p E j l source least end → HasCellFrom o g p E i k source low most
      further i j l k source low least end most before after less more F =
          let at_least : least ≤ F.cell.slot = F.low in
          record { cell = sooner o g p E i j l k source end most before after more F.cell; low = omega (arith, at_least, less) }

  -- ---- the place at which a slot is next

  record IsNextSomewhere (i k source most slot : ℕ) : Type 0 where
    pub place : ℕ
    pub from : i ≤ place
    pub before : place ≤ k
    pub output : HasOutputWithin (table_at o g p E place) source most
    pub next : next_slot_on (history_of o g p E) place output.at.bus ≡ slot

  step : (j source most : ℕ) (now : HasOutputWithin (table_at o g p E j) source most) (after : HasOutputWithin (table_at o g p E (suc j)) source most) → j < length E
      → next_slot_on (history_of o g p E) (suc j) after.at.bus ≤ next_slot_on (history_of o g p E) j now.at.bus + 1
  step j source most now after below =
      let inside = (set_of (table_at o g p E j) source now.at (spaced j) now.output).on_a_bus in
      elim (cases_Bool (is_taken_at o g p E j)) [
        | inl taken ↦ omega (arith, turns o g p E j now.at.bus after.at.bus below taken inside)
        | inr left ↦
            let F = frame_step o g p E j below left in
            let here : HasOutput (table_at o g p E j) source after.at = subst (λ (t : SlotTable). HasOutput t source after.at) F.table after.output in
            let same : next_slot_on (history_of o g p E) (suc j) after.at.bus ≡ next_slot_on (history_of o g p E) (suc j) now.at.bus = ap (λ (q : SlotPlace). next_slot_on (history_of o g p E) (suc j) q.bus) (same_place (table_at o g p E j) source after.at now.at (spaced j) here now.output) in
            elim (goes o g p E j now.at.bus below inside) [
              | inl still ↦ omega (arith, same, still)
              | inr T ↦ let next : next_slot_on (history_of o g p E) (suc j) now.at.bus ≡ next_slot_on (history_of o g p E) j now.at.bus + 1 = T.next in omega (arith, same, next)
            ]
      ]

  -- up to place k
  abbrev Reaches : ℕ → ℕ → ℕ → ℕ → ℕ → Type 0
  Reaches i source most slot k =
      (last : HasOutputWithin (table_at o g p E k) source most) → k ≤ length E → KeepsSource (history_of o g p E) i k source most → slot ≤ next_slot_on (history_of o g p E) k last.at.bus → IsNextSomewhere i k source most slot

  reach_by : (i source most slot : ℕ) (first : HasOutputWithin (table_at o g p E i) source most) → next_slot_on (history_of o g p E) i first.at.bus ≤ slot → (d : ℕ) → Reaches i source most slot (d + i)
  reach_by i source most slot first low zero =
      let same : zero + i ≡ i = omega arith in
      subst (Reaches i source most slot) (sym same) (λ last few keeps high. record { place = i; from = omega arith; before = omega arith; output = first; next = omega (arith, low, high, one_next i i source most first last refl) })
  reach_by i source most slot first low (suc d) =
      let on : suc d + i ≡ suc (d + i) = omega arith in
      subst (Reaches i source most slot) (sym on) (λ last few keeps high.
      let now = keeps (d + i) (omega arith) (omega arith) in
      elim (cases_lt (next_slot_on (history_of o g p E) (d + i) now.at.bus) slot) [
        | inr there ↦
            let N = reach_by i source most slot first low d now (omega (arith, few)) (λ j from below. keeps j from (omega (arith, below))) there in
            let before : N.place ≤ d + i = N.before in
            record { place = N.place; from = N.from; before = omega (arith, before); output = N.output; next = N.next }
        | inl more ↦ record { place = suc (d + i); from = omega arith; before = omega arith; output = last; next = omega (arith, high, more, step (d + i) source most now last (omega (arith, few))) }
      ])

  reach : (i k source most slot : ℕ) (first : HasOutputWithin (table_at o g p E i) source most) (last : HasOutputWithin (table_at o g p E k) source most) → i ≤ k → k ≤ length E → KeepsSource (history_of o g p E) i k source most
      → next_slot_on (history_of o g p E) i first.at.bus ≤ slot → slot ≤ next_slot_on (history_of o g p E) k last.at.bus → IsNextSomewhere i k source most slot
  reach i k source most slot first last after few keeps low high =
      let rest : (k - i) + i ≡ k = omega (arith, after) in
      subst (Reaches i source most slot) rest (reach_by i source most slot first low (k - i)) last few keeps high

  -- from there on a cell comes
  pub comes_often : (i k source most n start slot : ℕ) → (P : ChangesOften (history_of o g p E) i k source most n) → start ≡ next_slot_on (history_of o g p E) i P.first.at.bus → start ≤ slot → slot + 2 * most ≤ start + n + 1
      → HasCellFrom o g p E i k source slot (start + n)
  comes_often i k source most n start slot P is low wide =
      let after : i ≤ k = P.after in
      let few : k ≤ length E = P.few in
      let passes : next_slot_on (history_of o g p E) i P.first.at.bus + n ≤ next_slot_on (history_of o g p E) k P.last.at.bus = P.passes in
      let some : 0 < period_of P.first.at = pow_pos P.first.at.period in
      let short : period_of P.first.at ≤ most = P.first.short in
      let M = reach i k source most slot P.first P.last after few P.keeps (omega (arith, is, low)) (omega (arith, is, wide, passes, some, short)) in
      let from : i ≤ M.place = M.from in
      let next : next_slot_on (history_of o g p E) M.place M.output.at.bus ≡ slot = M.next in
      let F = comes_within M.place k source most (2 * most - 1) M.output P.last M.before few (λ j low below. P.keeps j (omega (arith, low, from)) below) (omega arith) (omega (arith, next, is, wide, passes, some, short)) in
      let least : next_slot_on (history_of o g p E) M.place M.output.at.bus ≤ F.cell.slot = F.low in
      record {
        cell = sooner o g p E i M.place k k source (next_slot_on (history_of o g p E) M.place M.output.at.bus + (2 * most - 1)) (start + n) from (omega arith) (omega (arith, next, wide, some, short)) F.cell;
        low = omega (arith, least, next);
      }

-- ---- words

module _ (law : AreSpaced) (C : ℕ) (o : Opening) (g : ℕ) (p : SlotTable) (E : List Event) (H : IsPlannedHistory (history_of o g p E)) (spaced : AreSpacedTables o g p E) where
  pub out_often : (i k source most q n : ℕ) → IsAcceptedBefore C o E i k source → (P : ChangesOften (history_of o g p E) i k source most n) → EachOutput (history_of o g p E) i k source (MaySend q) → 2 * most ≤ n + 1 → q + 2 * most ≤ n + 2
      → GoesOut C (history_of o g p E) i k source (next_slot_on (history_of o g p E) i P.first.at.bus + n)
  out_often i k source most q n A P may short wide =
      let first : ℕ = next_slot_on (history_of o g p E) i P.first.at.bus in
      let after : i ≤ k = P.after in
      let few : k ≤ length E = P.few in
      let F = comes_often o g p E spaced i k source most n first (first + (q - 1)) P refl (omega arith) (omega (arith, short, wide)) in
      let low : first + (q - 1) ≤ F.cell.slot = F.low in
      let fits = fits_cell o g p E i k source F.cell.place (MaySend q) F.cell.output F.cell.slot may F.cell.from F.cell.before F.cell.cell F.cell.same in
      out_by law C o g p E H spaced i k source (first + n) q few A.word F.cell fits
      (far_on law C o g p E H spaced i source q P.first.at (omega (arith, after, few)) P.first.output F.cell.place F.cell.output F.cell.slot F.cell.same fits (omega (arith, low)))

  pub latency_often : (i k source most q n bus slot : ℕ) (clock : Clock) → IsAcceptedBefore C o E i k source → (P : ChangesOften (history_of o g p E) i k source most n) → EachOutput (history_of o g p E) i k source (MaySend q)
      → 2 * most ≤ n + 1 → q + 2 * most ≤ n + 2 → AnswersOn (history_of o g p E) 0 i bus slot → next_slot_on (history_of o g p E) i P.first.at.bus ≤ slot + 1 → KeepsTime (history_of o g p E) clock
      → GoesOutWithin C (history_of o g p E) (wait_of source i k (next_slot_on (history_of o g p E) i P.first.at.bus + n)) clock ((n + 1) * clock.slot_time)
  latency_often i k source most q n bus slot clock A P may short wide before near T =
      let G = out_often i k source most q n A P may short wide in
      record { out = G; soon = ends_in_time law C o g p E H spaced 0 i bus slot (next_slot_on (history_of o g p E) i P.first.at.bus) n G.cell.slot clock before near G.cell.high T }

  pub sends_often : (j k source most : ℕ) (x : Placed) (slot w q span : ℕ) → ChangesOften (history_of o g p E) j k source most span → EachOutput (history_of o g p E) j k source (IsUnheld q) → CellIsAnswered C (history_of o g p E) j x slot (Some w) → x.source ≡ source
      → 2 * most ≤ span → q + 2 * most ≤ span + 1 → SendsOne C (history_of o g p E) (j + 1) k source (slot + span)
  sends_often j k source most x slot w q span P free A same short wide =
      let few : k ≤ length E = P.few in
      let here = cell_here o g p E spaced j source P.first.at x slot P.first.output A.cell same in
      let F = comes_often o g p E spaced j k source most span slot (slot + max q 1) P (sym here.next) (omega arith) (omega (arith, short, wide)) in
      let low : slot + max q 1 ≤ F.cell.slot = F.low in
      let from : j ≤ F.cell.place = F.cell.from in
      let past : j < F.cell.place = elim (cases_eq j F.cell.place) [
        | inr differs ↦ omega (arith, from, differs)
        | inl is ↦
            let there = cell_here o g p E spaced j source P.first.at F.cell.output F.cell.slot P.first.output (subst (λ (z : ℕ). IsOutputCell o g p E z F.cell.output F.cell.slot) (sym is) F.cell.cell) F.cell.same in
            absurd (omega (arith, low, here.next, there.next))
      ] in
      let R : HasCell (history_of o g p E) (j + 1) k source (slot + span) = record { place = F.cell.place; from = omega (arith, past); before = F.cell.before; output = F.cell.output; same = F.cell.same; slot = F.cell.slot; cell = F.cell.cell; high = F.cell.high } in
      let fits = fits_cell o g p E j k source F.cell.place (IsUnheld q) F.cell.output F.cell.slot free from F.cell.before F.cell.cell F.cell.same in
      sent_by law C o g p E H spaced j k source (slot + span) q slot w x few A same R fits (far_from law C o g p E H spaced j F.cell.place q slot F.cell.slot w x F.cell.output A fits (omega (arith, low)))
