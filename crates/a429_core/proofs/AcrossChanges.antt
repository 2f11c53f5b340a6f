-- Words and cells of a source go on when its group goes on to other plans.
use Rattle.std.proofs.Common.{◌≡◌, ℕ, suc, ◌+◌, ◌-◌, ◌*◌, ◌/◌, ◌%◌, ◌<◌, ◌≤◌, true, false, true≢false, List, length, take, max, ◌∙◌, sym, ap, subst, refl, inl, inr, arith}
use Rattle.std.specs.Prelude.{Option, Some, slice_get, if◌then◌else◌, nat_lt}
use Rattle.std.specs.Option.{option_map_or}
use Rattle.std.proofs.Math.Nat.{zero-div, zero-mod}
use Rattle.std.proofs.lemmas.Nat.{pow_pos}
use Rattle.std.proofs.lemmas.Bool.{cases_Bool, cases_eq, cases_lt, le-ltb}
use Rattle.std.proofs.lemmas.Option.{same_Some}
use Rattle.a429_word.proofs.Lists.{clash}
use Rattle.a429_slots.specs.declared.group_plan.SlotPlace.{SlotPlace}
use Rattle.a429_slots.specs.Tables.{Placed, SlotTable, groups_of, buses_of}
use Rattle.a429_slots.specs.Events.{Event, Cell}
use Rattle.a429_slots.specs.History.{Opening, Current, accepted_by, answered_cells, current, is_too_close, last_of, newest_number, newest_table, next_frame}
use Rattle.a429_slots.specs.TakenFrames.{is_taken_after, is_taken_at}
use Rattle.a429_slots.specs.FrameStates.{frame_state_of}
use Rattle.a429_slots.specs.Spacing.{IsOutputCell, IsSentWithin}
use Rattle.a429_slots.proofs.Answered.{event_at}
use Rattle.a429_slots.proofs.Histories.{new_frame, take_following}
use Rattle.a429_core.specs.Histories.{history_of}
use Rattle.a429_core.specs.Spaced.{AreSpaced, CellIsAnswered}
use Rattle.a429_core.specs.Latency.{Changes, Clock, EachOutput, GoesOut, GoesOutWithin, HasCell, HasOutput, IsAcceptedBefore, IsPlannedHistory, IsUnheld, KeepsTime, MaySend, Passes, SendsOne, move_of, next_on, next_slot_on, period_of, wait_of}
use Rattle.a429_core.proofs.SpacedWords.{answered_by, word_of}
use Rattle.a429_core.proofs.Passing.{goes}
use Rattle.a429_core.proofs.Rounds.{AreSpacedTables, cell_here, comes_round, fewer, in_order, set_of, sooner}
use Rattle.a429_core.proofs.Latest.{latest_after}
use Rattle.a429_core.proofs.GoingOut.{comes_from, far_after, far_on, fits_cell, in_time, last_sent, out_by, sends_latest, settled_time, unheld}

-- ---- the beginning of a frame

-- the group sends no cell at the place at which it takes a Frame
no_cell : (o : Opening) (g : ℕ) (p : SlotTable) (E : List Event) (c : ℕ) → is_taken_at o g p E c ≡ true → slice_get E c ≡ Some (Cell g) → ⊥
no_cell o g p E c taken asked = clash (sym (ap (λ (x : Option Event). option_map_or (is_taken_after o g p (take c E)) x false) asked) ∙ taken)

-- from the first slot of the frame on, each slot is next, on each bus
pub begins : (o : Opening) (g : ℕ) (p : SlotTable) (E : List Event) (c bus : ℕ) → c < length E → is_taken_at o g p E c ≡ true → next_slot_on (history_of o g p E) (suc c) bus ≡ (current o g p (take (suc c) E)).first
begins o g p E c bus below taken =
    let (e, there) = event_at E c below in
    let F = take c E in
    let now : is_taken_after o g p F e ≡ true = sym (ap (λ (x : Option Event). option_map_or (is_taken_after o g p F) x false) there) ∙ taken in
    let is : current o g p (take (suc c) E) ≡ next_frame (newest_number o F) (newest_table o g p F) (current o g p F) =
    ap (current o g p) (take_following E c e there) ∙ new_frame o g p F e now in
    at_start (newest_number o F) (newest_table o g p F) (current o g p F) (current o g p (take (suc c) E)) is
  where
    at_start : (n : ℕ) (t : SlotTable) (f h : Current) → h ≡ next_frame n t f → next_on (frame_state_of g h) bus ≡ h.first
    at_start n t f h is =
        let rest : 0 % buses_of t ≡ 0 = zero-mod (buses_of t) in
        let row : 0 / buses_of t ≡ 0 = zero-div (buses_of t) in
        let start : (0 / buses_of t + (if nat_lt bus (0 % buses_of t) then 1 else 0)) ≡ 0 = rw (rest, row, le-ltb bus 0 (omega arith)) refl in
        let first : (next_frame n t f).first ≡ h.first = ap (λ (x : Current). x.first) (sym is) in
        let fresh : next_on (frame_state_of g (next_frame n t f)) bus ≡ (next_frame n t f).first = by_sent n t f start in
        ap (λ (x : Current). next_on (frame_state_of g x) bus) is ∙ (fresh ∙ first)
      where
        by_sent : (n : ℕ) (t : SlotTable) (f : Current) → (0 / buses_of t + (if nat_lt bus (0 % buses_of t) then 1 else 0)) ≡ 0 → next_on (frame_state_of g (next_frame n t f)) bus ≡ (next_frame n t f).first
        by_sent n t f start =
            let none : (frame_state_of g (next_frame n t f)).sent ≡ 0 = omega arith in
            ap (λ (m : ℕ). (next_frame n t f).first + (m / buses_of t + (if nat_lt bus (m % buses_of t) then 1 else 0))) none
            ∙ omega (arith, start)

-- the slots of the old frame are all past there
pub turns : (o : Opening) (g : ℕ) (p : SlotTable) (E : List Event) (c bus other : ℕ) → c < length E → is_taken_at o g p E c ≡ true → bus < buses_of (current o g p (take c E)).table
    → next_slot_on (history_of o g p E) (suc c) other ≡ next_slot_on (history_of o g p E) c bus
turns o g p E c bus other below taken inside =
    begins o g p E c other below taken ∙ (sym (begins o g p E c bus below taken) ∙ elim (goes o g p E c bus below inside) [
      | inl same ↦ same
      | inr T ↦ absurd (no_cell o g p E c taken T.asked)
    ])

-- ---- cells in order

-- a cell of no later place has no later slot
no_later : (o : Opening) (g : ℕ) (p : SlotTable) (E : List Event) (a b : ℕ) (y x : Placed) (v s : ℕ) → slice_get (groups_of o.proposal.plan) g ≡ Some p → a ≤ b → IsOutputCell o g p E a y v → IsOutputCell o g p E b x s → v ≤ s
no_later o g p E a b y x v s there before A B = elim (cases_lt a b) [
  | inl lt ↦ in_order o g p E a b y x v s there lt A B
  | inr ge ↦
      let same : b ≡ a = omega (arith, ge, before) in
      let C : IsOutputCell o g p E a x s = subst (λ (k : ℕ). IsOutputCell o g p E k x s) same B in
      let cell : A.cell ≡ C.cell = same_Some A.cell C.cell (sym A.due ∙ C.due) in
      let at : v ≡ (current o g p (take a E)).first + A.cell.1 = A.counted in
      let here : s ≡ (current o g p (take a E)).first + C.cell.1 = C.counted in
      omega (arith, at, here, ap (λ (z : ℕ × ℕ). z.1) cell)
]

-- ---- one change

module _ (o : Opening) (g : ℕ) (p : SlotTable) (E : List Event) (spaced : AreSpacedTables o g p E) where
  -- the slot that is next by the old plan at the change is next by the new one
  turns_to : (c source : ℕ) (old : SlotPlace) (bus : ℕ) → c < length E → is_taken_at o g p E c ≡ true → HasOutput (current o g p (take c E)).table source old → next_slot_on (history_of o g p E) (c + 1) bus ≡ next_slot_on (history_of o g p E) c old.bus
  turns_to c source old bus below taken here =
      let step : c + 1 ≡ suc c = omega arith in
      let inside = (set_of (current o g p (take c E)).table source old (spaced c) here).on_a_bus in
      ap (λ (z : ℕ). next_slot_on (history_of o g p E) z bus) step ∙ turns o g p E c old.bus bus below taken inside

  -- a cell is not at the place of the change
  before_change : (j c : ℕ) (x : Placed) (s : ℕ) → j ≤ c → is_taken_at o g p E c ≡ true → IsOutputCell o g p E j x s → j < c
  before_change j c x s from taken J = elim (cases_eq j c) [
    | inr differs ↦ omega (arith, from, differs)
    | inl is ↦ absurd (no_cell o g p E c taken (ap (slice_get E) (sym is) ∙ J.asked))
  ]

  -- after a cell by the old plan
  pub recurs_across : (j c k source : ℕ) (old new : SlotPlace) (x : Placed) (s : ℕ) → Changes (history_of o g p E) j k source (move_of c old new) → IsOutputCell o g p E j x s → x.source ≡ source
      → s + (period_of old + period_of new) ≤ next_slot_on (history_of o g p E) k new.bus → HasCell (history_of o g p E) (j + 1) k source (s + (period_of old + period_of new))
  recurs_across j c k source old new x s K J same passes =
      let before : c < k = K.before in
      let few : k ≤ length E = K.few in
      let from : j ≤ c = K.from in
      let less = before_change j c x s from K.taken J in
      let some : 0 < period_of new = pow_pos new.period in
      let next = (cell_here o g p E spaced j source old x s (K.stays j (omega arith) (omega (arith, less))) J same).after in
      let turn = turns_to c source old new.bus (omega (arith, before, few)) K.taken (K.stays c from (omega arith)) in
      elim (cases_lt (next_slot_on (history_of o g p E) c old.bus) (s + 1 + period_of old)) [
        | inr long ↦
            let R = (comes_round o g p E spaced (suc j) c source old (omega (arith, less)) (omega (arith, before, few)) (fewer o g p E j (suc j) c (c + 1) source old (omega arith) (omega arith) K.stays) (omega (arith, next, long))).cell in
            sooner o g p E (j + 1) (suc j) c k source _ _ (omega arith) (omega (arith, before)) (omega (arith, next, some)) R
        | inl short ↦
            let R = (comes_round o g p E spaced (c + 1) k source new (omega (arith, before)) few K.goes_on (omega (arith, turn, short, passes))).cell in
            sooner o g p E (j + 1) (c + 1) k k source _ _ (omega (arith, from)) (omega arith) (omega (arith, turn, short)) R
      ]

module _ (law : AreSpaced) (C : ℕ) (o : Opening) (g : ℕ) (p : SlotTable) (E : List Event) (H : IsPlannedHistory (history_of o g p E)) (spaced : AreSpacedTables o g p E) where
  -- the last word of the source, if one was sent
  last_at : (j source slot w : ℕ) (x : Placed) → CellIsAnswered C (history_of o g p E) j x slot (Some w) → x.source ≡ source → last_of (accepted_by C o source (take j E)) ≡ Some w
  last_at j source slot w x A same =
      ap (λ (z : ℕ). last_of (accepted_by C o z (take j E))) (sym same) ∙ last_sent _ (last_of (accepted_by C o x.source (take j E))) w (word_of C o g p E j x slot (Some w) H.opens A)

  -- A cell of a source that holds no words, after one in which a word was sent: it is close to none sent before, so by then one is sent.
  pub sent_by : (j k source end q slot w : ℕ) (x : Placed) → k ≤ length E → CellIsAnswered C (history_of o g p E) j x slot (Some w) → x.source ≡ source → (R : HasCell (history_of o g p E) (j + 1) k source end) → IsUnheld q R.output
      → ((W : IsSentWithin C o g p E R.place R.output R.slot) → W.place < j + 1 → ⊥) → SendsOne C (history_of o g p E) (j + 1) k source end
  sent_by j k source end q slot w x few A same R free far =
      let before : R.place < k = R.before in
      let high : R.slot < end = R.high in
      let from : j + 1 ≤ R.place = R.from in
      let near = is_too_close (answered_cells C o g p (take R.place E)) R.slot R.output.source R.output.limits.spacing in
      elim (cases_Bool near) [
        | inl close ↦
            let W = law.only C o g p E R.place R.output R.slot (omega (arith, before, few)) close in
            let early : W.place < R.place = W.before in
            elim (cases_lt W.place (j + 1)) [
              | inl past ↦ absurd (far W past)
              | inr since ↦
                  let order = in_order o g p E W.place R.place W.earlier R.output W.at R.slot H.opens early W.sends.cell R.cell in
                  record {
                    cell = record { place = W.place; from = since; before = omega (arith, early, before); output = W.earlier; same = W.same ∙ R.same; slot = W.at; cell = W.sends.cell; high = omega (arith, order, high) };
                    word = W.word;
                    sent = answered_by C o g p E W.place W.earlier W.at W.word H.opens W.sends;
                  }
            ]
        | inr apart ↦
            let L = latest_after C o E R.output.source j R.place w H.apart (last_at j R.output.source slot w x A (same ∙ sym R.same)) (omega (arith, from)) (omega (arith, before, few)) in
            record {
              cell = R;
              word = L.word;
              sent = sends_latest law C o g p E H spaced R.place 0 R.output R.slot R.cell (unheld C o g p E R.place R.output free.hold) (λ close. true≢false (sym close ∙ apart)) L;
            }
      ]

  -- a cell is this number of slots after the one in which a word was sent: it is not too close to an earlier one
  pub far_from : (j l q slot s w : ℕ) (x y : Placed) → CellIsAnswered C (history_of o g p E) j x slot (Some w) → IsUnheld q y → slot + q ≤ s → (W : IsSentWithin C o g p E l y s) → W.place < j + 1 → ⊥
  far_from j l q slot s w x y A free far W past =
      let close : s < W.at + y.limits.spacing = W.close in
      let spacing : y.limits.spacing ≤ q = free.spacing in
      omega (arith, close, spacing, far, no_later o g p E W.place j W.earlier x W.at slot H.opens (omega (arith, past)) W.sends.cell A.cell)

  pub sends_across : (j c k source : ℕ) (old new : SlotPlace) (x : Placed) (slot w q span : ℕ) → Changes (history_of o g p E) j k source (move_of c old new) → EachOutput (history_of o g p E) j k source (IsUnheld q)
      → CellIsAnswered C (history_of o g p E) j x slot (Some w) → x.source ≡ source → period_of old + period_of new ≤ span → q + period_of new ≤ span → slot + span ≤ next_slot_on (history_of o g p E) k new.bus
      → SendsOne C (history_of o g p E) (j + 1) k source (slot + span)
  sends_across j c k source old new x slot w q span K free A same both wide passes =
      let before : c < k = K.before in
      let few : k ≤ length E = K.few in
      let from : j ≤ c = K.from in
      let less = before_change o g p E spaced j c x slot from K.taken A.cell in
      let some : 0 < period_of new = pow_pos new.period in
      let next = (cell_here o g p E spaced j source old x slot (K.stays j (omega arith) (omega (arith, less))) A.cell same).after in
      let turn = turns_to o g p E spaced c source old new.bus (omega (arith, before, few)) K.taken (K.stays c from (omega arith)) in
      elim (cases_lt (next_slot_on (history_of o g p E) c old.bus) (slot + 1 + period_of old)) [
        | inr long ↦
            let keeps = fewer o g p E j j c (c + 1) source old (omega arith) (omega arith) K.stays in
            let F = (comes_round o g p E spaced (suc j) c source old (omega (arith, less)) (omega (arith, before, few)) (fewer o g p E j (suc j) c c source old (omega arith) (omega arith) keeps) (omega (arith, next, long))).cell in
            let on : suc j ≤ F.place = F.from in
            let soon : F.place < c = F.before in
            let R = sooner o g p E (j + 1) (suc j) c k source (next_slot_on (history_of o g p E) (suc j) old.bus + period_of old) (slot + span) (omega arith) (omega (arith, before)) (omega (arith, next, both, some)) F in
            sent_by j k source (slot + span) q slot w x few A same R (fits_cell o g p E j k source F.place (IsUnheld q) F.output F.slot free (omega (arith, on)) (omega (arith, soon, before)) F.cell F.same)
            (far_after law C o g p E H spaced j c source old (omega (arith, before, few)) keeps j F.place x F.output slot F.slot (omega arith) (omega (arith, on)) soon A.cell same F.cell F.same)
        | inl short ↦
            let least : ℕ = max (next_slot_on (history_of o g p E) c old.bus) (slot + q) in
            let F = comes_from law C o g p E H spaced (c + 1) k source least new (omega (arith, before)) few K.goes_on (omega (arith, turn)) (omega (arith, short, both, wide, passes)) in
            let low : least ≤ F.cell.slot = F.low in
            let on : c + 1 ≤ F.cell.place = F.cell.from in
            let R = sooner o g p E (j + 1) (c + 1) k k source (least + period_of new) (slot + span) (omega (arith, from)) (omega arith) (omega (arith, short, both, wide)) F.cell in
            let fits = fits_cell o g p E j k source F.cell.place (IsUnheld q) F.cell.output F.cell.slot free (omega (arith, on, from)) F.cell.before F.cell.cell F.cell.same in
            sent_by j k source (slot + span) q slot w x few A same R fits (far_from j F.cell.place q slot F.cell.slot w x F.cell.output A fits (omega (arith, low)))
      ]

  pub out_across : (h i c k source : ℕ) (old new : SlotPlace) (q n : ℕ) → IsAcceptedBefore C o E i c source → h ≤ i → Changes (history_of o g p E) h k source (move_of c old new) → EachOutput (history_of o g p E) i k source (MaySend q)
      → Passes (history_of o g p E) h i old (period_of old) → period_of old + period_of new ≤ n + 1 → q + period_of new ≤ n + 1 → next_slot_on (history_of o g p E) i old.bus + n ≤ next_slot_on (history_of o g p E) k new.bus
      → GoesOut C (history_of o g p E) i k source (next_slot_on (history_of o g p E) i old.bus + n)
  out_across h i c k source old new q n A settled K may passes both wide enough =
      let first : ℕ = next_slot_on (history_of o g p E) i old.bus in
      let before : c < k = K.before in
      let few : k ≤ length E = K.few in
      let after : i ≤ c = A.after in
      let some : 0 < period_of new = pow_pos new.period in
      let old_some : 0 < period_of old = pow_pos old.period in
      let keeps = fewer o g p E h h c (c + 1) source old (omega arith) (omega arith) K.stays in
      let turn = turns_to o g p E spaced c source old new.bus (omega (arith, before, few)) K.taken (K.stays c (omega (arith, settled, after)) (omega arith)) in
      elim (cases_lt (next_slot_on (history_of o g p E) c old.bus) (first + period_of old)) [
        | inr long ↦
            let G = in_time law C o g p E H spaced h i i c source q old settled (omega arith) after A keeps (λ j from below. may j from (omega (arith, below, before))) passes long in
            record {
              cell = sooner o g p E i i c k source (first + period_of old) (first + n) (omega arith) (omega (arith, before)) (omega (arith, both, some)) G.cell;
              word = G.word;
              sent = G.sent;
              fresh = G.fresh;
            }
        | inl short ↦
            let least : ℕ = max (next_slot_on (history_of o g p E) c old.bus) (first + (q - 1)) in
            let F = comes_from law C o g p E H spaced (c + 1) k source least new (omega (arith, before)) few K.goes_on (omega (arith, turn)) (omega (arith, short, both, wide, enough, old_some)) in
            let low : least ≤ F.cell.slot = F.low in
            let on : c + 1 ≤ F.cell.place = F.cell.from in
            let R = sooner o g p E i (c + 1) k k source (least + period_of new) (first + n) (omega (arith, after)) (omega arith) (omega (arith, short, both, wide, old_some)) F.cell in
            let fits = fits_cell o g p E i k source F.cell.place (MaySend q) F.cell.output F.cell.slot may (omega (arith, on, after)) F.cell.before F.cell.cell F.cell.same in
            out_by law C o g p E H spaced i k source (first + n) q few A.word R fits
            (far_on law C o g p E H spaced i source q old (omega (arith, after, before, few)) (K.stays i settled (omega (arith, after))) F.cell.place F.cell.output F.cell.slot F.cell.same fits (omega (arith, low)))
      ]

  pub latency_across : (h i c k source : ℕ) (old new : SlotPlace) (q n : ℕ) (clock : Clock) → IsAcceptedBefore C o E i c source → h ≤ i → Changes (history_of o g p E) h k source (move_of c old new) → EachOutput (history_of o g p E) i k source (MaySend q)
      → Passes (history_of o g p E) h i old (period_of old) → period_of old + period_of new ≤ n + 1 → q + period_of new ≤ n + 1 → next_slot_on (history_of o g p E) i old.bus + n ≤ next_slot_on (history_of o g p E) k new.bus → KeepsTime (history_of o g p E) clock
      → GoesOutWithin C (history_of o g p E) (wait_of source i k (next_slot_on (history_of o g p E) i old.bus + n)) clock ((n + 1) * clock.slot_time)
  latency_across h i c k source old new q n clock A settled K may passes both wide enough T =
      let G = out_across h i c k source old new q n A settled K may passes both wide enough in
      let after : i ≤ c = A.after in
      let few : c ≤ length E = A.few in
      record {
        out = G;
        soon = settled_time law C o g p E H spaced h i source (next_slot_on (history_of o g p E) i old.bus) n G.cell.slot old clock settled (omega (arith, after, few)) (fewer o g p E h h i (c + 1) source old (omega arith) (omega (arith, after)) K.stays) passes refl G.cell.high T;
      }
