-- The word that a group sends in a cell is no later than the bound of its output.
use Rattle.std.proofs.Common.{◌≡◌, ◌∙◌, ◌+◌, ◌-◌, ◌*◌, ◌/◌, ◌%◌, ◌^◌, ◌<◌, ◌≤◌, ◌⊎◌, ℕ, zero, suc, Bool, true, false, true≢false, inl, inr, List, [], ◌∷◌, ◌++◌, length, take, drop, refl, sym, ap, subst, arith, append-nil, append_assoc, eq-eqb}
use Rattle.std.specs.Prelude.{◌==◌, ◌||◌, Option, Some, None, filter_map, if◌then◌else◌, nat_le, nat_lt, option_and_then, option_map, slice_get, unwrap_or}
use Rattle.std.specs.List.{list_any, range_with_len}
use Rattle.std.specs.Option.{option_map_or}
use Rattle.std.proofs.Math.Nat.{zero-div, zero-mod}
use Rattle.std.proofs.lemmas.Bool.{cases_lt, le-leb, le-ltb}
use Rattle.std.proofs.lemmas.Grind.{div_ceil_times}
use Rattle.std.proofs.lemmas.List.{length-take, take-append-drop, take-append-le, take-map}
use Rattle.std.proofs.lemmas.List.Elements.{filter_map-append}
use Rattle.std.proofs.lemmas.List.Folds.{list_any-append}
use Rattle.std.proofs.lemmas.Nat.{mul-le}
use Rattle.std.proofs.lemmas.Option.{none-some, same_Some, slice_get-get_or, slice_get-map, slice_get_within}
use Rattle.a429_word.proofs.Lists.{all_at, get_within}
use Rattle.a429_equipment.specs.Agreement.{last_of}
use Rattle.a429_equipment.specs.Limits.{count_bits}
use Rattle.a429_equipment.specs.Sound.{IsGroupRow, IsSound}
use Rattle.a429_equipment.specs.declared.rows.GroupRow.{GroupRow}
use Rattle.a429_grid.specs.Grid.{slot_time}
use Rattle.a429_slots.specs.Times.{latency_us, slots_us}
use Rattle.a429_slots.specs.Answers.{answer, cell_answer}
use Rattle.a429_slots.specs.Events.{Event, Arrive, Cell, Publish}
use Rattle.a429_slots.specs.History.{Current, Opening, OpensWith, accepted_by, answered_cell, answered_cells, cell_due, current, is_held, is_too_close, proposal_for, word_sent}
use Rattle.a429_slots.specs.Planned.{IsPlanOf, IsPlannedAt, rated_outputs}
use Rattle.a429_slots.specs.Proposed.{Proposed}
use Rattle.a429_slots.specs.Spacing.{HaveOwnPlans, IsOutputCell, IsSpacedTable, PlansInForceAreSpaced}
use Rattle.a429_slots.specs.Tables.{Placed, SlotTable, groups_of, output_in, outputs_of, placed_at, source_at, unplaced}
use Rattle.a429_slots.specs.declared.answers.Answer.{Answer}
use Rattle.a429_slots.specs.declared.answers.Answer.TheVariants.{Sent, Refused}
use Rattle.a429_slots.specs.declared.answers.Refusal.TheVariants.{FrameEnd, NoSuch}
use Rattle.a429_slots.specs.declared.group_plan.SlotPlace.{SlotPlace}
use Rattle.a429_slots.specs.GoingOn.{stands_after}
use Rattle.a429_slots.proofs.Histories.{by_ends}
use Rattle.a429_slots.proofs.SamePlan.{is_at}
use Rattle.a429_slots.proofs.SpacedTables.{row_of}
use Rattle.a429_core.specs.Histories.{GroupHistory, history_of as group_history}
use Rattle.a429_core.specs.Latency.{AnswersOn, EachOutput, GoesOut, HasOutput, IsAcceptedAt, IsPlannedHistory, KeepsOutput, MaySend, OpeningWordsGoOutInTime, Passes, next_slot_on, period_of}
use Rattle.a429_core.specs.Spaced.{CellIsAnswered}
use Rattle.a429_core.proofs.Carrying.{sent_in}
use Rattle.a429_core.proofs.ComingRound.{comes_round}
use Rattle.a429_core.proofs.GoingOut.{arrived_before, last_sent}
use Rattle.a429_core.proofs.Rounds.{cell_here, passes_on}
use Rattle.a429_recordings.specs.Simulating.{Step, Asks, Comes, Turns, answer_after, event_of, happening_after, happening_by, happenings_after, happenings_of, history_of, last_word, listed, opening_of, source_in, steps_of, times_of, word_sent as sent_word_of}
use Rattle.a429_recordings.specs.Summary.{lateness, send_in, sends_of}
use Rattle.a429_recordings.specs.Timeline.{MomentsAreInOrder, rate_of, slot_of, table_of}
use Rattle.a429_recordings.specs.declared.simulate.figures.OutputSend.{OutputSend}
use Rattle.a429_recordings.specs.declared.simulate.log.LogWord.{LogWord}
use Rattle.a429_recordings.specs.declared.simulate.machine.Happening.TheVariants.{Sends}
use Rattle.a429_recordings.specs.declared.simulate.machine.Heard.{Heard}
use Rattle.a429_recordings.specs.declared.simulate.moments.Moment.{Moment}
use Rattle.a429_recordings.proofs.LastAccepted.{LastAccepted, at_front, last_accepted}
use Rattle.a429_recordings.proofs.SentCells.{none_published, whole_frames}
use Rattle.a429_recordings.proofs.SimulatedSteps.{CountsWords, count_more, none_accepted, none_in_time, table_at}
use Rattle.a429_recordings.proofs.SlotTimes.{slot_is}
use Rattle.a429_recordings.proofs.StepOrder.{follows_at, steps_in_order}

-- ---- times in microseconds

-- a word came in after the begin of the slot before slot n, and goes out in one of the next p slots from slot n on
late_bound : (rate time t n p : ℕ) → 1 ≤ rate → t < n + p → (n ≡ 0) ⊎ ((n - 1) * slot_time ≤ time * rate) → slots_us rate (t + 1) - time ≤ slots_us rate (p + 1)
late_bound rate time t n p some soon begun =
    let end = slots_us rate (t + 1) in
    let most = slots_us rate (p + 1) in
    let above = (div_ceil_times (slot_time * (t + 1)) rate some).1 in
    let below = (div_ceil_times (slot_time * (p + 1)) rate some).0 in
    let early : slot_time * (t + 1) ≤ time * rate + slot_time * (p + 1) = elim begun [ inl none ↦ omega (arith, none, soon) | inr begin ↦ omega (arith, begin, soon) ] in
    elim (cases_lt (time + most) end) [
      | inr low ↦ omega (arith, low)
      | inl high ↦
          let more = mul-le (time + most + 1) rate end rate (omega (arith, high)) (omega arith) in
          let parts : (time + most + 1) * rate ≡ time * rate + most * rate + rate = omega arith in
          absurd (omega (arith, more, parts, above, below, early))
    ]

-- ---- lists

take_at : {X : Type 0} (xs : List X) (k c : ℕ) (x : X) → c < k → slice_get xs c ≡ Some x → slice_get (take k xs) c ≡ Some x
take_at [] k c x below there = absurd (none-some x there)
take_at (y ∷ xs) zero c x below there = absurd (omega (arith, below))
take_at (y ∷ xs) (suc k) zero x below there = there
take_at (y ∷ xs) (suc k) (suc c) x below there = take_at xs k c x (omega (arith, below)) there

at_taken : {X : Type 0} (xs : List X) (k c : ℕ) (x : X) → slice_get (take k xs) c ≡ Some x → slice_get xs c ≡ Some x
at_taken {X} xs k c x there = subst (λ (l : List X). slice_get l c ≡ Some x) (take-append-drop k xs) (at_front (take k xs) (drop k xs) c x there)

take_less : {X : Type 0} (xs : List X) (k c : ℕ) → c ≤ length (take k xs) → take c (take k xs) ≡ take c xs
take_less xs k c few = sym (take-append-le c (take k xs) (drop k xs) few) ∙ ap (take c) (take-append-drop k xs)

at_length : (before after : List Event) (e : Event) → slice_get (before ++ e ∷ after) (length before) ≡ Some e
at_length [] after e = refl
at_length (x ∷ before) after e = at_length before after e

some_last : (xs : List ℕ) (w : ℕ) → last_of xs ≡ Some w → 0 < length xs
some_last [] w is = absurd (none-some w is)
some_last (x ∷ xs) w is = omega arith

-- ---- steps and their events

mapped : (x : Option Step) (e : Event) → option_map event_of x ≡ Some e → (s : Step) × (x ≡ Some s) × (event_of s ≡ e)
mapped None e is = absurd (none-some e is)
mapped (Some s) e is = (s, refl, same_Some (event_of s) e is)

asks_of : (s : Step) (g : ℕ) → event_of s ≡ Cell g → (t : ℕ) × (s ≡ Asks g t)
asks_of (Comes w) g is = absurd (cc is)
asks_of (Asks h t) g is = let same : h ≡ g = cc is in (t, ap (λ (k : ℕ). Asks k t) same)
asks_of (Turns h) g is = absurd (cc is)

unpublished : (s : Step) (p : Proposed) → event_of s ≡ Publish p → ⊥
unpublished (Comes w) p is = cc is
unpublished (Asks h t) p is = cc is
unpublished (Turns h) p is = cc is

asked_step : (S : List Step) (k g : ℕ) → slice_get (history_of S) k ≡ Some (Cell g) → (t : ℕ) × (slice_get S k ≡ Some (Asks g t))
asked_step S k g is =
    let (s, there, event) = mapped (slice_get S k) (Cell g) (sym (slice_get-map event_of S k) ∙ is) in
    let (t, same) = asks_of s g event in
    (t, there ∙ ap (λ (x : Step). Some x) same)

-- ---- an answer with a word is that of an output's cell

held_no : (held close : Bool) (x : Option ℕ) (w : ℕ) → (if held || close then None else x) ≡ Some w → held ≡ false
held_no true close x w is = absurd (none-some w is)
held_no false close x w is = refl

some_hold : (times : ℕ) (hold : Option ℕ) → option_map_or (λ most. nat_le most times) hold false ≡ false → (most : ℕ) → hold ≡ Some most → 0 < most
some_hold times None free most is = absurd (none-some most is)
some_hold times (Some n) free most is =
    let same : n ≡ most = same_Some n most is in
    elim (cases_lt 0 n) [
      | inl more ↦ omega (arith, more, same)
      | inr none ↦ absurd (true≢false (sym (le-leb n times (omega (arith, none))) ∙ free))
    ]

module _ (C : ℕ) (o : Opening) (g : ℕ) (p : SlotTable) (E : List Event) (k bus slot word : ℕ) where
  record SentOutput : Type 0 where
    pub output : Placed
    pub cell : IsOutputCell o g p E k output slot
    pub on : cell.cell.0 ≡ bus
    pub last : last_of (accepted_by C o output.source (take k E)) ≡ Some word
    pub may : (most : ℕ) → output.limits.hold ≡ Some most → 0 < most

  abbrev frame : Current
  frame = current o g p (take k E)

  by_output : slice_get E k ≡ Some (Cell g) → (c : ℕ × ℕ) → cell_due g frame ≡ Some c → c.0 ≡ bus → frame.first + c.1 ≡ slot → (x : Option Placed) → output_in frame.table c.0 c.1 ≡ x
      → option_and_then (λ out. (answered_cell C o (take k E) (answered_cells C o g p (take k E)) (frame.first + c.1) out).word) x ≡ Some word → SentOutput
  by_output asked c due on at None stands is = absurd (none-some word is)
  by_output asked c due on at (Some out) stands is =
      let earlier = answered_cells C o g p (take k E) in
      let held = is_held earlier out.source out.limits.hold (length (accepted_by C o out.source (take k E))) in
      let close = is_too_close earlier (frame.first + c.1) out.source out.limits.spacing in
      record {
        output = out;
        cell = record { asked = asked; cell = c; due = due; stands = stands; counted = sym at };
        on = on;
        last = last_sent (held || close) (last_of (accepted_by C o out.source (take k E))) word is;
        may = some_hold _ out.limits.hold (held_no held close (last_of (accepted_by C o out.source (take k E))) word is);
      }

  by_due : slice_get E k ≡ Some (Cell g) → (d : Option (ℕ × ℕ)) → cell_due g frame ≡ d
      → option_map_or (λ c. Sent c.0 (frame.first + c.1) (word_sent C o (take k E) (answered_cells C o g p (take k E)) frame c)) d (Refused FrameEnd) ≡ Sent bus slot (Some word) → SentOutput
  by_due asked None due is = absurd (none-some (bus, slot, Some word) (ap sent_in is))
  by_due asked (Some c) due is =
      let all = same_Some (c.0, frame.first + c.1, word_sent C o (take k E) (answered_cells C o g p (take k E)) frame c) (bus, slot, Some word) (ap sent_in is) in
      by_output asked c due (ap (λ (x : ℕ × ℕ × Option ℕ). x.0) all) (ap (λ (x : ℕ × ℕ × Option ℕ). x.1) all) (output_in frame.table c.0 c.1) refl (ap (λ (x : ℕ × ℕ × Option ℕ). x.2) all)

  sent_output : slice_get (groups_of o.proposal.plan) g ≡ Some p → slice_get E k ≡ Some (Cell g) → answer C o (take k E) (Cell g) ≡ Sent bus slot (Some word) → SentOutput
  sent_output there asked is =
      by_due asked (cell_due g frame) refl
      (sym (ap (λ (x : Option SlotTable). option_map_or (λ t. cell_answer C o (take k E) g (answered_cells C o g t (take k E)) (current o g t (take k E))) x (Refused NoSuch)) there) ∙ is)

-- ---- the sends of a source

abbrev pub send_of : ℕ → Heard → OutputSend
send_of t heard = record { slot = t; word = heard.word; time = heard.time }

module _ (q : Proposed) (g source : ℕ) where
  pub own_send : (times : ℕ → List ℕ) (t bus slot raw : ℕ) (a : Answer) → a ≡ Sent bus slot (Some raw) → source_in q g bus slot ≡ source
      → sends_of g source (listed (happening_by q times (Asks g t) a)) ≡ send_of t (last_word (times source)) ∷ []
  own_send times t bus slot raw a is from =
      let i = source_in q g bus slot in
      let group : (g == g) ≡ true = eq-eqb g g refl in
      let own : (i == i) ≡ true = eq-eqb i i refl in
      ap (λ (x : Answer). sends_of g source (listed (happening_by q times (Asks g t) x))) is
      ∙ subst (λ (s : ℕ). sends_of g s (Sends (sent_word_of g t bus raw i (last_word (times i))) ∷ []) ≡ send_of t (last_word (times s)) ∷ []) from (rw (group, own) refl)

  or_true : (b : Bool) → (b || true) ≡ true
  or_true true = refl
  or_true false = refl

  -- a word of a step is one of those of all steps
  sent_before : (past xs : List Step) (c w : ℕ) (s : Step) (e : OutputSend) → slice_get xs c ≡ Some s → sends_of g source (listed (happening_after q (past ++ take c xs) s)) ≡ e ∷ [] → e.word ≡ w
      → list_any (λ (d : OutputSend). d.word == w) (sends_of g source (happenings_after q past xs)) ≡ true
  sent_before past [] c w s e there sends same = absurd (none-some s there)
  sent_before past (x ∷ xs) zero w s e there sends same =
      let T = λ (d : OutputSend). d.word == w in
      let rest = sends_of g source (happenings_after q (past ++ x ∷ []) xs) in
      let here : x ≡ s = same_Some x s there in
      let one : sends_of g source (listed (happening_after q past x)) ≡ e ∷ [] =
      ap (λ (y : Step). sends_of g source (listed (happening_after q past y))) here ∙ (ap (λ (p : List Step). sends_of g source (listed (happening_after q p s))) (sym (append-nil past)) ∙ sends) in
      let own : (e.word == w) ≡ true = eq-eqb e.word w same in
      ap (list_any T) (filter_map-append (send_in g source) (listed (happening_after q past x)) (happenings_after q (past ++ x ∷ []) xs))
      ∙ (list_any-append T (sends_of g source (listed (happening_after q past x))) rest
      ∙ (ap (λ (l : List OutputSend). list_any T l || list_any T rest) one ∙ rw own refl))
  sent_before past (x ∷ xs) (suc c) w s e there sends same =
      let T = λ (d : OutputSend). d.word == w in
      let one = sends_of g source (listed (happening_after q past x)) in
      let rest = sends_of g source (happenings_after q (past ++ x ∷ []) xs) in
      let later : list_any T rest ≡ true =
      sent_before (past ++ x ∷ []) xs c w s e there (ap (λ (p : List Step). sends_of g source (listed (happening_after q p s))) (append_assoc past (x ∷ []) (take c xs)) ∙ sends) same in
      ap (list_any T) (filter_map-append (send_in g source) (listed (happening_after q past x)) (happenings_after q (past ++ x ∷ []) xs))
      ∙ (list_any-append T one rest ∙ (ap (λ (b : Bool). list_any T one || b) later ∙ or_true (list_any T one)))

-- ---- a group of a plan

rate_some : (q : Proposed) (g : ℕ) → IsSound q.station → 1 ≤ rate_of q g
rate_some q g sound = by (slice_get q.station.groups g) refl
  where
    by : (x : Option GroupRow) → slice_get q.station.groups g ≡ x → 1 ≤ option_map_or (λ row. row.rate) x 1
    by None is = omega arith
    by (Some row) is = elim (all_at IsGroupRow q.station.groups g row sound.group_rows is).1 [ inl fast ↦ omega (arith, fast) | inr slow ↦ omega (arith, slow.0) ]

module _ (q : Proposed) (sound : IsSound q.station) (planned : IsPlanOf q.station q.plan) (force : PlansInForceAreSpaced) (out : OpeningWordsGoOutInTime) (g : ℕ) (below : g < length (groups_of q.plan)) (M : List Moment) where
  abbrev steps : List Step
  steps = steps_of q M

  abbrev events : List Event
  events = history_of steps

  abbrev run : GroupHistory
  run = group_history (opening_of q) g (table_of q g) events

  opens : OpensWith (opening_of q) g (table_of q g)
  opens = let (t, there) = get_within (groups_of q.plan) g below in there ∙ ap (λ (x : SlotTable). Some x) (sym (table_at q g t there))

  cut : (k : ℕ) → take k events ≡ history_of (take k steps)
  cut k = take-map event_of k steps

  own_plans : HaveOwnPlans (opening_of q) events
  own_plans = record {
    opening = record { plan = record { number = refl; count = planned.count; groups = planned.groups }; own = sound.own_sources };
    published = λ before after p split.
        let there : slice_get events (length before) ≡ Some (Publish p) = ap (λ (E : List Event). slice_get E (length before)) split ∙ at_length before after (Publish p) in
        let (s, at, event) = mapped (slice_get steps (length before)) (Publish p) (sym (slice_get-map event_of steps (length before)) ∙ there) in
        absurd (unpublished s p event);
  }

  planned_run : IsPlannedHistory run
  planned_run = record { apart = sound.apart; opens = opens; own = own_plans }

  -- one plan is in force
  abbrev frame_at : ℕ → Current
  frame_at k = current (opening_of q) g (table_of q g) (take k events)

  none_at : (k : ℕ) → filter_map (proposal_for (opening_of q)) (take k events) ≡ []
  none_at k = ap (filter_map (proposal_for (opening_of q))) (cut k) ∙ none_published (opening_of q) (take k steps)

  same_table : (k : ℕ) → (frame_at k).table ≡ table_of q g
  same_table k = (whole_frames (opening_of q) g (table_of q g) opens refl (take k events) (none_at k)).table

  spaced : (k : ℕ) → IsSpacedTable (frame_at k).table
  spaced k = force (opening_of q) g (table_of q g) events k opens own_plans

  -- the source in a cell is that of its output
  source_there : (k slot : ℕ) (y : Placed) (I : IsOutputCell (opening_of q) g (table_of q g) events k y slot) → source_in q g I.cell.0 slot ≡ y.source
  source_there k slot y I =
      let p = table_of q g in
      let W = whole_frames (opening_of q) g p opens refl (take k events) (none_at k) in
      let output : output_in p I.cell.0 I.cell.1 ≡ Some y = subst (λ (t : SlotTable). output_in t I.cell.0 I.cell.1 ≡ Some y) W.table I.stands in
      let at = I.counted ∙ ap (λ (m : ℕ). m + I.cell.1) W.first in
      let R = row_of (IsPlannedAt q.station.sources) (rated_outputs q.station) (groups_of q.plan) g p planned.groups opens in
      let round = comes_round R.row.0 q.station.sources R.row.1 p W.times I.cell.0 I.cell.1 y R.related output in
      ap (λ (x : Option ℕ). unwrap_or x 0) (ap (source_at p I.cell.0) at ∙ round)

  -- the first slot of a bus
  zero_next : (b bus : ℕ) → 0 + (0 / b + (if nat_lt bus (0 % b) then 1 else 0)) ≡ 0
  zero_next b bus = rw (zero-mod b, zero-div b, le-ltb bus 0 (omega arith)) refl

  first_slot : (bus : ℕ) → next_slot_on run 0 bus ≡ 0
  first_slot bus =
      let b = (table_of q g).buses in
      let none : (stands_after (opening_of q) g (table_of q g) []).sent ≡ 0 = omega arith in
      ap (λ (m : ℕ). 0 + (m / b + (if nat_lt bus (m % b) then 1 else 0))) none ∙ zero_next b bus

  -- ---- an output of it

  module _ (n : ℕ) (within : n < length (outputs_of (table_of q g))) (len : ℕ) (slots : filter_map (slot_of g) M ≡ range_with_len 0 len) (order : MomentsAreInOrder q M) where
    abbrev row : Placed
    row = placed_at (table_of q g) n

    abbrev source : ℕ
    source = row.source

    abbrev at : SlotPlace
    at = row.place

    has : HasOutput (table_of q g) source at
    has = record { number = n; output = row; there = slice_get-get_or (outputs_of (table_of q g)) n unplaced within; of_source = refl; at_place = refl }

    has_at : (k : ℕ) → HasOutput (frame_at k).table source at
    has_at k = subst (λ (t : SlotTable). HasOutput t source at) (sym (same_table k)) has

    keeps : (i k : ℕ) → KeepsOutput run i k source at
    keeps i k j from before = has_at j

    -- it may send a word once, if a cell of it has one
    each : (i k : ℕ) (y : Placed) (number : ℕ) → slice_get (outputs_of (table_of q g)) number ≡ Some y → y.source ≡ source → ((most : ℕ) → y.limits.hold ≡ Some most → 0 < most)
        → EachOutput run i k source (MaySend y.limits.spacing)
    each i k y number there same may j from before m z here is =
        let own : IsSpacedTable (table_of q g) = subst IsSpacedTable (same_table j) (spaced j) in
        let listed' : slice_get (outputs_of (table_of q g)) m ≡ Some z = subst (λ (t : SlotTable). slice_get (outputs_of t) m ≡ Some z) (same_table j) here in
        let one : number ≡ m = own.own number m y z there listed' (same ∙ sym is) in
        let output : y ≡ z = same_Some y z (sym there ∙ (ap (slice_get (outputs_of (table_of q g))) one ∙ listed')) in
        subst (MaySend y.limits.spacing) output (record { hold = may; spacing = omega arith })

    -- the slot of a cell is that of its step
    slot_of_cell : (j t : ℕ) (cell : ℕ × ℕ) → slice_get steps j ≡ Some (Asks g t) → cell_due g (frame_at j) ≡ Some cell → t ≡ (frame_at j).first + cell.1
    slot_of_cell j t cell there due =
        subst (λ (E : List Event). t ≡ (current (opening_of q) g (table_of q g) E).first + cell.1) (sym (cut j))
        (slot_is q g opens M len j t cell slots there (subst (λ (E : List Event). cell_due g (current (opening_of q) g (table_of q g) E) ≡ Some cell) (cut j) due))

    -- the slot of a cell had begun when a word came in after it
    begun_by : (i slot : ℕ) (w : LogWord) → slice_get steps i ≡ Some (Comes w) → AnswersOn run 0 i at.bus slot → slot * slot_time ≤ w.time * rate_of q g
    begun_by i slot w came Z =
        let (t, there) = asked_step steps Z.place g Z.asked in
        let own : t ≡ (frame_at Z.place).first + Z.in_frame = slot_of_cell Z.place t (at.bus, Z.in_frame) there Z.due in
        let counted : slot ≡ (frame_at Z.place).first + Z.in_frame = Z.counted in
        let same : t ≡ slot = omega (arith, own, counted) in
        subst (λ (m : ℕ). m * slot_time ≤ w.time * rate_of q g) same (follows_at q steps Z.place i (Asks g t) (Comes w) (steps_in_order q M order) there came Z.before)

    -- so had the slot before the next one
    had_begun : (i : ℕ) (w : LogWord) → slice_get steps i ≡ Some (Comes w) → i ≤ length events
        → (next_slot_on run i at.bus ≡ 0) ⊎ ((next_slot_on run i at.bus - 1) * slot_time ≤ w.time * rate_of q g)
    had_begun i w came few =
        let P = passes_on (opening_of q) g (table_of q g) events spaced 0 i source at (omega arith) few (keeps 0 i) in
        by (next_slot_on run i at.bus) P.all (first_slot at.bus)
      where
        by : (n : ℕ) → ((slot : ℕ) → next_slot_on run 0 at.bus ≤ slot → slot < n → AnswersOn run 0 i at.bus slot) → next_slot_on run 0 at.bus ≡ 0 → (n ≡ 0) ⊎ ((n - 1) * slot_time ≤ w.time * rate_of q g)
        by zero all start = inl refl
        by (suc n) all start =
            let less : suc n - 1 ≡ n = omega arith in
            inr (subst (λ (m : ℕ). m * slot_time ≤ w.time * rate_of q g) (sym less) (begun_by i n w came (all n (omega (arith, start)) (omega arith))))

    -- ---- the last accepted word

    abbrev Last : ℕ → Type 0
    Last k = LastAccepted q (take k steps) source

    abbrev count_at : ℕ → ℕ
    count_at k = length (times_of q (take k steps) source)

    abbrev is_sent_by : ℕ → Bool
    is_sent_by k = list_any (λ (d : OutputSend). d.word == count_at k) (sends_of g source (happenings_of q (take k steps)))

    has_last : (k raw : ℕ) → last_of (accepted_by count_bits (opening_of q) source (take k events)) ≡ Some raw → Last k
    has_last k raw heard =
        let past = take k steps in
        let count : length (times_of q past source) ≡ length (accepted_by count_bits (opening_of q) source (history_of past)) =
        by_ends (CountsWords q source) (ap length (none_in_time q source) ∙ sym (none_accepted q source)) (count_more q source sound.apart) past in
        let some = some_last (accepted_by count_bits (opening_of q) source (history_of past)) raw (subst (λ (E : List Event). last_of (accepted_by count_bits (opening_of q) source E) ≡ Some raw) (cut k) heard) in
        last_accepted q source sound.apart past (omega (arith, count, some))

    came_in : (k : ℕ) (L : Last k) → slice_get steps L.place ≡ Some (Comes L.word)
    came_in k L = at_taken steps k L.place (Comes L.word) L.came

    came_before : (k : ℕ) (L : Last k) → L.place < k
    came_before k L =
        let inside = slice_get_within (take k steps) L.place (Comes L.word) L.came in
        omega (arith, inside, length-take k steps)

    arrived : (k : ℕ) (L : Last k) → IsAcceptedAt count_bits (opening_of q) events L.place source
    arrived k L =
        let inside = slice_get_within (take k steps) L.place (Comes L.word) L.came in
        let before : take L.place events ≡ history_of (take L.place (take k steps)) = cut L.place ∙ ap (λ (xs : List Step). history_of xs) (sym (take_less steps k L.place (omega (arith, inside)))) in
        record {
          receiver = L.word.receiver;
          word = L.word.raw;
          came = slice_get-map event_of steps L.place ∙ ap (option_map event_of) (came_in k L);
          accepted = ap (λ (E : List Event). answer count_bits (opening_of q) E (Arrive L.word.receiver L.word.raw)) before ∙ L.accepted;
        }

    -- if it went out before, the sends so far have it
    sent_earlier : (k c slot word : ℕ) (z : Placed) (L : Last k) → L.place < c → c < k → CellIsAnswered count_bits run c z slot (Some word) → z.source ≡ source → is_sent_by k ≡ true
    sent_earlier k c slot word z L later early Z same =
        let past = take k steps in
        let (u, there) = asked_step steps c g Z.cell.asked in
        let seen : slice_get past c ≡ Some (Asks g u) = take_at steps k c (Asks g u) early there in
        let few : c < length past = slice_get_within past c (Asks g u) seen in
        let front : history_of (take c past) ≡ take c events = ap (λ (xs : List Step). history_of xs) (take_less steps k c (omega (arith, few))) ∙ sym (cut c) in
        let sent : answer_after q (take c past) (Asks g u) ≡ Sent Z.cell.cell.0 slot (Some word) = ap (λ (E : List Event). answer count_bits (opening_of q) E (Cell g)) front ∙ Z.answered in
        let one = own_send q g source (times_of q (take c past)) u Z.cell.cell.0 slot word (answer_after q (take c past) (Asks g u)) sent (source_there c slot z Z.cell ∙ same) in
        sent_before q g source [] past c (count_at k) (Asks g u) (send_of u (last_word (times_of q (take c past) source))) seen one (ap length (L.kept c later (omega (arith, few))))

    sent_again : (k end : ℕ) (L : Last k) (R : GoesOut count_bits run L.place k source end) → is_sent_by k ≡ true
    sent_again k end L R =
        let later = arrived_before count_bits (opening_of q) g (table_of q g) events L.place R.cell.place source R.cell.output R.cell.slot (arrived k L) R.cell.from R.cell.cell in
        sent_earlier k R.cell.place R.cell.slot R.word R.cell.output L later R.cell.before R.sent R.cell.same

    -- ---- the result

    abbrev IsSentHere : ℕ → ℕ → ℕ → ℕ → Type 0
    IsSentHere k bus slot raw = SentOutput count_bits (opening_of q) g (table_of q g) events k bus slot raw

    -- the cells of the output in which a word was not sent before
    not_passed : (k bus slot raw : ℕ) (X : IsSentHere k bus slot raw) → X.output.source ≡ source → (L : Last k) → is_sent_by k ≡ false → Passes run L.place k at (period_of at) → ⊥
    not_passed k bus slot raw X same L new passes =
        let W = is_at (frame_at k).table X.cell.cell.0 X.cell.cell.1 X.output X.cell.stands in
        let there : slice_get (outputs_of (table_of q g)) W.number ≡ Some X.output = subst (λ (u : SlotTable). slice_get (outputs_of u) W.number ≡ Some X.output) (same_table k) W.row in
        let whole = slice_get_within events k (Cell g) X.cell.asked in
        let early = came_before k L in
        let R = out count_bits run L.place k source at X.output.limits.spacing planned_run (record { word = arrived k L; after = omega (arith, early); few = omega (arith, whole) }) (keeps 0 k)
        (each L.place k X.output W.number there same X.may) passes in
        true≢false (sym (sent_again k (next_slot_on run L.place at.bus + period_of at) L R) ∙ new)

    by_cell : (k t bus slot raw : ℕ) → slice_get steps k ≡ Some (Asks g t) → (X : IsSentHere k bus slot raw) → X.output.source ≡ source → (L : Last k) → is_sent_by k ≡ false
        → slots_us (rate_of q g) (t + 1) - L.word.time ≤ latency_us (rate_of q g) (2 ^ at.period)
    by_cell k t bus slot raw asked X same L new =
        let next : next_slot_on run k at.bus ≡ slot = (cell_here (opening_of q) g (table_of q g) events spaced k source at X.output slot (has_at k) X.cell same).next in
        let own : t ≡ (frame_at k).first + X.cell.cell.1 = slot_of_cell k t X.cell.cell asked X.cell.due in
        let counted : slot ≡ (frame_at k).first + X.cell.cell.1 = X.cell.counted in
        let here : t ≡ next_slot_on run k at.bus = omega (arith, own, counted, next) in
        let whole = slice_get_within events k (Cell g) X.cell.asked in
        let early = came_before k L in
        elim (cases_lt (next_slot_on run k at.bus) (next_slot_on run L.place at.bus + period_of at)) [
          | inl soon ↦ late_bound (rate_of q g) L.word.time t (next_slot_on run L.place at.bus) (period_of at) (rate_some q g sound) (omega (arith, soon, here)) (had_begun L.place L.word (came_in k L) (omega (arith, early, whole)))
          | inr passes ↦ absurd (not_passed k bus slot raw X same L new passes)
        ]

    -- a word that is sent for the first time is no later than the bound
    pub no_later : (k t bus slot raw : ℕ) → slice_get steps k ≡ Some (Asks g t) → answer_after q (take k steps) (Asks g t) ≡ Sent bus slot (Some raw) → source_in q g bus slot ≡ source → is_sent_by k ≡ false
        → lateness (rate_of q g) (send_of t (last_word (times_of q (take k steps) source))) ≤ latency_us (rate_of q g) (2 ^ at.period)
    no_later k t bus slot raw asked answered from new =
        by_last (sent_output count_bits (opening_of q) g (table_of q g) events k bus slot raw opens (slice_get-map event_of steps k ∙ ap (option_map event_of) asked)
        (ap (λ (E : List Event). answer count_bits (opening_of q) E (Cell g)) (cut k) ∙ answered))
      where
        by_time : (X : IsSentHere k bus slot raw) → X.output.source ≡ source → (L : Last k) → lateness (rate_of q g) (send_of t (last_word (times_of q (take k steps) source))) ≤ latency_us (rate_of q g) (2 ^ at.period)
        by_time X same L = subst (λ (time : ℕ). slots_us (rate_of q g) (t + 1) - time ≤ latency_us (rate_of q g) (2 ^ at.period)) (sym L.time) (by_cell k t bus slot raw asked X same L new)

        by_last : IsSentHere k bus slot raw → lateness (rate_of q g) (send_of t (last_word (times_of q (take k steps) source))) ≤ latency_us (rate_of q g) (2 ^ at.period)
        by_last X =
            let same : X.output.source ≡ source = sym (source_there k slot X.output X.cell) ∙ (ap (λ (b : ℕ). source_in q g b slot) X.on ∙ from) in
            by_time X same (has_last k raw (subst (λ (s : ℕ). last_of (accepted_by count_bits (opening_of q) s (take k events)) ≡ Some raw) same X.last))
